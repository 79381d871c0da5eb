-- What a line comes to.
use Rattle.std.specs.Prelude.{◌≡◌, ◌<◌, ◌&&◌, ◌++◌, ℕ, suc, Bool, true, false, List, [], ◌∷◌, length, map, take, Option, Some, None, option_map, Result, Ok, Err}
use Rattle.term_core_spec.specs.Term.{Term}
use Rattle.term_bank.specs.Nodes.{tree_at, Holds}
use Rattle.word_steps_spec.specs.Numbers.{State, is_fact, are_facts, is_number, term_at, are_alike, is_bool, reading, rebuilt, signed}
use Rattle.word_steps_spec.specs.Numbers as spec
use Rattle.word_steps_spec.specs.Lines.{not_all}
use Rattle.memory_spec.specs.Runs.{Run}
use Rattle.word_steps.specs.declared.merging.Pair.{Pair}
use Rattle.term_core_spec.specs.declared.Sort.{Sort}
use Rattle.term_sorts.specs.Order.{terms_of}
use Rattle.word_steps.specs.declared.number.Number.{Number}
use Rattle.attempt.specs.declared.refusal.Refusal.{Refusal}
use Rattle.attempt.specs.declared.refusal.Refusal.TheVariants.{Fault, NoMemory}
use Rattle.word_steps.specs.declared.block.WordFault.{WordFault}
use Rattle.word_steps.specs.declared.block.WordFault.TheVariants.{Word}
use Rattle.word_steps.specs.declared.block.Block.{Block}
use Rattle.word_steps.specs.declared.number.Fact.{Fact}
use Rattle.word_steps.specs.declared.number.Reading.{Reading}
use Rattle.word_steps.specs.Views.{count_of, unmarked, marks_at, numbers_of, fact_of, reading_of, joined, IsIdBelow, AreNumbered}
use Rattle.word_steps.specs.Shows.{IsBlock, Shows}

-- the block shows what follows each state that the block before shows
pub record Becomes (old new : List Term) (before after : Block) (next : State → State) : Type 0 where
  pub block : IsBlock new after
  pub shows : (s : State) → Shows old before s → Shows new after (next s)

pub record Then (next : State → Option State) (s : State) (new : List Term) (after : Block) : Type 0 where
  pub state : State
  pub is : next s ≡ Some state
  pub shows : Shows new after state

-- the same, where that is allowed
pub record BecomesSome (old new : List Term) (before after : Block) (next : State → Option State) : Type 0 where
  pub block : IsBlock new after
  pub shows : (s : State) → Shows old before s → Then next s new after

abbrev pub IsRefused : (old : List Term) (before : Block) (next : State → Option State) → Type 0
IsRefused old before next = (s : State) → Shows old before s → next s ≡ None

-- a line is taken exactly where it is allowed
abbrev pub Takes : (next : State → Option State) (old new : List Term) (before after : Block) → Result (Unit {0}) (Refusal WordFault) → Type 0
Takes next old new before after (Ok done) = BecomesSome old new before after next
Takes next old new before after (Err (Fault Word)) = IsRefused old before next
Takes next old new before after (Err NoMemory) = Unit {0}

-- whether something comes of it: then the block becomes what follows, and else it shows what it showed
abbrev pub Tries : (old new : List Term) (before after : Block) (next : State → Option State) → Bool → Type 0
Tries old new before after next true = BecomesSome old new before after next
Tries old new before after next false = IsRefused old before next × Becomes old new before after (λ s. s)

-- the index of the number of a fact that is there
abbrev pub IsFactIndex : Block → Fact → Option ℕ → Type 0
IsFactIndex b f (Some i) =
    (f.number ≡ suc i) × (i < count_of b) × ((trees : List Term) (s : State) → Shows trees b s → is_fact s.facts (fact_of f) ≡ true)
IsFactIndex b f None = (trees : List Term) (s : State) → Shows trees b s → is_fact s.facts (fact_of f) ≡ false

-- whether all of some facts are there
abbrev pub AreFacts : Block → List Reading → Bool → Type 0
AreFacts b kept true = AreNumbered (count_of b) kept × ((trees : List Term) (s : State) → Shows trees b s → are_facts s.facts (map reading_of kept) ≡ true)
AreFacts b kept false = (trees : List Term) (s : State) → Shows trees b s → are_facts s.facts (map reading_of kept) ≡ false

-- the id of some terms joined by `and`; none where there are none
pub record IsConjunction (trees : List Term) (terms : List Term) (all : Option ℕ) : Type 0 where
  pub within : IsIdBelow (length trees) all
  pub is : option_map (tree_at trees) all ≡ joined terms

-- the id of the one goal that is left
abbrev pub Leaves : (left : State → Option (List Term)) (old new : List Term) → Block → Result ℕ (Refusal WordFault) → Type 0
Leaves left old new b (Ok id) = (id < length new) × ((s : State) → Shows old b s → left s ≡ Some (tree_at new id ∷ []))
Leaves left old new b (Err (Fault Word)) = (s : State) → Shows old b s → left s ≡ None
Leaves left old new b (Err NoMemory) = Unit {0}

-- the ids of the two goals that are left
abbrev pub LeavesTwo : (left : State → Option (List Term)) (old new : List Term) → Block → Result (ℕ × ℕ) (Refusal WordFault) → Type 0
LeavesTwo left old new b (Ok ids) =
    (ids.0 < length new) × (ids.1 < length new) × ((s : State) → Shows old b s → left s ≡ Some (tree_at new ids.0 ∷ tree_at new ids.1 ∷ []))
LeavesTwo left old new b (Err (Fault Word)) = (s : State) → Shows old b s → left s ≡ None
LeavesTwo left old new b (Err NoMemory) = Unit {0}

-- the indices of two numbers that are alike
abbrev pub are_pair : State → (first second : ℕ) → Bool
are_pair s first second =
    is_number s.numbers first && (is_number s.numbers second && are_alike (term_at s.numbers first) (term_at s.numbers second))

abbrev pub ArePaired : Block → (first second : ℕ) → Option Pair → Type 0
ArePaired b first second (Some pair) =
    (first ≡ suc pair.first) × (second ≡ suc pair.second) × (pair.first < count_of b) × (pair.second < count_of b)
    × ((trees : List Term) (s : State) → IsBlock trees b → Shows trees b s → are_pair s first second ≡ true)
ArePaired b first second None = (trees : List Term) (s : State) → IsBlock trees b → Shows trees b s → are_pair s first second ≡ false

-- whether something comes of it; if not, the block is of no use
abbrev pub TriesOne : (old new : List Term) (before after : Block) (next : State → Option State) → Bool → Type 0
TriesOne old new before after next true = BecomesSome old new before after next
TriesOne old new before after next false = IsRefused old before next

-- the index of a number that is a truth value
abbrev pub is_case : State → ℕ → Bool
is_case s x = is_number s.numbers x && is_bool (term_at s.numbers x)

abbrev pub IsCase : Block → ℕ → Option ℕ → Type 0
IsCase b x (Some i) = (x ≡ suc i) × (i < count_of b) × ((trees : List Term) (s : State) → IsBlock trees b → Shows trees b s → is_case s x ≡ true)
IsCase b x None = (trees : List Term) (s : State) → IsBlock trees b → Shows trees b s → is_case s x ≡ false

-- the goals of a case
pub record AreCaseGoals (runs : List Run) (trees : List Term) (numbers : List spec.Number) (kept : List spec.Reading) (x first second : ℕ) : Type 0 where
  pub first_holds : Holds trees first (not_all runs (map (reading runs numbers) kept ++ signed true (rebuilt runs numbers x) ∷ []))
  pub second_holds : Holds trees second (not_all runs (map (reading runs numbers) kept ++ signed false (rebuilt runs numbers x) ∷ []))

-- ---- the first state

-- with one more number
pub record IsPushed (old new : Block) (n : Number) (s : Option Sort) : Type 0 where
  pub numbers : new.numbers.items ≡ old.numbers.items ++ n ∷ []
  pub sorts : new.sorts.items ≡ old.sorts.items ++ s ∷ []
  pub changes : new.changes ≡ old.changes
  pub sweeps : new.sweeps ≡ old.sweeps

-- the numbers are those of the first so many trees of some ids; nothing is known of them
pub record AreSubterms (trees : List Term) (ids : List ℕ) (count : ℕ) (b : Block) : Type 0 where
  pub block : IsBlock trees b
  pub numbers : numbers_of trees b.numbers.items ≡ map (spec.number_of_subterm (terms_of trees ids)) (take count (terms_of trees ids))
  pub fresh : (k : ℕ) → marks_at b.numbers.items k ≡ unmarked
  pub so_many : count_of b ≡ count
  pub changes : b.changes ≡ 0
  pub sweeps : b.sweeps ≡ 0
