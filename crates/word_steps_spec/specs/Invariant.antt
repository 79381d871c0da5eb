-- What holds of the state of a block, and is kept by every line.
use Rattle.std.specs.Prelude.{◌≡◌, ◌⊎◌, ℕ, true, false, List, [], ◌∷◌, Some}
use Rattle.std.specs.List.{AllByRecursion}
use Rattle.term_core_spec.specs.declared.Sort.{Sort}
use Rattle.term_core_spec.specs.declared.Sort.TheVariants as sort
use Rattle.term_core_spec.specs.declared.Variable.{Variable}
use Rattle.term_core_spec.specs.Term.{Term, Occurs}
use Rattle.term_core_spec.specs.Sort.{sort_of}
use Rattle.term_core_spec.specs.Value.{Truth, Assignment, IsAssignment, value}
use Rattle.memory_spec.specs.Runs.{Run}
use Rattle.term_norm_spec.specs.Fixed.{HoldsFixed}
use Rattle.word_steps_spec.specs.Numbers.{Number, Fact, Other, Numbered, Known, Merge, State, operand_at, is_number, operation_at, term_at, now_at, term_over, other_term, are_alike}

-- what a number is merged with is a number that there is, or a constant
abbrev pub IsThere : List Number → Other → Type 0
IsThere numbers (Numbered y) = is_number numbers y ≡ true
IsThere numbers (Known constant) = Unit {0}

-- ---- numbers, facts and merges fit together

-- what k was, and what it is now, are of one sort
pub record IsSorted (numbers : List Number) (k : ℕ) : Type 0 where
  pub sort : Sort
  pub was : sort_of (term_at numbers k) ≡ Some sort
  pub is : sort_of (now_at numbers k) ≡ Some sort

pub record AreNumbers (numbers : List Number) : Type 0 where
  -- the term of a number is what its operator makes
  pub makes : (k : ℕ) → term_at numbers k ≡ term_over numbers (operation_at numbers k)
  -- and this is over numbers that there are
  pub within : (k i x : ℕ) → operand_at i (operation_at numbers k) ≡ Some x → is_number numbers x ≡ true
  pub sorted : (k : ℕ) → IsSorted numbers k

-- a truth value
pub record IsFact (numbers : List Number) (f : Fact) : Type 0 where
  pub there : is_number numbers f.number ≡ true
  pub truth : sort_of (term_at numbers f.number) ≡ Some sort.Truth

-- two truth values, or two words of one width
pub record IsMerge (numbers : List Number) (m : Merge) : Type 0 where
  pub there : is_number numbers m.number ≡ true
  pub other_there : IsThere numbers m.other
  pub alike : are_alike (term_at numbers m.number) (other_term numbers m.other) ≡ true

pub record IsState (s : State) : Type 0 where
  pub fit : AreNumbers s.numbers
  pub true_or_false : AllByRecursion (IsFact s.numbers) s.facts
  pub alike : AllByRecursion (IsMerge s.numbers) s.merges

-- ---- what an assignment makes of a state

abbrev pub AgreesOn : Assignment → List Number → Fact → Type 0
AgreesOn assignment numbers f = value assignment (term_at numbers f.number) ≡ Truth f.holds

abbrev pub AgreesAt : Assignment → List Number → Merge → Type 0
AgreesAt assignment numbers m = value assignment (term_at numbers m.number) ≡ value assignment (other_term numbers m.other)

-- all facts are true, each number has now the value that it had, and both sides of each merge have one value
pub record Agrees (s : State) (assignment : Assignment) : Type 0 where
  pub on_facts : AllByRecursion (AgreesOn assignment s.numbers) s.facts
  pub on_nows : (k : ℕ) → value assignment (now_at s.numbers k) ≡ value assignment (term_at s.numbers k)
  pub on_merges : AllByRecursion (AgreesAt assignment s.numbers) s.merges

-- the assignment makes the goal false, and each memory of the source holds the fixed bytes
pub record Refutes (runs : List Run) (goal : Term) (assignment : Assignment) : Type 0 where
  pub assigns : IsAssignment assignment
  pub fixed : HoldsFixed runs assignment
  pub falsifies : value assignment goal ≡ Truth false

-- the invariant: each assignment that refutes the goal agrees with the state
pub record Holds (runs : List Run) (goal : Term) (s : State) : Type 0 where
  pub state : IsState s
  pub agrees : (assignment : Assignment) → Refutes runs goal assignment → Agrees s assignment

-- a goal is true wherever each memory of the source holds the fixed bytes
abbrev pub IsValid : List Run → Term → Type 0
IsValid runs goal = (assignment : Assignment) → IsAssignment assignment → HoldsFixed runs assignment → value assignment goal ≡ Truth true

-- the assignment makes one of the goals false
unfoldable pub RefutesOne : List Run → List Term → Assignment → Type 0
RefutesOne runs [] assignment = ⊥
RefutesOne runs (goal ∷ rest) assignment = Refutes runs goal assignment ⊎ RefutesOne runs rest assignment

-- each variable of t is one of the goal
abbrev pub HasOnlyOf : Term → Term → Type 0
HasOnlyOf goal t = (v : Variable) → Occurs v t → Occurs v goal
