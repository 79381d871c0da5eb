-- When a block's numbers are in order, and which state it shows.
use Rattle.std.specs.Prelude.{◌≡◌, ℕ, ◌<◌, Bool, List, length, map, All, Option, Some, None, option_map}
use Rattle.term_core_spec.specs.Term.{Term}
use Rattle.term_bank.specs.Nodes.{IsNode}
use Rattle.word_steps_spec.specs.Numbers as spec
use Rattle.word_steps.specs.declared.number.Other.{Other}
use Rattle.word_steps.specs.declared.number.Other.TheVariants.{Index, Constant}
use Rattle.word_steps.specs.declared.number.Marks.{Marks}
use Rattle.word_steps.specs.declared.number.Number.{Number}
use Rattle.word_steps.specs.declared.block.Block.{Block}
use Rattle.word_steps.specs.Views.{count_of, changes_of, has_fact, marks_at, numbers_of, sort_of_number, other_of}

-- what a number is merged with is one of so many
abbrev pub IsOther : ℕ → Option Other → Type 0
IsOther count (Some (Index i)) = i < count
IsOther count (Some (Constant constant)) = Unit {0}
IsOther count None = Unit {0}

-- its terms are below n, and the numbers that it names among so many
pub record IsNumber (n count : ℕ) (x : Number) : Type 0 where
  pub operation : IsNode count x.operation
  pub term : x.term < n
  pub now : x.now < n
  pub merged : IsOther count x.marks.merged

pub record IsBlock (trees : List Term) (b : Block) : Type 0 where
  pub numbers : All (IsNumber (length trees) (count_of b)) b.numbers.items
  pub sorts : b.sorts.items ≡ map (sort_of_number trees) b.numbers.items

-- what the facts and merges of a state say of the number k
pub record IsMarked (s : spec.State) (k : ℕ) (marks : Marks) : Type 0 where
  pub known : spec.known_truth s.facts k ≡ marks.known
  pub facts : (holds : Bool) → spec.is_fact s.facts (record { number = k; holds = holds }) ≡ has_fact marks holds
  pub merged : spec.merged_with s.merges k ≡ option_map other_of marks.merged

pub record Shows (trees : List Term) (b : Block) (s : spec.State) : Type 0 where
  pub numbers : s.numbers ≡ numbers_of trees b.numbers.items
  pub marked : (k : ℕ) → IsMarked s k (marks_at b.numbers.items k)
  pub changes : s.changes ≡ changes_of b
  pub sweeps : s.sweeps ≡ b.sweeps
