-- Rows of bits of the first of some terms, each after its arguments.
use Rattle.std.specs.Prelude.{◌≡◌, ℕ, suc, ◌<◌, List, length, true, Option, Some, None}
use Rattle.term_core_spec.specs.declared.Sort.{Sort}
use Rattle.term_core_spec.specs.declared.Sort.TheVariants as sort
use Rattle.term_core_spec.specs.Term.{Term}
use Rattle.term_core_spec.specs.Sort.{bits}
use Rattle.term_bank.specs.Nodes.{tree_at}
use Rattle.term_sorts.specs.Order.{is_among, IsOrder, Begins}
use Rattle.word_steps_spec.specs.Sides.{are_words}
use Rattle.word_steps_rules.specs.declared.words.Sides.{Sides}
use Rattle.word_steps_rules.specs.declared.bit.Bit.{Bit}
use Rattle.word_steps_rules.specs.declared.plan.Plan.{Plan}
use Rattle.word_steps_rules.specs.declared.rows.Rows.{Rows}
use Rattle.word_steps_rules.specs.Bits.{bits_in, row_in, rows_of, index_among, planned, AreIn, IsRow, AreRows}

abbrev pub Trees : Type 0
Trees = List Term

-- how many bits a word of a sort has; none what is no word
abbrev pub bit_count : Option Sort → ℕ
bit_count (Some (sort.Word width)) = bits width
bit_count (Some sort.Truth) = 0
bit_count (Some sort.Memory) = 0
bit_count None = 0

-- the terms of all bits are there
abbrev pub AreKnown : List Term → List (List Bit) → Type 0
AreKnown trees rows = (k : ℕ) → AreIn (length trees) (row_in rows k)

-- the first so many bits of the term t, by a plan
pub record IsPlannedRow (trees : List Term) (rows : List (List Bit)) (t : Term) (plan : Plan) (count : ℕ) (row : List Bit) : Type 0 where
  pub long : length row ≡ count
  pub known : AreIn (length trees) row
  pub each : (i : ℕ) → i < count → bits_in trees row i ≡ planned trees rows t plan i

pub record IsTable (trees : List Term) (table : Rows) : Type 0 where
  pub order : IsOrder trees table.ids.keys
  pub rows : AreRows trees table.ids.keys (rows_of table.rows.items)

-- with the row of the next id
pub record HasMore (trees : List Term) (old new : Rows) : Type 0 where
  pub ids : new.ids.keys ≡ old.ids.keys
  pub longer : length new.rows.items ≡ suc (length old.rows.items)

-- a term is there, and all rows
pub record Covers (table : Rows) (id : ℕ) : Type 0 where
  pub there : is_among table.ids.keys id ≡ true
  pub whole : length table.rows.items ≡ length table.ids.keys

-- two terms are there
pub record CoversBoth (table : Rows) (ids : Sides) : Type 0 where
  pub left : Covers table ids.left
  pub right : Covers table ids.right

-- what was there is still there
abbrev pub Keeps : (old new : Rows) → Type 0
Keeps old new = Begins old.ids.keys new.ids.keys

-- the row of a term
abbrev pub row_of : Rows → ℕ → List Bit
row_of table id = row_in (rows_of table.rows.items) (index_among table.ids.keys id)

-- the bits of two terms are there
pub record HaveBits (trees : List Term) (table : Rows) (ids : Sides) : Type 0 where
  pub left : IsRow trees (tree_at trees ids.left) (row_of table ids.left)
  pub right : IsRow trees (tree_at trees ids.right) (row_of table ids.right)
  pub left_known : AreIn (length trees) (row_of table ids.left)
  pub right_known : AreIn (length trees) (row_of table ids.right)

-- two words of one width
pub record AreWords (trees : List Term) (ids : Sides) : Type 0 where
  pub words : are_words (tree_at trees ids.left) (tree_at trees ids.right) ≡ true
  pub left : ids.left < length trees
  pub right : ids.right < length trees
