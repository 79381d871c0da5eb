-- The place of each variable on a trail, and which literals are true.
use Rattle.std.specs.Prelude.{◌≡◌, ℕ, ◌+◌, ◌-◌, ◌*◌, Bool, true, false, List, Some, slice_get, length, get_or}
use Rattle.clause_check_spec.specs.declared.Literal.{Literal}
use Rattle.clause_check_spec.specs.Clause.{is_of}
use Rattle.cnf_core.specs.Codes.{code_of}
use Rattle.sat_search_spec.specs.declared.Entry.{Entry}
use Rattle.sat_search_spec.specs.Trail.{IsAt}

-- the variable of each entry is one of those that have a place, and its place is that of the entry; variable 1 comes first
pub record IsPlaced (entries : List Entry) (places : List ℕ) : Type 0 where
  pub of_variables : (i : ℕ) (entry : Entry) → slice_get entries i ≡ Some entry → is_of (length places) entry.literal ≡ true
  pub placed : (i : ℕ) (entry : Entry) → slice_get entries i ≡ Some entry → get_or places (entry.literal.variable - 1) 0 ≡ i

-- the literal of a code is marked as true
abbrev pub IsTruth : List Bool → Literal → Type 0
IsTruth truths literal = get_or truths (code_of literal) false ≡ true

-- exactly the literals of the entries are marked
pub record IsValued (entries : List Entry) (places : List ℕ) (truths : List Bool) : Type 0 where
  pub count : length truths ≡ 2 * length places + 2
  pub there : (literal : Literal) → IsTruth truths literal → IsAt entries (get_or places (literal.variable - 1) 0) literal
  pub all : (i : ℕ) (entry : Entry) → slice_get entries i ≡ Some entry → IsTruth truths entry.literal

pub record IsKept (entries : List Entry) (places : List ℕ) (truths : List Bool) : Type 0 where
  pub placed : IsPlaced entries places
  pub valued : IsValued entries places truths
