-- What a table of assignments refutes: each is known by the lines that it makes false where they hold at the start, and
-- by those that it makes false where they are to be shown.
use Rattle.std.specs.Prelude.{ℕ, Bool, if◌then◌else◌, List, [], ◌∷◌, Contains, filter, nat_eq}
use Rattle.std.specs.List.{list_any}
use Rattle.relation_search.specs.Greatest.{IsMonotone}
use Rattle.search_rows.specs.declared.tables.Row.{Row}

abbrev pub is_among : List ℕ → ℕ → Bool
is_among some line = list_any (λ other. nat_eq other line) some

-- an assignment makes none of the lines false where they hold at the start, and this one where it is to be shown
pub record Refutes (row : Row) (lines : List ℕ) (line : ℕ) : Type 0 where
  pub holds : (other : ℕ) → Contains lines other → Contains row.before.items other → ⊥
  pub false_after : Contains row.after.items line

abbrev pub refutes : List Row → List ℕ → ℕ → Type 0
refutes rows lines line = (row : Row) × Contains rows row × Refutes row lines line

pub monotone : (rows : List Row) → IsMonotone (refutes rows)
monotone rows fewer lines line within r =
    (r.0, r.1, record { holds = λ other of. r.2.holds other (within other of); false_after = r.2.false_after })

-- ---- as the program finds it

abbrev pub refuted_by : (before after lines : List ℕ) → List ℕ
refuted_by before after lines = if list_any (is_among before) lines then [] else filter (is_among after) lines

-- what the first row refutes that refutes some of the lines
abbrev pub first_of : (out rest : List ℕ) → List ℕ
first_of [] rest = rest
first_of (line ∷ out) rest = line ∷ out

abbrev pub first_refuted : List Row → (lines : List ℕ) → List ℕ
first_refuted [] lines = []
first_refuted (row ∷ rows) lines = first_of (refuted_by row.before.items row.after.items lines) (first_refuted rows lines)
