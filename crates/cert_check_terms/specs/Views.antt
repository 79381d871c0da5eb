-- What has been read, of the code as the definitions have it, in a bank.
use Rattle.std.specs.Prelude.{◌<◌, ℕ, List, [], ◌∷◌, All}
use Rattle.term_core_spec.specs.Term.{Term}
use Rattle.term_bank.specs.Nodes.{tree_at}
use Rattle.cert_check_terms.specs.Reading as spec
use Rattle.cert_check_terms.specs.declared.reading.Subterm.{Subterm}
use Rattle.cert_check_terms.specs.declared.reading.Entry.{Entry}
use Rattle.cert_check_terms.specs.declared.reading.Entry.TheVariants.{Bracket, Whole}
use Rattle.cert_check_terms.specs.declared.reading.Reading.{Reading}

abbrev pub subterm_of : List Term → Subterm → spec.Sorted
subterm_of trees x = record { term = tree_at trees x.id; its_sort = x.sort }

abbrev pub entry_of : List Term → Entry → spec.Entry
entry_of trees (Bracket o) = spec.Bracket o
entry_of trees (Whole x) = spec.Whole (subterm_of trees x)

-- the last entry is on top
unfoldable pub stacked : List Term → (below : List spec.Entry) → List Entry → List spec.Entry
stacked trees below [] = below
stacked trees below (e ∷ entries) = stacked trees (entry_of trees e ∷ below) entries

abbrev pub entries_of : List Term → List Entry → List spec.Entry
entries_of trees entries = stacked trees [] entries

-- arguments that were taken one by one, the last of an operator first
unfoldable pub taken : List Term → (later : List spec.Sorted) → List Subterm → List spec.Sorted
taken trees later [] = later
taken trees later (x ∷ arguments) = taken trees (subterm_of trees x ∷ later) arguments

abbrev pub arguments_of : List Term → List Subterm → List spec.Sorted
arguments_of trees arguments = taken trees [] arguments

abbrev pub reading_of : List Term → Reading → spec.Reading
reading_of trees r = spec.with_calls r.calls.items (entries_of trees r.entries.items)

-- the ids are of a bank of so many terms
abbrev pub IsInside : ℕ → Entry → Type 0
IsInside n (Bracket o) = Unit {0}
IsInside n (Whole x) = x.id < n

abbrev pub AreInside : ℕ → List Entry → Type 0
AreInside n entries = All (IsInside n) entries

abbrev pub IsSubtermInside : ℕ → Subterm → Type 0
IsSubtermInside n x = x.id < n

abbrev pub AreSubtermsInside : ℕ → List Subterm → Type 0
AreSubtermsInside n arguments = All (IsSubtermInside n) arguments
