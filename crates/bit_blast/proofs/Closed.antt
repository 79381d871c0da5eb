-- Entries of terms whose arguments are there leave a table closed.
use Rattle.std.proofs.Common.{◌≡◌, Bool, true, false, List, [], ◌∷◌, ◌++◌, Some, refl, ap, sym, subst, ◌⊎◌, inl, inr}
use Rattle.std.specs.Prelude.{if◌then◌else◌, is_some}
use Rattle.std.specs.List.{find}
use Rattle.term_core_spec.specs.Term.{Term, divide, remainder}
use Rattle.term_core_spec.specs.Same.{same_term}
use Rattle.term_core_spec.proofs.Same.{same_is, same_itself}
use Rattle.bit_blast_spec.specs.Circuits.{Bits}
use Rattle.bit_blast_spec.specs.Goal.{Table, is_there}
use Rattle.bit_blast.specs.Steps.{needs, AllThere, IsClosed}

abbrev entry_test : Term → Term × Bits → Bool
entry_test term entry = same_term term entry.0

-- what is there stays
pub stays : (term : Term) (table more : Table) → is_there term table ≡ true → is_there term (table ++ more) ≡ true
stays term [] more there = absurd (cc)
stays term (entry ∷ table) more there = by (same_term term entry.0) there (stays term table more)
  where
    by : (b : Bool) → is_some (if b then Some entry else find (entry_test term) table) ≡ true → (is_there term table ≡ true → is_there term (table ++ more) ≡ true)
        → is_some (if b then Some entry else find (entry_test term) (table ++ more)) ≡ true
    by true e later = refl
    by false e later = later e

pub comes : (term : Term) (table more : Table) → is_there term more ≡ true → is_there term (table ++ more) ≡ true
comes term [] more there = there
comes term (entry ∷ table) more there = by (same_term term entry.0) (comes term table more there)
  where
    by : (b : Bool) → is_there term (table ++ more) ≡ true → is_some (if b then Some entry else find (entry_test term) (table ++ more)) ≡ true
    by true e = refl
    by false e = e

pub all_stay : (terms : List Term) (table more : Table) → AllThere terms table → AllThere terms (table ++ more)
all_stay [] table more all = tt
all_stay (term ∷ terms) table more all = (stays term table more all.0, all_stay terms table more all.1)

-- what is there was there or came
old_or_new : (term : Term) (table more : Table) → is_there term (table ++ more) ≡ true → (is_there term table ≡ true) ⊎ (is_there term more ≡ true)
old_or_new term [] more there = inr there
old_or_new term (entry ∷ table) more there = by (same_term term entry.0) there (old_or_new term table more)
  where
    by : (b : Bool) → is_some (if b then Some entry else find (entry_test term) (table ++ more)) ≡ true
        → (is_there term (table ++ more) ≡ true → (is_there term table ≡ true) ⊎ (is_there term more ≡ true))
        → (is_some (if b then Some entry else find (entry_test term) table) ≡ true) ⊎ (is_there term more ≡ true)
    by true e later = inl refl
    by false e later = later e

first_or_later : (term : Term) (entry : Term × Bits) (more : Table) → is_there term (entry ∷ more) ≡ true → (term ≡ entry.0) ⊎ (is_there term more ≡ true)
first_or_later term entry more there = by (same_term term entry.0) refl there
  where
    by : (b : Bool) → same_term term entry.0 ≡ b → is_some (if b then Some entry else find (entry_test term) more) ≡ true → (term ≡ entry.0) ⊎ (is_there term more ≡ true)
    by true e h = inl (same_is term entry.0 e)
    by false e h = inr h

pub first_there : (term : Term) (found : Bits) (more : Table) → is_there term ((term, found) ∷ more) ≡ true
first_there term found more = ap (λ b. is_some (if b then Some (term, found) else find (entry_test term) more)) (same_itself term)

-- with entries that have there what they need
pub closed_more : (table more : Table) → IsClosed table → ((term : Term) → is_there term more ≡ true → AllThere (needs term) (table ++ more)) → IsClosed (table ++ more)
closed_more table more closed new term there =
    elim (old_or_new term table more there) [
      | inl old ↦ all_stay (needs term) table more (closed term old)
      | inr come ↦ new term come
    ]

pub closed_one : (table : Table) (term : Term) (found : Bits) → IsClosed table → AllThere (needs term) table → IsClosed (table ++ (term, found) ∷ [])
closed_one table term found closed all =
    closed_more table ((term, found) ∷ []) closed (λ other there. here other (first_or_later other (term, found) [] there))
  where
    here : (other : Term) → (other ≡ term) ⊎ (is_there other [] ≡ true) → AllThere (needs other) (table ++ (term, found) ∷ [])
    here other (inl same) = subst (λ t. AllThere (needs t) (table ++ (term, found) ∷ [])) (sym same) (all_stay (needs term) table ((term, found) ∷ []) all)
    here other (inr later) = absurd (cc)

-- a quotient and its remainder
pub closed_two : (table : Table) (x y : Term) (q r : Bits) → IsClosed table → is_there x table ≡ true → is_there y table ≡ true
    → IsClosed (table ++ (divide x y, q) ∷ (remainder x y, r) ∷ [])
closed_two table x y q r closed at_x at_y =
    closed_more table more closed (λ other there. here other (first_or_later other (divide x y, q) ((remainder x y, r) ∷ []) there))
  where
    more : Table
    more = (divide x y, q) ∷ (remainder x y, r) ∷ []

    quotient : is_there (divide x y) (table ++ (divide x y, q) ∷ (remainder x y, r) ∷ []) ≡ true
    quotient = comes (divide x y) table ((divide x y, q) ∷ (remainder x y, r) ∷ []) (first_there (divide x y) q ((remainder x y, r) ∷ []))

    rest : is_there (remainder x y) (table ++ (divide x y, q) ∷ (remainder x y, r) ∷ []) ≡ true
    rest = comes (remainder x y) table ((divide x y, q) ∷ (remainder x y, r) ∷ [])
        (comes (remainder x y) ((divide x y, q) ∷ []) ((remainder x y, r) ∷ []) (first_there (remainder x y) r []))

    last : (other : Term) → (other ≡ remainder x y) ⊎ (is_there other [] ≡ true) → AllThere (needs other) (table ++ (divide x y, q) ∷ (remainder x y, r) ∷ [])
    last other (inl same) =
        subst (λ t. AllThere (needs t) (table ++ (divide x y, q) ∷ (remainder x y, r) ∷ [])) (sym same)
        (stays x table ((divide x y, q) ∷ (remainder x y, r) ∷ []) at_x, (stays y table ((divide x y, q) ∷ (remainder x y, r) ∷ []) at_y, (quotient, tt)))
    last other (inr later) = absurd (cc)

    here : (other : Term) → (other ≡ divide x y) ⊎ (is_there other ((remainder x y, r) ∷ []) ≡ true) → AllThere (needs other) (table ++ (divide x y, q) ∷ (remainder x y, r) ∷ [])
    here other (inl same) =
        subst (λ t. AllThere (needs t) (table ++ (divide x y, q) ∷ (remainder x y, r) ∷ [])) (sym same)
        (stays x table ((divide x y, q) ∷ (remainder x y, r) ∷ []) at_x, (stays y table ((divide x y, q) ∷ (remainder x y, r) ∷ []) at_y, (rest, tt)))
    here other (inr later) = last other (first_or_later other (remainder x y, r) [] later)
