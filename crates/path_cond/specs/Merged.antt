-- Conditions and terms of one variable as one, by lists.
use Rattle.std.specs.Prelude.{ℕ, ◌<◌, false, if◌then◌else◌, List, [], ◌∷◌, All}
use Rattle.std.specs.List.{fold, list_all}
use Rattle.term_core_spec.specs.Term.{Term, truth, or_term, choose}
use Rattle.term_core_spec.specs.Same.{same_term}

-- each is an id of a bank of so many terms
abbrev pub AreIds : ℕ → List ℕ → Type 0
AreIds n ids = All (λ (i : ℕ). i < n) ids

-- `or` of the terms, nested to the left; of none, `false`
abbrev pub any_term : List Term → Term
any_term [] = truth false
any_term (c ∷ rest) = fold or_term c rest

-- the first term whose condition is true; the last is not tested
unfoldable pub chosen_term : List Term → List Term → Term
chosen_term conditions [] = truth false
chosen_term [] (t ∷ rest) = t
chosen_term (c ∷ conditions) (t ∷ []) = t
chosen_term (c ∷ conditions) (t ∷ u ∷ rest) = choose c t (chosen_term conditions (u ∷ rest))

-- the term that all are, else the one chosen
abbrev pub merged_term : List Term → List Term → Term
merged_term conditions [] = truth false
merged_term conditions (t ∷ rest) = if list_all (same_term t) rest then t else chosen_term conditions (t ∷ rest)
