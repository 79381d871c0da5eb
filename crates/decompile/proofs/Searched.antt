-- The place of an entry among entries that rise.
use Rattle.std.proofs.Common.{◌≡◌, ◌∙◌, inl, inr, ℕ, ◌<◌, ◌≤◌, ◌==◌, ap, arith, eq-eqb, List, length, get_or, Ok, Err}
use Rattle.std.specs.Ordering.{nat_cmp}
use Rattle.std.specs.List.Sorted.{IsStrictlyIncreasing, IsBinarySearchResult}
use Rattle.std.proofs.lemmas.Bool.{ne_eqb, cases_lt}
use Rattle.std.specs.Prelude.{Contains}
use Rattle.std.proofs.lemmas.List.{get_or_default}
use Rattle.std.proofs.lemmas.List.Kept.{AllPairs-from_increasing}
use Rattle.std.proofs.lemmas.List.Sorted.{searched}
use Rattle.std.proofs.lemmas.List.Sums.{position_or_len_is}
use Rattle.decompile.specs.Answer.{number_in}

module _ (entries : List ℕ) (up : IsStrictlyIncreasing entries) (callee : ℕ) where
  below : (i j : ℕ) → i < j → j < length entries → get_or entries i 0 < get_or entries j 0
  below i j less within = AllPairs-from_increasing entries up i j 0 less within

  ordered : (i j : ℕ) → i ≤ j → j < length entries → get_or entries i 0 ≤ get_or entries j 0
  ordered i j least within = elim (cases_lt i j) [
    | inl less ↦ omega (arith, below i j less within)
    | inr past ↦
        let same : i ≡ j = omega arith in
        omega (arith, ap (λ k. get_or entries k 0) same)
  ]

  pub number_there : (place : ℕ) → place < length entries → get_or entries place 0 ≡ callee → number_in entries callee ≡ place
  number_there place within is =
      position_or_len_is (λ entry. entry == callee) entries place 0 (omega arith)
      (λ k less. ne_eqb (get_or entries k 0) callee (λ same. omega (arith, below k place less within, same, is)))
      (λ h. eq-eqb (get_or entries place 0) callee is)

  number_absent : ((k : ℕ) → k < length entries → get_or entries k 0 ≡ callee → ⊥) → number_in entries callee ≡ length entries
  number_absent none =
      position_or_len_is (λ entry. entry == callee) entries (length entries) 0 (omega arith)
      (λ k less. ne_eqb (get_or entries k 0) callee (none k less))
      (λ h. absurd (omega arith))

  pub number_found : (place : ℕ) → IsBinarySearchResult (λ y. nat_cmp y callee) entries (Ok place) → number_in entries callee ≡ place
  number_found place is =
      let found = searched entries callee (Ok place) is ordered in
      number_there place found.0 found.1

  pub number_missing : (place : ℕ) → IsBinarySearchResult (λ y. nat_cmp y callee) entries (Err place) → number_in entries callee ≡ length entries
  number_missing place is =
      let found = searched entries callee (Err place) is ordered in
      number_absent (λ k within same. elim (cases_lt k place) [
        | inl less ↦ omega (arith, found.1 k less, same)
        | inr past ↦ omega (arith, found.2 k past within, same)
      ])

  -- ---- whether it is there

  pub found_among : (place : ℕ) → IsBinarySearchResult (λ y. nat_cmp y callee) entries (Ok place) → Contains entries callee
  found_among place is =
      let found = searched entries callee (Ok place) is ordered in
      (place, found.0, get_or_default entries place callee 0 found.0 ∙ found.1)

  pub missing_among : (place : ℕ) → IsBinarySearchResult (λ y. nat_cmp y callee) entries (Err place) → Contains entries callee → ⊥
  missing_among place is (k, within, same) =
      let found = searched entries callee (Err place) is ordered in
      let here : get_or entries k 0 ≡ callee = get_or_default entries k 0 callee within ∙ same in
      elim (cases_lt k place) [
        | inl less ↦ omega (arith, found.1 k less, here)
        | inr past ↦ omega (arith, found.2 k past within, here)
      ]
