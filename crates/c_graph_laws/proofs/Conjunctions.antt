-- Balanced conjunctions: what holds of each test holds of their conjunction, and it is true exactly where each test is.
use Rattle.std.proofs.Common.{◌≡◌, ◌∙◌, ℕ, zero, suc, ◌+◌, ◌/◌, ◌≤◌, Bool, true, false, ◌&&◌, refl, sym, ap, arith, List, [], ◌∷◌, ◌++◌, length, take, drop}
use Rattle.std.specs.Prelude.{All}
use Rattle.std.proofs.lemmas.List.{take-append-drop, length-take-le, length-drop}
use Rattle.std.proofs.lemmas.List.Elements.{All-head, All-take, All-drop}
use Rattle.term_core_spec.specs.Term.{Term, truth, and_term}
use Rattle.term_core_spec.specs.Value.{Truth, Assignment, value}
use Rattle.graph_core_spec.specs.Run.{is_truth}
use Rattle.c_graph_spec.specs.Guards.{conjoined, conjunction}
use Rattle.c_graph_laws.proofs.Steps.{all_hold}
use Rattle.c_graph_laws.proofs.Evaluates.{truth_is, and_is}

-- ---- what holds of each test

module _ (P : Term → Type 0) (of_true : P (truth true)) (of_and : (x y : Term) → P x → P y → P (and_term x y)) where
  conjoined_all : (halvings : ℕ) (tests : List Term) → All P tests → P (conjoined halvings tests)
  unfolding conjoined
  conjoined_all zero tests all = of_true
  conjoined_all (suc halvings) [] all = of_true
  conjoined_all (suc halvings) (test ∷ []) all = All-head P test [] all
  conjoined_all (suc halvings) (test ∷ next ∷ rest) all =
      let tests : List Term = test ∷ next ∷ rest in
      let half : ℕ = length tests / 2 in
      of_and (conjoined halvings (take half tests)) (conjoined halvings (drop half tests))
      (conjoined_all halvings (take half tests) (All-take P half tests all)) (conjoined_all halvings (drop half tests) (All-drop P half tests all))

  pub conjunction_all : (tests : List Term) → All P tests → P (conjunction tests)
  conjunction_all tests all = conjoined_all (length tests) tests all

-- ---- its value

-- evaluates to a truth value
abbrev pub IsTruth : Assignment → Term → Type 0
IsTruth s t = value s t ≡ Truth (is_truth (value s t))

module _ (s : Assignment) where
  -- tests one after the other
  pub all_append : (x y : List Term) → all_hold s (x ++ y) ≡ (all_hold s x && all_hold s y)
  all_append [] y = refl
  all_append (t ∷ x) y = ap (λ b. is_truth (value s t) && b) (all_append x y) ∙ regrouped (is_truth (value s t)) (all_hold s x) (all_hold s y)
    where
      regrouped : (a b c : Bool) → (a && (b && c)) ≡ ((a && b) && c)
      regrouped true b c = refl
      regrouped false b c = refl

  conjoined_is : (halvings : ℕ) (tests : List Term) → length tests ≤ halvings → All (IsTruth s) tests → value s (conjoined halvings tests) ≡ Truth (all_hold s tests)
  unfolding conjoined
  conjoined_is zero [] short all = truth_is s true
  conjoined_is zero (test ∷ rest) short all = absurd (omega (arith, short))
  conjoined_is (suc halvings) [] short all = truth_is s true
  conjoined_is (suc halvings) (test ∷ []) short all = All-head (IsTruth s) test [] all ∙ ap Truth (and_true (is_truth (value s test)))
    where
      and_true : (b : Bool) → b ≡ (b && true)
      and_true true = refl
      and_true false = refl
  conjoined_is (suc halvings) (test ∷ next ∷ rest) short all =
      let tests : List Term = test ∷ next ∷ rest in
      let half : ℕ = length tests / 2 in
      let count : length tests ≡ suc (suc (length rest)) = refl in
      let front : length (take half tests) ≤ halvings = rw (length-take-le half tests (omega (arith, count))) (omega (arith, count, short)) in
      let back : length (drop half tests) ≤ halvings = rw (length-drop half tests) (omega (arith, count, short)) in
      and_is s (conjoined halvings (take half tests)) (conjoined halvings (drop half tests)) (all_hold s (take half tests)) (all_hold s (drop half tests))
      (conjoined_is halvings (take half tests) front (All-take (IsTruth s) half tests all)) (conjoined_is halvings (drop half tests) back (All-drop (IsTruth s) half tests all))
      ∙ ap Truth (sym (all_append (take half tests) (drop half tests)) ∙ ap (all_hold s) (take-append-drop half tests))

  -- a conjunction of truth values is true exactly where each of them is
  pub conjunction_is : (tests : List Term) → All (IsTruth s) tests → value s (conjunction tests) ≡ Truth (all_hold s tests)
  conjunction_is tests all = conjoined_is (length tests) tests (omega arith) all
