-- One more hint of a step.
use Rattle.std.proofs.Common.{◌≡◌, ◌<◌, ◌≤◌, ◌+◌, ◌-◌, ℕ, suc, Bool, true, false, List, [], ◌∷◌, ◌++◌, length, get_or, drop, Result, Option, refl, ap, sym, ◌∙◌, arith, length-drop}
use Rattle.std.specs.Prelude.{◌==◌, if◌then◌else◌, map}
use Rattle.std.proofs.lemmas.List.{drop_more, drop_all}
use Rattle.clause_check_spec.specs.declared.Literal.{Literal}
use Rattle.clause_check_spec.specs.declared.StepFaultKind.{StepFaultKind}
use Rattle.clause_check_spec.specs.declared.StepFaultKind.TheVariants.{Literals, Open}
use Rattle.clause_check_spec.specs.Clause.{Clause, negation}
use Rattle.clause_check_spec.specs.Step.{Finding, Outcome, Refused, outcome_of, is_nothing, finding_at, propagate, are_fit, outcome}
use Rattle.clause_check.specs.Answers.{outcome_after}

nothing_left : (xs : List ℕ) → is_nothing xs ≡ (length xs == 0)
nothing_left [] = refl
nothing_left (x ∷ xs) = zero_or (length xs)
  where
    zero_or : (n : ℕ) → false ≡ (suc n == 0)
    zero_or n = grind arith

last_hint : (hints : List ℕ) (done : ℕ) → done < length hints → is_nothing (drop (done + 1) hints) ≡ (done + 1 == length hints)
last_hint hints done below = nothing_left (drop (done + 1) hints) ∙ ap (λ n. n == 0) (length-drop (done + 1) hints) ∙ left (length hints) done below
  where
    left : (n k : ℕ) → k < n → (n - (k + 1) == 0) ≡ (k + 1 == n)
    left n k below = grind arith

propagate_at : (clauses : List Clause) (number : ℕ) (rest : List ℕ) (truths : List Literal) (count : ℕ)
    → propagate clauses (number ∷ rest) truths count ≡ outcome_of (count + 1) (is_nothing rest) (finding_at clauses truths number) (λ l. propagate clauses rest (truths ++ l ∷ []) (count + 1))
unfolding propagate
propagate_at clauses number rest truths count = refl

-- what is left of the propagation, at a hint
pub propagate_more : (clauses : List Clause) (hints : List ℕ) (truths : List Literal) (done : ℕ) → done < length hints
    → propagate clauses (drop done hints) truths done
    ≡ outcome_of (done + 1) (done + 1 == length hints) (finding_at clauses truths (get_or hints done 0)) (λ l. propagate clauses (drop (done + 1) hints) (truths ++ l ∷ []) (done + 1))
propagate_more clauses hints truths done below =
    ap (λ h. propagate clauses h truths done) (drop_more hints done 0 below)
    ∙ propagate_at clauses (get_or hints done 0) (drop (done + 1) hints) truths done
    ∙ ap (λ b. outcome_of (done + 1) b (finding_at clauses truths (get_or hints done 0)) (λ l. propagate clauses (drop (done + 1) hints) (truths ++ l ∷ []) (done + 1)))
    (last_hint hints done below)

propagate_nothing : (clauses : List Clause) (truths : List Literal) (count : ℕ) → propagate clauses [] truths count ≡ Refused count Open
unfolding propagate
propagate_nothing clauses truths count = refl

-- and after the last one
pub propagate_end : (clauses : List Clause) (hints : List ℕ) (truths : List Literal) (done : ℕ) → length hints ≤ done → done ≤ length hints
    → propagate clauses (drop done hints) truths done ≡ Refused (length hints) Open
propagate_end clauses hints truths done above below =
    ap (λ h. propagate clauses h truths done) (drop_all done hints above) ∙ propagate_nothing clauses truths done
    ∙ ap (λ n. Refused n Open) (omega (arith, above, below))

-- the propagation continues by the code's answer, which is that of the finding on the hint's clause
pub propagate_by : (clauses : List Clause) (hints : List ℕ) (truths : List Literal) (done : ℕ) (found : Finding) (answer : Result (Option Literal) StepFaultKind) (b : Bool)
    → done < length hints → found ≡ finding_at clauses truths (get_or hints done 0) → b ≡ (done + 1 == length hints)
    → ((hint : ℕ) (on : Literal → Outcome) → outcome_after hint answer on ≡ outcome_of hint b found on)
    → propagate clauses (drop done hints) truths done ≡ outcome_after (done + 1) answer (λ l. propagate clauses (drop (done + 1) hints) (truths ++ l ∷ []) (done + 1))
propagate_by clauses hints truths done found answer b below e f after =
    propagate_more clauses hints truths done below
    ∙ sym (after (done + 1) (λ l. propagate clauses (drop (done + 1) hints) (truths ++ l ∷ []) (done + 1))
    ∙ ap (λ b. outcome_of (done + 1) b found (λ l. propagate clauses (drop (done + 1) hints) (truths ++ l ∷ []) (done + 1))) f
    ∙ ap (λ k. outcome_of (done + 1) (done + 1 == length hints) k (λ l. propagate clauses (drop (done + 1) hints) (truths ++ l ∷ []) (done + 1))) e)

-- ---- a whole step

pub unfit_outcome : (variables : ℕ) (clauses : List Clause) (literals : List Literal) (hints : List ℕ) → are_fit variables literals ≡ false
    → outcome variables clauses literals hints ≡ Refused 0 Literals
unfolding outcome
unfit_outcome variables clauses literals hints e = ap (λ b. if b then propagate clauses hints (map negation literals) 0 else Refused 0 Literals) e

pub fit_outcome : (variables : ℕ) (clauses : List Clause) (literals : List Literal) (hints : List ℕ) → are_fit variables literals ≡ true
    → outcome variables clauses literals hints ≡ propagate clauses hints (map negation literals) 0
unfolding outcome
fit_outcome variables clauses literals hints e = ap (λ b. if b then propagate clauses hints (map negation literals) 0 else Refused 0 Literals) e
