-- Chains of hints: such a step follows.
use Rattle.std.proofs.Common.{◌≡◌, ◌⊎◌, inl, inr, ℕ, suc, ◌+◌, ◌-◌, ◌<◌, Bool, true, false, List, [], ◌∷◌, ◌++◌, Some, length, map, refl, ap, sym, ◌∙◌, subst, arith}
use Rattle.std.specs.Prelude.{if◌then◌else◌, slice_get}
use Rattle.std.proofs.lemmas.Option.{slice_get_within}
use Rattle.clause_check_spec.specs.declared.Literal.{Literal}
use Rattle.clause_check_spec.specs.declared.StepFaultKind.TheVariants.{Literals}
use Rattle.clause_check_spec.specs.Clause.{Clause, negation}
use Rattle.clause_check_spec.specs.Step.{Finding, Forces, Fails, finding_at, Outcome, Follows, Refused, outcome_of, is_nothing, propagate, are_fit, outcome}
use Rattle.sat_search_spec.specs.Clauses.{Numbered, AreLive}
use Rattle.sat_search_spec.specs.Chain.{Named, Chain, ends, forces}
use Rattle.sat_search_spec.specs.Logs.{IsNew}

propagate_more : (clauses : List Clause) (number : ℕ) (hints : List ℕ) (made : List Literal) (count : ℕ)
    → propagate clauses (number ∷ hints) made count ≡ outcome_of (count + 1) (is_nothing hints) (finding_at clauses made number) (λ l. propagate clauses hints (made ++ l ∷ []) (count + 1))
unfolding propagate
propagate_more clauses number hints made count = refl

chain_propagates : (clauses : List Clause) (made : List Literal) (hints : List ℕ) (count : ℕ) → Chain clauses made hints → propagate clauses hints made count ≡ Follows
chain_propagates clauses made hints count (ends same number fails) =
    propagate_more clauses number [] made count
    ∙ ap (λ f. outcome_of (count + 1) true f (λ l. propagate clauses [] (made ++ l ∷ []) (count + 1))) fails
chain_propagates clauses made hints count (forces same number literal rest forced named chain) =
    propagate_more clauses number rest made count
    ∙ ap (λ f. outcome_of (count + 1) (is_nothing rest) f (λ l. propagate clauses rest (made ++ l ∷ []) (count + 1))) forced
    ∙ chain_propagates clauses (made ++ literal ∷ []) rest (count + 1) chain

pub chain_follows : (variables : ℕ) (clauses : List Clause) (literals : List Literal) (hints : List ℕ) → are_fit variables literals ≡ true
    → Chain clauses (map negation literals) hints → outcome variables clauses literals hints ≡ Follows
unfolding outcome
chain_follows variables clauses literals hints fit chain =
    ap (λ b. if b then propagate clauses hints (map negation literals) 0 else Refused 0 Literals) fit
    ∙ chain_propagates clauses (map negation literals) hints 0 chain
