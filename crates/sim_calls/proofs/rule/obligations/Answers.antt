use Rattle.std.proofs.Common.{◌<◌, ℕ, List, [], ◌∷◌, All, length, sym, subst}
use Rattle.std.proofs.lemmas.List.Elements.{All-cons, All-nil}
use Rattle.sim_calls.proofs.rule.obligations.Goals as goal

pub returns-in-Ok-attempt-all-clause-within : goal.returns-in-Ok-attempt-all-clause-within
returns-in-Ok-attempt-all-clause-within c =
    let n = length c.call_terms.new.bank in
    let is : ℕ → Type 0 = λ id. id < n in
    let ids = c.in-Ok-attempt.field-0 in
    let both = c.in-Ok-attempt.ensures.within in
    subst (λ (l : List ℕ). All is l) (sym c.in-Ok-attempt-all.ensures) (All-cons is ids.0 (ids.1 ∷ []) both.0 (All-cons is ids.1 [] both.1 (All-nil is)))
