use Rattle.std.proofs.Common.{rules, ◌≡◌, ◌∙◌, ◌++◌, ◌∷◌, ◌-◌, [], Some, true, false, length, map, set, ap, sym, subst}
use Rattle.std.specs.Prelude.{is_some, not}
use Rattle.clause_check_spec.specs.Clause.{is_of, negation}
use Rattle.clause_check.specs.Signs.{sign_of, Reports}
use Rattle.clause_check.proofs.More.{unfit_by_variable, fit_by_sign, reports_denied, unmarked}
use Rattle.clause_check.proofs.hints.deny_one.Goals as goal

pub returns-then-not-is_of-clause-fit : goal.returns-then-not-is_of-clause-fit
returns-then-not-is_of-clause-fit c = λ before fit reports.
    let e : is_of (length c.args.stamps.now) c.args.literal ≡ false = search rules in
    sym (unfit_by_variable (length c.args.stamps.now) before c.args.literal fit e)

pub returns-then-is_set-clause-fit : goal.returns-then-is_set-clause-fit
returns-then-is_set-clause-fit c = λ before fit reports.
    let named : is_of (length c.args.stamps.now) c.args.literal ≡ true = search rules in
    let e : is_some (sign_of c.args.stamps.now c.args.literal) ≡ true = search rules in
    sym (fit_by_sign c.args.stamps.now before c.args.literal true fit reports named e)

pub returns-clause-fit : goal.returns-clause-fit
returns-clause-fit c = λ before fit reports.
    let named : is_of (length c.args.stamps.now) c.args.literal ≡ true = search rules in
    let e : is_some (sign_of c.args.stamps.now c.args.literal) ≡ false = search rules in
    sym (fit_by_sign c.args.stamps.now before c.args.literal false fit reports named e)

pub returns-clause-reported : goal.returns-clause-reported
returns-clause-reported c = λ before yes reports.
    let named : is_of (length c.args.stamps.now) c.args.literal ≡ true = search rules in
    let e : is_some (sign_of c.args.stamps.now c.args.literal) ≡ false = search rules in
    let after : set c.args.stamps.now (c.args.literal.variable - 1) (Some (not c.args.literal.is_negated)) ≡ c.set.new.self =
    sym (c.set.ensures ∙ ap (λ l. set c.args.stamps.now (l.variable - 1) (Some l.is_negated)) c.negation.ensures)
    in
    subst (λ signs. Reports signs (map negation (before ++ c.args.literal ∷ []))) after
    (reports_denied c.args.stamps.now before c.args.literal reports named (unmarked (sign_of c.args.stamps.now c.args.literal) e))

pub set-requires-clause-unset : goal.set-requires-clause-unset
set-requires-clause-unset c =
    let e : is_some (sign_of c.args.stamps.now c.args.literal) ≡ false = search rules in
    ap (λ l. sign_of c.args.stamps.now l) c.negation.ensures ∙ unmarked (sign_of c.args.stamps.now c.args.literal) e
