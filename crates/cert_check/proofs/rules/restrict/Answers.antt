use Rattle.std.proofs.Common.{◌∙◌, ◌++◌, [], ℕ, List, None, length, sym, ap, subst}
use Rattle.std.specs.Prelude.{Ok, Err}
use Rattle.path_cond.proofs.Banks.{extends_itself}
use Rattle.sim_rules_spec.specs.Obligations.{Rule}
use Rattle.sim_rules.specs.Outcome.{IsCount}
use Rattle.cert_check_jobs.specs.declared.extra.Extra.{Extra}
use Rattle.cert_check_jobs.specs.declared.jobs.Job.{Job}
use Rattle.cert_check_jobs.specs.declared.jobs.Job.TheVariants.{Prove}
use Rattle.cert_check_jobs.specs.Cuts.{start_seen}
use Rattle.cert_check_jobs.specs.Extras.{added_at, frame_added, opening_at, IsBelow}
use Rattle.cert_check_jobs.specs.Goals.{AnswersRule}
use Rattle.cert_check_jobs.specs.Jobs.{AreInside, logs_last}
use Rattle.cert_check.specs.Bounds.{HasBound}
use Rattle.cert_check.proofs.Bounding.{bounded, count_on, no_count, no_goals, one_counted, plain_on, same_cuts, same_tests}
use Rattle.cert_check.proofs.InPart.{fault_for, goals_for}
use Rattle.cert_check.proofs.Leaving.{bounded_kept, first_inside}
use Rattle.cert_check.proofs.Tops.{one_logged}
use Rattle.cert_check.specs.Steps.{rule_on}
use Rattle.cert_check.proofs.rules.restrict.Goals as goal

pub take_proof-extra-requires : goal.take_proof-extra-requires
take_proof-extra-requires c = c.requires.top

pub rule_goals-requires-clause-below : goal.rule_goals-requires-clause-below
rule_goals-requires-clause-below c =
    subst (IsBelow (length c.args.bank.now)) (sym c.deref.ensures)
    (first_inside c.args.function.now c.args.bank.now c.args.bank.now _ _ c.args.jobs.now.items c.take_proof-extra.new.jobs.items (Prove c.take_proof-extra.result) c.requires.kept
    (extends_itself c.args.bank.now) c.take_proof-extra.ensures)

pub rule_goals-requires-clause-opened : goal.rule_goals-requires-clause-opened
rule_goals-requires-clause-opened c = record { of_binary = c.requires.kept.opened.0; of_source = c.requires.kept.opened.1 }

-- a count 0
pub returns-then-bound-eq0-clause-step : goal.returns-then-bound-eq0-clause-step
returns-then-bound-eq0-clause-step c = λ f is.
    no_count c.args.function.now f is c.args.side c.args.bound c.args.bank.now c.args.bank.now c.args.jobs.now.items c.requires.top.0 c.requires.top.1 c.requires.top.2 c.args.jobs.now.items
    c.if-bound-eq0.true

-- no obligations
pub returns-in-Err-clause-step : goal.returns-in-Err-clause-step
returns-in-Err-clause-step c = λ f is.
    no_goals c.args.function.now f is c.args.side c.args.bound c.args.bank.now c.rule_goals.new.bank c.args.jobs.now.items c.take_proof-extra.new.jobs.items c.take_proof-extra.result
    c.take_proof-extra.ensures c.take_proof-extra.new.jobs.items c.goal_fault.result (one_counted c.args.bound c.if-bound-eq0.false)
    (fault_for f c.rule_goals.new.bank c.args.bank.now (rule_on c.args.side c.args.bound) (plain_on c.args.side c.args.bound) c.deref.result.now c.take_proof-extra.result.value c.deref.ensures
    c.in-Err.refusal c.goal_fault.result c.goal_fault.ensures
    (subst (λ (r : Rule). AnswersRule f (opening_at f (start_seen c.deref.result.now.cuts.value.start)) (frame_added f.frame (added_at c.args.bank.now c.deref.result.now)) r c.rule_goals.new.bank (Err c.in-Err.refusal)) c.rule_for.ensures (c.in-Err.ensures.goals f is)))

-- out of memory
pub returns-clause-step : goal.returns-clause-step
returns-clause-step c = λ f is. (None, f.frame, [], tt)

pub returns-2-clause-step : goal.returns-2-clause-step
returns-2-clause-step c = λ f is. (None, f.frame, [], tt)

pub returns-3-clause-step : goal.returns-3-clause-step
returns-3-clause-step c = λ f is. (None, f.frame, [], tt)

pub returns-4-clause-step : goal.returns-4-clause-step
returns-4-clause-step c = λ f is.
    bounded c.args.function.now f is c.args.side c.args.bound c.args.bank.now c.rule_goals.new.bank c.args.jobs.now.items c.take_proof-extra.new.jobs.items c.take_proof-extra.result
    c.take_proof-extra.ensures c.push_goals.new.jobs.items c.in-Ok-attempt.field-0 c.in-Ok.goals c.rule_goals.ensures.extends
    (subst (AreInside (length c.args.bank.now)) c.take_proof-extra.ensures c.requires.kept.inside) (one_counted c.args.bound c.if-bound-eq0.false)
    (subst (λ (x : Extra). HasBound x c.args.bound c.in-Ok-attempt.field-0.value c.args.side) c.deref-2.ensures c.in-Ok-attempt.ensures)
    (c.in-Ok-attempt-3.ensures ∙ ap (λ (l : List ℕ). c.push_proof.new.jobs.items ++ logs_last l) c.as_slice.ensures.value
    ∙ ap (λ (jobs : List Job). jobs ++ logs_last c.in-Ok.goals.items) c.in-Ok-attempt-2.ensures)
    (goals_for f c.rule_goals.new.bank c.args.bank.now (rule_on c.args.side c.args.bound) (plain_on c.args.side c.args.bound) c.deref.result.now c.take_proof-extra.result.value c.deref.ensures
    c.in-Ok.goals
    (subst (λ (r : Rule). AnswersRule f (opening_at f (start_seen c.deref.result.now.cuts.value.start)) (frame_added f.frame (added_at c.args.bank.now c.deref.result.now)) r c.rule_goals.new.bank (Ok c.in-Ok.goals))
    c.rule_for.ensures
    (c.in-Ok.ensures.goals f is)))

pub returns-4-clause-kept : goal.returns-4-clause-kept
returns-4-clause-kept c =
    bounded_kept c.args.function.now c.args.bank.now c.rule_goals.new.bank _ _ c.args.jobs.now.items c.take_proof-extra.new.jobs.items c.push_goals.new.jobs.items c.take_proof-extra.result
    c.in-Ok-attempt.field-0 c.in-Ok.goals.items c.requires.kept c.rule_goals.ensures.extends c.take_proof-extra.ensures
    (same_tests c.args.side c.take_proof-extra.result.value c.in-Ok-attempt.field-0.value c.args.bound
    (subst (λ (x : Extra). HasBound x c.args.bound c.in-Ok-attempt.field-0.value c.args.side) c.deref-2.ensures c.in-Ok-attempt.ensures))
    (same_cuts c.args.side c.take_proof-extra.result.value c.in-Ok-attempt.field-0.value c.args.bound
    (subst (λ (x : Extra). HasBound x c.args.bound c.in-Ok-attempt.field-0.value c.args.side) c.deref-2.ensures c.in-Ok-attempt.ensures))
    c.in-Ok.ensures.within
    (c.in-Ok-attempt-3.ensures ∙ ap (λ (l : List ℕ). c.push_proof.new.jobs.items ++ logs_last l) c.as_slice.ensures.value
    ∙ ap (λ (jobs : List Job). jobs ++ logs_last c.in-Ok.goals.items) c.in-Ok-attempt-2.ensures)

pub returns-4-clause-follows : goal.returns-4-clause-follows
returns-4-clause-follows c =
    one_logged c.args.jobs.now.items c.take_proof-extra.new.jobs.items c.push_goals.new.jobs.items c.take_proof-extra.result c.in-Ok-attempt.field-0 c.in-Ok.goals.items c.take_proof-extra.ensures
    (count_on c.args.side c.args.bound (length c.in-Ok.goals.items) (subst (λ (r : Rule). IsCount r (length c.in-Ok.goals.items)) c.rule_for.ensures c.in-Ok.ensures.count))
    (c.in-Ok-attempt-3.ensures ∙ ap (λ (l : List ℕ). c.push_proof.new.jobs.items ++ logs_last l) c.as_slice.ensures.value
    ∙ ap (λ (jobs : List Job). jobs ++ logs_last c.in-Ok.goals.items) c.in-Ok-attempt-2.ensures)
