use Rattle.std.proofs.Common.{◌≡◌, ◌∙◌, ◌++◌, ℕ, List, length, sym, ap, subst, arith}
use Rattle.sim_rules_spec.specs.Obligations as rule
use Rattle.cert_text_spec.specs.Lines.{Leaf}
use Rattle.cert_check_lines_spec.specs.LineRules.{Passes}
use Rattle.cert_check_lines_spec.specs.Parts.{part_of, unfolded}
use Rattle.path_cond.proofs.Banks.{extends_itself}
use Rattle.cert_check_jobs.specs.declared.jobs.Job.TheVariants.{Prove}
use Rattle.cert_check_jobs.specs.Extras.{IsBelow}
use Rattle.cert_check_jobs.specs.Jobs.{AreInside, logs_last}
use Rattle.cert_check_frames.specs.Listed.{frame_at}
use Rattle.cert_check.specs.Jobs.{jobs_of}
use Rattle.cert_check.proofs.Pushed.{inside_top}
use Rattle.cert_check.proofs.Tops.{leaf_top, leaf_follows}
use Rattle.cert_check.proofs.InPart.{leaf_passes, leaf_fails, leaf_plain, logs_fail, goals_for, fault_for}
use Rattle.cert_check.proofs.Leaving.{first_inside, leaf_kept}
use Rattle.cert_check.proofs.rules.leaf.Goals as goal

pub take_proof-extra-requires : goal.take_proof-extra-requires
take_proof-extra-requires c = leaf_top c.args.logs c.args.jobs.now.items c.requires.next

pub rule_goals-requires-clause-below : goal.rule_goals-requires-clause-below
rule_goals-requires-clause-below c =
    subst (IsBelow (length c.args.bank.now)) (sym c.deref.ensures)
    (first_inside c.args.function.now c.args.bank.now c.args.bank.now _ _ c.args.jobs.now.items c.take_proof-extra.new.jobs.items (Prove c.take_proof-extra.result) c.requires.kept
    (extends_itself c.args.bank.now) c.take_proof-extra.ensures)

pub rule_goals-requires-clause-opened : goal.rule_goals-requires-clause-opened
rule_goals-requires-clause-opened c = record { of_binary = c.requires.kept.opened.0; of_source = c.requires.kept.opened.1 }

-- no obligations
pub returns-in-Err-clause-step : goal.returns-in-Err-clause-step
returns-in-Err-clause-step c = λ fs parts m at is.
    leaf_fails fs parts m at c.args.function.now is c.args.bank.now c.rule_goals.new.bank c.args.jobs.now.items c.take_proof-extra.new.jobs.items c.take_proof-extra.new.jobs.items
    c.take_proof-extra.result c.args.logs c.goal_fault.result c.take_proof-extra.ensures
    (fault_for m.listed c.rule_goals.new.bank c.args.bank.now rule.Leaf leaf_plain c.deref.result.now c.take_proof-extra.result.value c.deref.ensures c.in-Err.refusal c.goal_fault.result
    c.goal_fault.ensures (c.in-Err.ensures.goals m.listed is.listed))

-- another number
pub returns-then-len-logs-clause-step : goal.returns-then-len-logs-clause-step
returns-then-len-logs-clause-step c = λ fs parts m at is.
    logs_fail fs parts m at c.args.function.now is c.args.bank.now c.rule_goals.new.bank c.args.jobs.now.items c.take_proof-extra.new.jobs.items c.take_proof-extra.result c.args.logs
    c.in-Ok.goals c.take_proof-extra.ensures
    (goals_for m.listed c.rule_goals.new.bank c.args.bank.now rule.Leaf leaf_plain c.deref.result.now c.take_proof-extra.result.value c.deref.ensures c.in-Ok.goals
    (c.in-Ok.ensures.goals m.listed is.listed))
    (λ same. c.if-len-logs.true (omega (arith, same, c.in-Ok.goals.ok.0)))

pub returns-2-clause-step : goal.returns-2-clause-step
returns-2-clause-step c = λ fs parts m at is.
    let inside = inside_top (length c.args.bank.now) c.take_proof-extra.new.jobs.items _ (subst (AreInside (length c.args.bank.now)) c.take_proof-extra.ensures c.requires.kept.inside) in
    let count : length c.in-Ok.goals.items ≡ c.args.logs = omega (arith, c.in-Ok.goals.ok.0, c.if-len-logs.false) in
    subst (λ (n : ℕ). Passes (part_of parts m (unfolded m)) at (jobs_of c.args.bank.now (frame_at c.args.function.now) c.args.jobs.now.items) (Leaf n)
    (jobs_of c.rule_goals.new.bank (frame_at c.args.function.now) c.push_goals.new.jobs.items)) count
    (leaf_passes fs parts m at c.args.function.now is c.args.bank.now c.rule_goals.new.bank c.args.jobs.now.items c.take_proof-extra.new.jobs.items c.push_goals.new.jobs.items
    c.take_proof-extra.result c.in-Ok.goals c.rule_goals.ensures.extends c.take_proof-extra.ensures inside.0
    (c.in-Ok-attempt.ensures ∙ ap (λ (l : List ℕ). c.take_proof-extra.new.jobs.items ++ logs_last l) c.as_slice.ensures.value)
    (goals_for m.listed c.rule_goals.new.bank c.args.bank.now rule.Leaf leaf_plain c.deref.result.now c.take_proof-extra.result.value c.deref.ensures c.in-Ok.goals
    (c.in-Ok.ensures.goals m.listed is.listed)))

pub returns-2-clause-kept : goal.returns-2-clause-kept
returns-2-clause-kept c =
    leaf_kept c.args.function.now c.args.bank.now c.rule_goals.new.bank _ _ c.args.jobs.now.items c.take_proof-extra.new.jobs.items (Prove c.take_proof-extra.result) c.requires.kept
    c.rule_goals.ensures.extends c.take_proof-extra.ensures c.push_goals.new.jobs.items c.in-Ok.goals.items c.in-Ok.ensures.within
    (c.in-Ok-attempt.ensures ∙ ap (λ (l : List ℕ). c.take_proof-extra.new.jobs.items ++ logs_last l) c.as_slice.ensures.value)

pub returns-2-clause-follows : goal.returns-2-clause-follows
returns-2-clause-follows c =
    leaf_follows c.args.logs c.args.jobs.now.items c.take_proof-extra.new.jobs.items c.push_goals.new.jobs.items c.take_proof-extra.result c.in-Ok.goals.items
    c.take_proof-extra.ensures (omega (arith, c.in-Ok.goals.ok.0, c.if-len-logs.false))
    (c.in-Ok-attempt.ensures ∙ ap (λ (l : List ℕ). c.take_proof-extra.new.jobs.items ++ logs_last l) c.as_slice.ensures.value)
