use Rattle.std.proofs.Common.{◌∙◌, sym, ap}
use Rattle.proof_tree.specs.Frames.{frame_of}
use Rattle.sim_rules.specs.Rules.{rule_of}
use Rattle.cert_check_frames.proofs.AtEntry.{opened_in, opened_setup}
use Rattle.cert_check_jobs.specs.declared.cuts.Cuts.{Cuts}
use Rattle.cert_check_jobs.specs.Cuts.{start_seen}
use Rattle.cert_check_jobs.specs.Extras.{added_at}
use Rattle.cert_check_jobs.proofs.Answered.{cut_answer, entry_answer}
use Rattle.cert_check_jobs.proofs.Framed.{same_tests}
use Rattle.cert_check_jobs.proofs.goals.rule_goals.Goals as goal

pub frame_with-requires : goal.frame_with-requires
frame_with-requires c = same_tests c.args.bank.now c.args.extra.now c.in-Ok-attempt.field-0 c.in-Ok-attempt.ensures

pub frame_goals-requires : goal.frame_goals-requires
frame_goals-requires c = opened_in c.args.function.now c.args.bank.now c.args.opening c.requires.opened

pub returns-in-None-clause-goals : goal.returns-in-None-clause-goals
returns-in-None-clause-goals c = λ f is.
    entry_answer c.args.function.now f is (added_at c.args.bank.now c.args.extra.now) (frame_of c.in-Ok-attempt-frame.field-0)
    (c.in-Ok-attempt-frame.ensures.frame c.args.bank.now c.in-Ok-attempt.ensures) (rule_of c.args.rule) c.frame_goals.new.bank c.frame_goals.result
    (start_seen c.args.extra.now.cuts.value.start) (ap (λ (x : Cuts). start_seen x.start) (sym c.deref.ensures) ∙ ap start_seen c.in-None.is)
    (c.frame_goals.ensures.goals f f.opening is.convention_is (opened_setup c.args.function.now f is c.args.bank.now c.args.opening c.requires.opened))

pub returns-3-clause-goals : goal.returns-3-clause-goals
returns-3-clause-goals c = λ f is.
    cut_answer c.args.function.now f is (added_at c.args.bank.now c.args.extra.now) (frame_of c.in-Ok-attempt-frame.field-0)
    (c.in-Ok-attempt-frame.ensures.frame c.args.bank.now c.in-Ok-attempt.ensures) (rule_of c.args.rule) c.cut_goals.new.bank c.cut_goals.result
    (start_seen c.args.extra.now.cuts.value.start) _ (ap (λ (x : Cuts). start_seen x.start) (sym c.deref.ensures) ∙ ap start_seen c.in-Some.is)
    (c.cut_goals.ensures.goals f is)
