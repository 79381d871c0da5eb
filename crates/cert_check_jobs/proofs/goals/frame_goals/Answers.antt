use Rattle.proof_tree.specs.Frames.{frame_of}
use Rattle.sim_rules.specs.Rules.{rule_of}
use Rattle.cert_check_jobs.proofs.Answered.{rule_answer}
use Rattle.cert_check_jobs.proofs.goals.frame_goals.Goals as goal

pub returns-clause-goals : goal.returns-clause-goals
returns-clause-goals c = λ f o convention opening.
    let answer = c.obligations.ensures.answer in
    rule_answer f o c.obligations.new.bank (frame_of c.args.frame.now) (rule_of c.args.rule) c.obligations.result
    (answer.terms f.convention o (record { convention_is = convention; opening_is = opening })) (answer.few o) (answer.fault o)

pub returns-clause-within : goal.returns-clause-within
returns-clause-within c = c.obligations.ensures.answer.within

pub returns-clause-count : goal.returns-clause-count
returns-clause-count c = c.obligations.ensures.answer.count
