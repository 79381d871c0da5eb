use Rattle.proof_tree.specs.Frames.{frame_of}
use Rattle.cert_check_frames.proofs.AtEntry.{goals_of, leaf_faults}
use Rattle.cert_check_frames.proofs.goals.frame_goals.Goals as goal

pub returns-clause-goals : goal.returns-clause-goals
returns-clause-goals c = λ f convention opening.
    let answer = c.obligations.ensures.answer in
    goals_of f c.obligations.new.bank (frame_of c.args.frame.now) c.obligations.result
    (answer.terms f.convention f.opening (record { convention_is = convention; opening_is = opening })) (answer.few f.opening) (answer.fault f.opening)

pub returns-clause-within : goal.returns-clause-within
returns-clause-within c = c.obligations.ensures.answer.within

pub returns-clause-fault : goal.returns-clause-fault
returns-clause-fault c = leaf_faults (frame_of c.args.frame.now) c.obligations.result c.obligations.ensures.answer.fault
