use Rattle.std.proofs.Common.{◌≡◌, ◌∙◌, map, ap, subst}
use Rattle.graph_core.specs.Graphs.{boxed_term}
use Rattle.proof_tree_spec.specs.Frames.{Frame}
use Rattle.proof_tree.specs.Frames.{frame_of}
use Rattle.cert_check_frames.specs.Jobs.{tests_at}
use Rattle.cert_check_frames.proofs.Made.{same_count}
use Rattle.cert_check_frames.specs.Goals.{AnswersGoals}
use Rattle.cert_check_frames.proofs.AtEntry.{frame_there, opened_in, opened_setup}
use Rattle.cert_check_frames.proofs.goals.leaf_goals.Goals as goal

pub frame-requires : goal.frame-requires
frame-requires c =
    let are : map boxed_term c.as_slice.result.now ≡ tests_at c.args.bank.now c.args.premises.now = ap (map boxed_term) c.as_slice.ensures.value ∙ c.in-Ok-attempt.ensures in
    same_count c.args.bank.now c.args.premises.now c.as_slice.result.now are

pub frame_goals-requires : goal.frame_goals-requires
frame_goals-requires c = opened_in c.args.function.now c.args.bank.now c.args.opening c.requires.opened

pub returns-3-clause-goals : goal.returns-3-clause-goals
returns-3-clause-goals c = λ f is.
    let are : map boxed_term c.as_slice.result.now ≡ tests_at c.args.bank.now c.args.premises.now = ap (map boxed_term) c.as_slice.ensures.value ∙ c.in-Ok-attempt.ensures in
    let same = frame_there c.args.function.now f is c.args.bank.now c.args.premises.now c.as_slice.result.now are (frame_of c.in-Ok-attempt-frame.field-0) c.in-Ok-attempt-frame.ensures in
    subst (λ (frame : Frame). AnswersGoals f frame c.frame_goals.new.bank c.frame_goals.result) same
    (c.frame_goals.ensures.goals f is.convention_is (opened_setup c.args.function.now f is c.args.bank.now c.args.opening c.requires.opened))

pub returns-3-clause-within : goal.returns-3-clause-within
returns-3-clause-within c = c.frame_goals.ensures.within

pub returns-3-clause-fault : goal.returns-3-clause-fault
returns-3-clause-fault c = c.frame_goals.ensures.fault
