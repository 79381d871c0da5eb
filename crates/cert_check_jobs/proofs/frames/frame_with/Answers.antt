use Rattle.std.proofs.Common.{◌∙◌, map, ap}
use Rattle.proof_tree.specs.Frames.{goal_of, hold_of, start_of}
use Rattle.cert_check_jobs.specs.Frames.{goal_given}
use Rattle.cert_check_jobs.proofs.Framed.{frame_there}
use Rattle.cert_check_jobs.proofs.frames.frame_with.Goals as goal

pub returns-3-clause-frame : goal.returns-3-clause-frame
returns-3-clause-frame c = λ bank are.
    frame_there c.args.function.now c.args.extra.now c.args.trees.now (start_of c.in-Ok-attempt-start.field-0) (map goal_of c.add_frame_goals.new.all.items) _ c.as_slice-2.result.now
    c.as_slice-2.ensures.value c.in-Ok-attempt-start.ensures.start (c.in-Ok-attempt.ensures.are ∙ ap (map goal_given) c.as_slice.ensures.value) (ap (map hold_of) c.new.ensures.items) bank are

pub returns-3-clause-paths : goal.returns-3-clause-paths
returns-3-clause-paths c = record {
  binary = c.in-Ok-attempt-start.ensures.paths.binary;
  source = c.in-Ok-attempt-start.ensures.paths.source;
  goals_binary = c.in-Ok-attempt.ensures.binary;
  goals_source = c.in-Ok-attempt.ensures.source;
}
