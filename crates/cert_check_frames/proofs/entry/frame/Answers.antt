use Rattle.std.proofs.Common.{map, ap}
use Rattle.proof_tree.specs.Frames.{premise_of, goal_of, hold_of, start_of}
use Rattle.cert_check_frames.proofs.Made.{frame_made}
use Rattle.cert_check_frames.proofs.entry.frame.Goals as goal

pub returns-3 : goal.returns-3
returns-3 c =
    frame_made c.args.function.now (map premise_of c.in-Ok-attempt.field-0.items) _ (start_of c.in-Ok-attempt-start.field-0) _ _ c.in-Ok-attempt-start.ensures c.in-Ok-attempt.ensures
    (ap (map goal_of) c.new.ensures.items) (ap (map hold_of) c.new-2.ensures.items)
