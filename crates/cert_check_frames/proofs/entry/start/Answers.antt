use Rattle.std.proofs.Common.{map, ap}
use Rattle.proof_tree.specs.Frames.{premise_of, mark_of}
use Rattle.cert_check_frames.proofs.Made.{start_made}
use Rattle.cert_check_frames.proofs.entry.start.Goals as goal

pub returns-3 : goal.returns-3
returns-3 c =
    start_made c.args.function.now (map premise_of c.args.premises.items) _ _ _ _ c.in-Ok-attempt.ensures.from c.in-Ok-attempt-source.ensures.from (ap (map mark_of) c.new-3.ensures.items)
    (ap (map mark_of) c.new-4.ensures.items)
