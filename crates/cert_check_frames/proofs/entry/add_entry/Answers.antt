use Rattle.std.proofs.Common.{map}
use Rattle.proof_tree.specs.Frames.{premise_of}
use Rattle.cert_check_frames.proofs.Made.{all_entry}
use Rattle.cert_check_frames.proofs.entry.add_entry.Goals as goal

pub returns : goal.returns
returns c = all_entry (map premise_of c.args.premises.now.items) c.args.lines.now c.loop-line.line-index c.loop-line.premises.items c.loop-line-test.false c.loop-line.invariant
