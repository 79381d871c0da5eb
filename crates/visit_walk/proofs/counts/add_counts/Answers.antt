use Rattle.std.proofs.Common.{arith}
use Rattle.visit_walk.proofs.Counting.{counted-all-over}
use Rattle.visit_walk.proofs.counts.add_counts.Goals as goal

pub returns-then-i-counts : goal.returns-then-i-counts
returns-then-i-counts c = counted-all-over c.args.node c.args.marks.now c.args.counts.now c.loop-i.new.items c.loop-i.i (omega arith) c.loop-i.invariant
