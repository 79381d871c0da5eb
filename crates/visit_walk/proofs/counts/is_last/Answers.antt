use Rattle.std.proofs.Common.{arith, sym, ◌∙◌}
use Rattle.visit_walk.proofs.Counting.{last-over}
use Rattle.visit_walk.proofs.counts.is_last.Goals as goal

pub returns-then-i-counts : goal.returns-then-i-counts
returns-then-i-counts c = sym (last-over c.args.node c.args.marks.now c.args.counts.now c.loop-i.i (omega arith)) ∙ c.loop-i.invariant
