use Rattle.std.proofs.Common.{rules}
use Rattle.code_reach.proofs.Ranges.{none_yet, one_more}
use Rattle.code_reach.proofs.range.is_fixed_range.Goals as goal

pub loop-k-init : goal.loop-k-init
loop-k-init c = λ address r. none_yet c.args.image.now c.args.entry address r

pub loop-k-preserved : goal.loop-k-preserved
loop-k-preserved c = one_more c.args.image.now c.args.entry c.loop-k.k c.loop-k.invariant (search rules)
