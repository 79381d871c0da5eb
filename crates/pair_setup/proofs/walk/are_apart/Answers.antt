use Rattle.std.proofs.Common.{arith}
use Rattle.pair_setup.proofs.Walking.{apart-none, apart-more, apart-all}
use Rattle.pair_setup.proofs.walk.are_apart.Goals as goal

pub loop-entry-init : goal.loop-entry-init
loop-entry-init c = apart-none c.args.image.now c.args.entries.now

pub loop-entry-preserved : goal.loop-entry-preserved
loop-entry-preserved c =
    apart-more c.args.image.now c.args.entries.now c.loop-entry.entry-index c.loop-entry.end c.end_of-end.result c.loop-entry.invariant (omega arith) c.end_of-end.ensures

pub returns : goal.returns
returns c = λ _. apart-all c.args.image.now c.args.entries.now c.loop-entry.entry-index c.loop-entry.end c.loop-entry.invariant (omega arith)
