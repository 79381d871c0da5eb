use Rattle.std.proofs.Common.{get_or, ap, arith}
use Rattle.pair_setup.proofs.Walking.{walking-start, walking-next, walking-all}
use Rattle.pair_setup.proofs.walk.walk_all.Goals as goal

pub loop-next-init : goal.loop-next-init
loop-next-init c = walking-start c.args.image.now c.args.entries.now.keys

pub loop-next-preserved : goal.loop-next-preserved
loop-next-preserved c =
    walking-next c.args.image.now c.args.entries.now.keys c.loop-next.next c.loop-next.entries.keys c.visit.new.entries.keys (get_or c.as_slice.result.now c.loop-next.next 0)
    c.loop-next.invariant (omega arith) (ap (λ l. get_or l c.loop-next.next 0) c.as_slice.ensures.keys)
    (c.in-Ok-attempt.ensures c.if-not-sound.false)

pub returns : goal.returns
returns c = λ _. walking-all c.args.image.now c.args.entries.now.keys c.loop-next.next c.loop-next.entries.keys c.loop-next.invariant (omega arith)
