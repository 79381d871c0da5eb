use Rattle.std.proofs.Common.{◌+◌, Some, sym, subst, arith}
use Rattle.pair_setup_calls.proofs.Growing.{IsAmong}
use Rattle.pair_setup.specs.Names.{IsLeast}
use Rattle.pair_setup.proofs.Least.{least-none, least-more, least-all}
use Rattle.pair_setup.proofs.names.first_of.Goals as goal

pub loop-number-init : goal.loop-number-init
loop-number-init c = least-none c.args.numbers.now

pub loop-number-preserved : goal.loop-number-preserved
loop-number-preserved c =
    subst (λ n. IsLeast (IsAmong c.args.numbers.now (c.loop-number.number-index + 1)) (Some n)) (sym c.lesser.ensures)
    (least-more c.args.numbers.now c.loop-number.number-index c.loop-number.first c.loop-number.invariant)

pub returns : goal.returns
returns c = least-all c.args.numbers.now c.loop-number.number-index c.loop-number.first (omega arith) c.loop-number.invariant
