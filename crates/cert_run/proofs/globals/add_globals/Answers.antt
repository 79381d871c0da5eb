use Rattle.std.proofs.Common.{sym, arith}
use Rattle.std.proofs.lemmas.Option.{slice_get_past}
use Rattle.cert_run.proofs.Placing.{none_placed, all_placed}
use Rattle.cert_run.proofs.globals.add_globals.Goals as goal

pub add_global-requires : goal.add_global-requires
add_global-requires c = sym c.in-Some.ensures

pub loop-index-init : goal.loop-index-init
loop-index-init c = none_placed c.args.image.now c.args.globals.now.items c.requires

pub loop-index-preserved : goal.loop-index-preserved
loop-index-preserved c = c.in-Ok-attempt.ensures c.loop-index.invariant

pub returns-in-None : goal.returns-in-None
returns-in-None c = all_placed c.args.image.now c.loop-index.index c.loop-index.globals.items (sym c.in-None.ensures) c.loop-index.invariant

-- all symbols have been seen
pub returns : goal.returns
returns c =
    all_placed c.args.image.now c.loop-index.index c.loop-index.globals.items
    (slice_get_past c.args.image.now.symbols c.loop-index.index (omega (arith, c.symbol_count-index-end.ensures, c.loop-index-test.false))) c.loop-index.invariant
