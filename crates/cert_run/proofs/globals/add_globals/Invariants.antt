use Rattle.cert_run.specs.Placed.{ArePlaced}
use Rattle.cert_run.proofs.globals.add_globals.Given as goal

-- the globals of the first symbols are there
abbrev pub invariant-loop-index : goal.invariant-loop-index
invariant-loop-index l = ArePlaced l.image l.index l.globals.items
