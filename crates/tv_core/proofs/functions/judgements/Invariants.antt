use Rattle.tv_core.proofs.Made.{AreMade}
use Rattle.tv_core.proofs.functions.judgements.Given as goal

abbrev pub invariant-names : goal.invariant-names
invariant-names l = AreMade l.list l.functions l.found l.i l.made.items
