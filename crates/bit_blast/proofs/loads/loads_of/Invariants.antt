use Rattle.bit_blast.proofs.Loading.{Loaded}
use Rattle.bit_blast.proofs.loads.loads_of.Given as goal

abbrev pub invariant-terms : goal.invariant-terms
invariant-terms l = Loaded l.table l.loads.items l.index
