use Rattle.prove_run.proofs.Listing.{AreSoFar}
use Rattle.prove_run.proofs.search.add_found.Given as goal

-- what was found so far
abbrev pub invariant-loop-index : goal.invariant-loop-index
invariant-loop-index g l = AreSoFar l.listed l.index l.all.items
