use Rattle.pair_setup_calls.proofs.Complete.{missing-fewer}
use Rattle.pair_setup_calls.proofs.settling.settle_rest.Goals as goal

pub nodes-smaller : goal.nodes-smaller
nodes-smaller c = missing-fewer c.nodes.depths c.in-Some.node c.in-Some.depth c.in-Some.ensures.is.0 c.in-Some.ensures.is.1
