use Rattle.visit_walk.proofs.Entering.{edge_added}
use Rattle.visit_walk.proofs.listing.add_edge.Goals as goal

pub returns : goal.returns
returns c =
    edge_added c.args.incoming.now.items c.args.target c.index_mut.result.now c.push.new.self c.args.edge c.requires c.index_mut.ensures.value c.in_ok-push.ensures.items
