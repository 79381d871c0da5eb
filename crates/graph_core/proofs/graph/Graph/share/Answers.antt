use Rattle.graph_core.proofs.Storing.{graph_grows}
use Rattle.graph_core.proofs.graph.Graph.share.Goals as goal

pub returns-clause-grows : goal.returns-clause-grows
returns-clause-grows c =
    graph_grows c.self.inside.bank c.self.inside.nodes.items c.self.inside.entry c.args.self.now c.self.view_is c.share.new.bank c.self.inside.sorts.items c.share.ensures.extends c.self.invariant
