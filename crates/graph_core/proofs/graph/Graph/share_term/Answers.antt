use Rattle.graph_core.proofs.Storing.{graph_grows}
use Rattle.graph_core.proofs.graph.Graph.share_term.Goals as goal

pub returns-clause-grows : goal.returns-clause-grows
returns-clause-grows c =
    graph_grows c.self.inside.bank c.self.inside.nodes.items c.self.inside.entry c.args.self.now c.self.view_is c.intern.new.bank c.self.inside.sorts.items c.intern.ensures.extends c.self.invariant
