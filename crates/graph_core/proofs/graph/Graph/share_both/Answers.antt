use Rattle.std.proofs.Common.{map}
use Rattle.graph_core.specs.Graphs.{binding_of}
use Rattle.graph_core.proofs.Growing.{shared_later}
use Rattle.graph_core.proofs.graph.Graph.share_both.Goals as goal

pub returns-clause-inputs : goal.returns-clause-inputs
returns-clause-inputs c =
    shared_later c.share.new.self.trees c.share-2.new.self.trees c.share-2.ensures.grows.extends (map binding_of c.args.inputs.now) c.in_ok-inputs.inputs.items c.in_ok-inputs.ensures.shared
