use Rattle.std.proofs.Common.{◌≡◌, ◌+◌, ◌<◌, ◌^◌, length, arith}
use Rattle.std.proofs.lemmas.List.{length-map}
use Rattle.graph_core.specs.Graphs.{graph_of}
use Rattle.graph_core.specs.Shared.{shared_node_of}
use Rattle.graph_inline.proofs.Moving.{callee_fits}
use Rattle.graph_inline.proofs.inlining.add_callee.Goals as goal

pub add_nodes-requires-clause-fits : goal.add_nodes-requires-clause-fits
add_nodes-requires-clause-fits c =
    let trees = c.args.callee.now.trees in
    let nodes = c.args.callee.now.nodes in
    let small : c.args.placing.first + length (graph_of c.args.callee.now).nodes < 2 ^ 64 = omega (arith, c.requires.fits, length-map nodes (shared_node_of trees)) in
    callee_fits c.args.placing trees nodes (length (graph_of c.args.callee.now).nodes) small c.requires.valid.nodes
