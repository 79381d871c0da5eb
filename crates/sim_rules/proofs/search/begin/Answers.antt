use Rattle.std.proofs.Common.{◌<◌, length, map, arith}
use Rattle.std.proofs.lemmas.List.{length-map}
use Rattle.graph_core.specs.Shared.{shared_node_of}
use Rattle.sim_rules.specs.Tables.{IsStep}
use Rattle.sim_rules.proofs.Gaining.{grows-all, grows-more}
use Rattle.proof_tree.proofs.Ahead.{grows-none}
use Rattle.sim_rules.proofs.search.begin.Goals as goal

pub loop-i-init : goal.loop-i-init
loop-i-init c = λ trees. grows-none (λ k. (k < 0) × IsStep (map (shared_node_of trees) c.args.nodes.now) k c.args.point) c.args.found.now.keys (λ k h. let none = h.0 in omega (arith, none))

pub loop-i-preserved : goal.loop-i-preserved
loop-i-preserved c = λ trees.
    grows-more trees c.args.nodes.now c.loop-i.i c.index-nodes-i.result c.loop-i-test.true c.index-nodes-i.is c.args.point c.args.found.now.keys c.loop-i.found.keys c.add_if.new.found.keys
    (c.loop-i.invariant trees) (c.in-Ok-attempt.ensures trees)

pub returns : goal.returns
returns c = λ trees.
    let nodes = map (shared_node_of trees) c.args.nodes.now in
    let long = length-map c.args.nodes.now (shared_node_of trees) in
    grows-all nodes c.loop-i.i c.args.point c.args.found.now.keys c.loop-i.found.keys (omega (arith, long)) (c.loop-i.invariant trees)
