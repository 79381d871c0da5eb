use Rattle.std.proofs.Common.{◌<◌, length, map, arith}
use Rattle.std.proofs.lemmas.List.{length-map}
use Rattle.graph_core.specs.Shared.{shared_node_of}
use Rattle.sim_rules.specs.Tables.{IsStep, lists_of}
use Rattle.sim_rules.proofs.Gaining.{gains-all, gains-more, gains-none}
use Rattle.sim_rules.proofs.table.add_nodes.Goals as goal

pub loop-i-init : goal.loop-i-init
loop-i-init c = λ trees. gains-none (λ k n. (k < 0) × IsStep (map (shared_node_of trees) c.args.nodes.now) k n) (lists_of c.args.before.now.items) (λ n k less h. let none = h.0 in omega (arith, none))

pub loop-i-preserved : goal.loop-i-preserved
loop-i-preserved c = λ trees.
    gains-more trees c.args.nodes.now c.loop-i.i c.index-nodes-i.result c.loop-i-test.true c.index-nodes-i.is (lists_of c.args.before.now.items) (lists_of c.loop-i.before.items) (lists_of c.add_node.new.before.items)
    (c.loop-i.invariant trees) (c.in-Ok-attempt.ensures trees)

pub returns : goal.returns
returns c = λ trees.
    let nodes = map (shared_node_of trees) c.args.nodes.now in
    let long = length-map c.args.nodes.now (shared_node_of trees) in
    gains-all nodes c.loop-i.i (lists_of c.args.before.now.items) (lists_of c.loop-i.before.items) (omega (arith, long)) (c.loop-i.invariant trees)
