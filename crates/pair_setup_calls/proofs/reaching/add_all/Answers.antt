use Rattle.std.proofs.Common.{get_or, refl, arith}
use Rattle.pair_setup_calls.proofs.Growing.{among-none, among-more, among-all}
use Rattle.pair_setup_calls.proofs.reaching.add_all.Goals as goal

pub loop-node-init : goal.loop-node-init
loop-node-init c = among-none c.args.added.now c.args.nodes.now.keys

pub loop-node-preserved : goal.loop-node-preserved
loop-node-preserved c =
    among-more c.args.added.now c.loop-node.node-index (get_or c.args.added.now c.loop-node.node-index 0) refl
    c.args.nodes.now.keys c.loop-node.nodes.keys c.add.new.nodes.keys c.loop-node.invariant c.in_ok-add.ensures

pub returns : goal.returns
returns c = among-all c.args.added.now c.loop-node.node-index (omega arith) c.args.nodes.now.keys c.loop-node.nodes.keys c.loop-node.invariant
