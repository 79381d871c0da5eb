use Rattle.std.proofs.Common.{sym, subst}
use Rattle.graph_core.specs.Shared.{shared_node_of}
use Rattle.graph_core.specs.declared.shared.SharedNode.{SharedNode}
use Rattle.graph_core_spec.specs.Run.{GoesTo}
use Rattle.proof_tree.specs.Ahead.{Grows}
use Rattle.proof_tree.proofs.reachable.add_edges.Goals as goal

pub returns-in_ok-add_next-in-Basic : goal.returns-in_ok-add_next-in-Basic
returns-in_ok-add_next-in-Basic c = λ trees.
    subst (λ (node : SharedNode). Grows (GoesTo (shared_node_of trees node)) c.args.found.now.keys c.add_next.new.found.keys) (sym c.in-Basic.is) c.in_ok-add_next-in-Basic.ensures

pub returns-in_ok-add_both-in-Cond : goal.returns-in_ok-add_both-in-Cond
returns-in_ok-add_both-in-Cond c = λ trees.
    subst (λ (node : SharedNode). Grows (GoesTo (shared_node_of trees node)) c.args.found.now.keys c.add_both.new.found.keys) (sym c.in-Cond.is) c.in_ok-add_both-in-Cond.ensures

pub returns-in_ok-add-in-Call : goal.returns-in_ok-add-in-Call
returns-in_ok-add-in-Call c = λ trees.
    subst (λ (node : SharedNode). Grows (GoesTo (shared_node_of trees node)) c.args.found.now.keys c.add.new.found.keys) (sym c.in-Call.is) c.in_ok-add-in-Call.ensures
