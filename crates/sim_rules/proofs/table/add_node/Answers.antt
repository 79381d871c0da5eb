use Rattle.std.proofs.Common.{◌≡◌, ℕ, OnOk, sym, subst}
use Rattle.graph_core.specs.Shared.{shared_node_of}
use Rattle.graph_core.specs.declared.shared.SharedNode.{SharedNode}
use Rattle.graph_core_spec.specs.Run.{GoesTo}
use Rattle.sim_rules.specs.Tables.{Gains, lists_of}
use Rattle.sim_rules.proofs.table.add_node.Goals as goal

pub returns-in-Basic : goal.returns-in-Basic
returns-in-Basic c = λ trees.
    subst (λ (node : SharedNode). OnOk c.add_edge.result (Gains (λ k n. (c.args.from ≡ k) × GoesTo (shared_node_of trees node) n) (lists_of c.args.before.now.items) (lists_of c.add_edge.new.before.items)))
    (sym c.in-Basic.is) c.add_edge.ensures

pub returns-in-Cond : goal.returns-in-Cond
returns-in-Cond c = λ trees.
    subst (λ (node : SharedNode). OnOk c.add_both.result (Gains (λ k n. (c.args.from ≡ k) × GoesTo (shared_node_of trees node) n) (lists_of c.args.before.now.items) (lists_of c.add_both.new.before.items)))
    (sym c.in-Cond.is) c.add_both.ensures

pub returns-in-Call : goal.returns-in-Call
returns-in-Call c = λ trees.
    subst (λ (node : SharedNode). OnOk c.add_source.result (Gains (λ k n. (c.args.from ≡ k) × GoesTo (shared_node_of trees node) n) (lists_of c.args.before.now.items) (lists_of c.add_source.new.before.items)))
    (sym c.in-Call.is) c.add_source.ensures
