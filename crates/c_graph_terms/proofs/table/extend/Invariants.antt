use Rattle.std.proofs.Common.{◌≡◌, ◌+◌, length, map, drop}
use Rattle.std.specs.Prelude.{IsTrue}
use Rattle.term_bank.specs.Nodes.{tree_at}
use Rattle.term_bank.specs.Trees.{grown}
use Rattle.c_graph_terms.specs.Tables.{AreWithin, are_nodes}
use Rattle.c_graph_terms.specs.Built.{IsGrown}
use Rattle.c_graph_terms.proofs.table.extend.Given as goal

abbrev pub invariant-loop-node : goal.invariant-loop-node
invariant-loop-node l = record {
  is_grown : IsGrown l.fn.bank l.bank;
  within : AreWithin (length l.bank) l.ids.items;
  count : length l.ids.items ≡ length l.fn.ids.items + l.node-index;
  fit : IsTrue (are_nodes (length l.ids.items) (drop l.node-index l.nodes));
  trees : grown (map (tree_at l.bank) l.ids.items) (drop l.node-index l.nodes) ≡ grown (map (tree_at l.fn.bank) l.fn.ids.items) l.nodes;
}
