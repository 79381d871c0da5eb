use Rattle.std.proofs.Common.{ap, subst, length, arith, []}
use Rattle.term_bank.specs.Nodes.{Holds, build}
use Rattle.term_bank.specs.Trees.{grown}
use Rattle.term_bank.proofs.Growth.{length-grown, IsNodeAt, node_is_at}
use Rattle.term_bank.proofs.bank.Bank.node.Goals as goal

pub index-requires : goal.index-requires
index-requires c = omega (arith, length-grown [] c.self.inside.nodes.keys, ap length c.self.view_is)

is_at : (c : goal.After-result-1) → IsNodeAt (grown [] c.self.inside.nodes.keys) c.args.id c.index.result.now
is_at c = node_is_at [] c.self.inside.nodes.keys c.args.id c.args.id c.index.result.now c.self.invariant.ordered c.index.ensures (omega arith)

pub returns-clause-children : goal.returns-clause-children
returns-clause-children c = (is_at c).before

pub returns-clause-tree : goal.returns-clause-tree
returns-clause-tree c = subst (λ trees. Holds trees c.args.id (build trees c.index.result.now)) c.self.view_is (is_at c).holds
