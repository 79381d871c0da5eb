use Rattle.std.proofs.Common.{[], refl, arith}
use Rattle.code_reach_tables.specs.Nodes.{trees_of}
use Rattle.code_reach_tables.proofs.Growth.{IsNodeAt, node_is_at, tree-held}
use Rattle.code_reach_tables.proofs.nodes.node_at.Goals as goal

is_at : (c : goal.After-result-1) → IsNodeAt (trees_of c.args.nodes.now.keys) c.args.id c.index.result.now
is_at c = node_is_at [] c.args.nodes.now.keys c.args.id c.args.id c.index.result.now c.requires.shared.ordered c.index.ensures (omega arith)

pub returns-clause-fits : goal.returns-clause-fits
returns-clause-fits c = (is_at c).before

pub returns-clause-tree : goal.returns-clause-tree
returns-clause-tree c = tree-held (trees_of c.args.nodes.now.keys) c.args.id _ (is_at c).holds
