use Rattle.code_reach_tables.specs.Nodes.{trees_of, tree_at}
use Rattle.code_reach_tables.proofs.Trees.{no-shift, a-shift}
use Rattle.code_reach_tables.proofs.nodes.shift_of.Goals as goal

pub returns-in-Shifted-clause-shift : goal.returns-in-Shifted-clause-shift
returns-in-Shifted-clause-shift c = a-shift _ (tree_at (trees_of c.args.nodes.now.keys) c.in-Shifted.a) c.in-Shifted.amount c.in-Shifted.ensures.tree

pub returns-in_default : goal.returns-in_default
returns-in_default c = record { shift = no-shift (trees_of c.args.nodes.now.keys) _ c.node_at.result c.node_at.ensures.tree c.in_default.not-Shifted; below = tt }
