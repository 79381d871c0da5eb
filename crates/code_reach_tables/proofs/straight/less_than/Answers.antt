use Rattle.std.proofs.Common.{arith}
use Rattle.code_reach_tables.specs.Nodes.{trees_of, tree_at}
use Rattle.code_reach_tables.proofs.Growth.{held, trees-long}
use Rattle.code_reach_tables.proofs.Values.{none-less, some-less}
use Rattle.code_reach_tables.proofs.straight.less_than.Goals as goal

pub returns-in_err-n : goal.returns-in_err-n
returns-in_err-n c = none-less (trees_of c.args.nodes.now.keys) c.args.branch c.args.index (tree_at (trees_of c.args.nodes.now.keys) c.args.index)
    (held (trees_of c.args.nodes.now.keys) c.args.index (omega (arith, c.requires.index, trees-long c.args.nodes.now.keys))) c.from_residual.result _ c.from_residual.ensures c.in_err-n.ensures

pub returns : goal.returns
returns c = some-less (trees_of c.args.nodes.now.keys) c.args.branch c.args.index (tree_at (trees_of c.args.nodes.now.keys) c.args.index)
    (held (trees_of c.args.nodes.now.keys) c.args.index (omega (arith, c.requires.index, trees-long c.args.nodes.now.keys))) c.from.result c.in_ok-n.n _ c.in_ok-n.ensures (omega (arith, c.from.ensures))
