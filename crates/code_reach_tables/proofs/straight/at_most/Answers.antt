use Rattle.std.proofs.Common.{◌+◌, arith}
use Rattle.code_reach_tables.specs.Nodes.{trees_of, tree_at}
use Rattle.code_reach_tables.proofs.Growth.{held, trees-long}
use Rattle.code_reach_tables.proofs.Values.{none-most, some-most}
use Rattle.code_reach_tables.proofs.straight.at_most.Goals as goal

pub returns-in_err-c : goal.returns-in_err-c
returns-in_err-c c = none-most (trees_of c.args.nodes.now.keys) c.args.branch c.args.index (tree_at (trees_of c.args.nodes.now.keys) c.args.index)
    (held (trees_of c.args.nodes.now.keys) c.args.index (omega (arith, c.requires.index, trees-long c.args.nodes.now.keys))) c.from_residual.result _ c.from_residual.ensures c.in_err-c.ensures

pub returns : goal.returns
returns c = some-most (trees_of c.args.nodes.now.keys) c.args.branch c.args.index (tree_at (trees_of c.args.nodes.now.keys) c.args.index)
    (held (trees_of c.args.nodes.now.keys) c.args.index (omega (arith, c.requires.index, trees-long c.args.nodes.now.keys))) (c.from.result + 1) c.in_ok-c.c _ c.in_ok-c.ensures (omega (arith, c.from.ensures))
