use Rattle.code_reach_tables.proofs.Trees.{longer, given-below, if-ok}
use Rattle.code_reach_tables.proofs.Values.{constant-added}
use Rattle.code_reach_tables.proofs.nodes.add_constant.Goals as goal

pub sum-requires-clause-left : goal.sum-requires-clause-left
sum-requires-clause-left c = longer _ _ c.in_ok-constant.constant c.args.a _ c.in_ok-constant.ensures c.requires.below

pub sum-requires-clause-right : goal.sum-requires-clause-right
sum-requires-clause-right c = given-below _ _ c.in_ok-constant.constant _ c.in_ok-constant.ensures

pub returns : goal.returns
returns c = if-ok c.sum.result (λ id gives. constant-added c.args.nodes.now.keys c.add.new.nodes.keys c.sum.new.nodes.keys c.args.a c.args.n c.in_ok-constant.constant id
    c.requires.below c.in_ok-constant.ensures gives) c.sum.ensures
