use Rattle.code_reach_tables.proofs.Trees.{as-it-is, plus-nothing, plus-given, longer, given-below, if-ok}
use Rattle.code_reach_tables.proofs.nodes.plus_constant.Goals as goal

pub returns-then-n-eq0 : goal.returns-then-n-eq0
returns-then-n-eq0 c = as-it-is c.args.nodes.now.keys c.args.a _ c.requires.shared c.requires.below (plus-nothing _ c.args.n c.if-n-eq0.true)

pub add-requires-2-clause-fits : goal.add-requires-2-clause-fits
add-requires-2-clause-fits c = (longer _ _ c.in_ok-constant.constant c.args.a _ c.in_ok-constant.ensures c.requires.below, given-below _ _ c.in_ok-constant.constant _ c.in_ok-constant.ensures)

pub returns : goal.returns
returns c = if-ok c.add-2.result (λ id gives. plus-given c.args.nodes.now.keys c.add.new.nodes.keys c.add-2.new.nodes.keys c.args.a c.args.n c.in_ok-constant.constant id
    c.requires.below c.if-n-eq0.false c.in_ok-constant.ensures gives) c.add-2.ensures
