use Rattle.code_reach_tables.proofs.Trees.{as-it-is, shifted-nothing}
use Rattle.code_reach_tables.proofs.nodes.shifted.Goals as goal

pub returns-then-amount-eq0 : goal.returns-then-amount-eq0
returns-then-amount-eq0 c =
    as-it-is c.args.nodes.now.keys c.args.a _ c.requires.shared c.requires.below (shifted-nothing _ c.args.amount c.in_default.ensures c.if-amount-eq0.true)
