use Rattle.std.proofs.Common.{subst, sym}
use Rattle.word_steps_rules.specs.Sides.{IsEquality}
use Rattle.word_steps_rules.proofs.Equalities.{equality_found}
use Rattle.word_steps_rules.proofs.words.equality_at.Goals as goal

pub returns : goal.returns
returns c =
    subst (IsEquality c.args.bank.now c.args.id) (sym c.sides_of_node.ensures)
    (equality_found c.args.bank.now c.args.id c.node_at.result c.node_at.ensures.children c.node_at.ensures.tree)
