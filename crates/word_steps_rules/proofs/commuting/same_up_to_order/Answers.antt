use Rattle.term_bank.specs.Nodes.{tree_at}
use Rattle.word_steps_rules.proofs.Arguments.{no_first}
use Rattle.word_steps_rules.proofs.commuting.same_up_to_order.Goals as goal

pub returns-in-None : goal.returns-in-None
returns-in-None c =
    no_first c.args.bank.now (tree_at c.args.bank.now c.args.first) (tree_at c.args.bank.now c.args.second) c.in-None.ensures
