use Rattle.term_bank.specs.Nodes.{tree_at}
use Rattle.word_steps_rules.proofs.Arguments.{no_second}
use Rattle.word_steps_rules.proofs.commuting.is_commuted.Goals as goal

pub returns-in-None : goal.returns-in-None
returns-in-None c =
    no_second c.args.bank.now (tree_at c.args.bank.now c.args.ids.left) (tree_at c.args.bank.now c.args.ids.right) c.args.first c.requires.first.is c.in-None.ensures
