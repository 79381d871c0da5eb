use Rattle.std.proofs.Common.{subst, sym}
use Rattle.word_steps_rules.specs.Views.{IsOperationOf}
use Rattle.word_steps_rules.proofs.Arguments.{operation_found}
use Rattle.word_steps_rules.proofs.commuting.operation_at.Goals as goal

pub returns : goal.returns
returns c =
    subst (IsOperationOf c.args.bank.now c.args.id) (sym c.operation_of_node.ensures)
    (operation_found c.args.bank.now c.args.id c.node_at.result c.node_at.ensures.children c.node_at.ensures.tree)
