use Rattle.std.proofs.Common.{◌∙◌}
use Rattle.word_steps.proofs.Merged.{equality_at}
use Rattle.word_steps.proofs.merging.is_equality.Goals as goal

pub returns : goal.returns
returns c =
    c.is_equality_node.ensures
    ∙ equality_at c.args.bank.now c.are_distinct.ensures c.args.x c.args.y c.requires.x c.requires.y c.args.fact c.node.result c.requires.fact c.node.ensures.children c.node.ensures.tree
