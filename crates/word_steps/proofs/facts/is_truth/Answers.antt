use Rattle.std.proofs.Common.{◌∙◌}
use Rattle.word_steps.proofs.Merged.{truth_at}
use Rattle.word_steps.proofs.facts.is_truth.Goals as goal

pub returns : goal.returns
returns c =
    c.is_truth_node.ensures ∙ truth_at c.args.bank.now c.args.id c.node.result c.args.value c.node.ensures.tree
