use Rattle.std.proofs.Common.{◌∙◌}
use Rattle.term_bank.specs.Nodes.{tree_at}
use Rattle.term_norm_rules.proofs.Sameness.{same_complement, not_same_complement}
use Rattle.term_norm_rules.proofs.patterns.is_complement_of.Goals as goal

pub returns-in-Some : goal.returns-in-Some
returns-in-Some c = c.same.ensures ∙ same_complement (tree_at c.args.bank.now c.args.x) (tree_at c.args.bank.now c.in-Some.a) (tree_at c.args.bank.now c.args.argument) c.in-Some.ensures.tree

pub returns-in-None : goal.returns-in-None
returns-in-None c = not_same_complement (tree_at c.args.bank.now c.args.x) (tree_at c.args.bank.now c.args.argument) c.in-None.ensures.tree
