use Rattle.std.proofs.Common.{sym, subst}
use Rattle.code_reach_tables.specs.Nodes.{trees_of, tree_at, Gives}
use Rattle.code_reach_tables.proofs.Trees.{same-one, not-same-difference, if-ok}
use Rattle.code_reach_tables.proofs.nodes.difference_of_trees.Goals as goal

pub returns-then-a-b : goal.returns-then-a-b
returns-then-a-b c = if-ok c.add.result (λ id gives. subst (λ t. Gives c.args.nodes.now.keys c.add.new.nodes.keys id t) (sym (same-one c.args.nodes.now.keys c.args.a c.args.b c.if-a-b.true)) gives) c.add.ensures

pub returns : goal.returns
returns c = if-ok c.add-2.result (λ id gives. subst (λ t. Gives c.args.nodes.now.keys c.add-2.new.nodes.keys id t)
    (sym (not-same-difference c.args.nodes.now.keys c.args.a c.args.b c.requires.shared c.requires.left c.requires.right c.if-a-b.false)) gives) c.add-2.ensures
