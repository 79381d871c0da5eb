use Rattle.std.proofs.Common.{subst}
use Rattle.code_reach_tables.specs.Nodes.{Gives, trees_of, tree_at}
use Rattle.code_reach_tables.proofs.Trees.{if-ok}
use Rattle.code_reach_tables.proofs.Values.{register-tree, arithmetic-add, arithmetic-subtract, arithmetic-other}
use Rattle.code_reach_tables.proofs.straight.arithmetic.Goals as goal

pub returns-in-Add : goal.returns-in-Add
returns-in-Add c = λ x has. if-ok c.sum.result (λ id gives. subst (λ t. Gives c.args.nodes.now.keys c.sum.new.nodes.keys id t)
    (arithmetic-add x c.args.address c.args.operation c.args.left c.args.right (tree_at (trees_of c.args.nodes.now.keys) c.register-a.result)
    (tree_at (trees_of c.args.nodes.now.keys) c.register-b.result) c.in-Add.is
    (register-tree c.args.nodes.now.keys c.args.registers.now x has c.register-a.result c.args.left c.register-a.ensures.id c.register-a.ensures.below)
    (register-tree c.args.nodes.now.keys c.args.registers.now x has c.register-b.result c.args.right c.register-b.ensures.id c.register-b.ensures.below)) gives) c.sum.ensures

pub returns-in-Subtract : goal.returns-in-Subtract
returns-in-Subtract c = λ x has. if-ok c.difference.result (λ id gives. subst (λ t. Gives c.args.nodes.now.keys c.difference.new.nodes.keys id t)
    (arithmetic-subtract x c.args.address c.args.operation c.args.left c.args.right (tree_at (trees_of c.args.nodes.now.keys) c.register-a.result)
    (tree_at (trees_of c.args.nodes.now.keys) c.register-b.result) c.in-Subtract.is
    (register-tree c.args.nodes.now.keys c.args.registers.now x has c.register-a.result c.args.left c.register-a.ensures.id c.register-a.ensures.below)
    (register-tree c.args.nodes.now.keys c.args.registers.now x has c.register-b.result c.args.right c.register-b.ensures.id c.register-b.ensures.below)) gives) c.difference.ensures

pub returns-in_default : goal.returns-in_default
returns-in_default c = λ x has. if-ok c.add.result (λ id gives. subst (λ t. Gives c.args.nodes.now.keys c.add.new.nodes.keys id t)
    (arithmetic-other x c.args.address c.args.operation c.args.left c.args.right c.args.operation c.in_default.not-Add c.in_default.not-Subtract) gives) c.add.ensures
