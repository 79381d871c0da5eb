use Rattle.std.proofs.Common.{subst}
use Rattle.code_reach_tables.specs.Nodes.{Gives, trees_of, tree_at}
use Rattle.code_reach_tables.proofs.Trees.{if-ok}
use Rattle.code_reach_tables.proofs.Values.{register-tree, shift-left, shift-other}
use Rattle.code_reach_tables.proofs.straight.shift.Goals as goal

pub returns-in-Left : goal.returns-in-Left
returns-in-Left c = λ x has. if-ok c.shifted.result (λ id gives. subst (λ t. Gives c.args.nodes.now.keys c.shifted.new.nodes.keys id t)
    (shift-left x c.args.address c.args.operation c.args.source c.args.amount (tree_at (trees_of c.args.nodes.now.keys) c.register-a.result) c.in-Left.is
    (register-tree c.args.nodes.now.keys c.args.registers.now x has c.register-a.result c.args.source c.register-a.ensures.id c.register-a.ensures.below)) gives) c.shifted.ensures

pub returns-in_default : goal.returns-in_default
returns-in_default c = λ x has. if-ok c.add.result (λ id gives. subst (λ t. Gives c.args.nodes.now.keys c.add.new.nodes.keys id t)
    (shift-other x c.args.address c.args.operation c.args.source c.args.amount c.args.operation c.in_default.not-Left) gives) c.add.ensures
