use Rattle.std.proofs.Common.{◌∙◌, ap, subst, w32}
use Rattle.std.proofs.lemmas.Int.{to_z-of_z}
use Rattle.rv_machine_spec.specs.Arithmetic.{word}
use Rattle.code_reach_tables.specs.Nodes.{Gives, trees_of, tree_at}
use Rattle.code_reach_tables.proofs.Trees.{if-ok}
use Rattle.code_reach_tables.proofs.Values.{register-tree, immediate-add, immediate-and, immediate-other}
use Rattle.code_reach_tables.proofs.straight.immediate.Goals as goal

pub returns-in-Add : goal.returns-in-Add
returns-in-Add c = λ x has. if-ok c.add_constant.result (λ id gives. subst (λ t. Gives c.args.nodes.now.keys c.add_constant.new.nodes.keys id t)
    (immediate-add x c.args.address c.args.operation c.args.source c.args.imm (tree_at (trees_of c.args.nodes.now.keys) c.register-a.result) c.unsigned-n.result c.in-Add.is
    (register-tree c.args.nodes.now.keys c.args.registers.now x has c.register-a.result c.args.source c.register-a.ensures.id c.register-a.ensures.below) (c.unsigned-n.ensures ∙ ap (λ z. word z) (to_z-of_z w32 c.args.imm c.ranges.imm))) gives) c.add_constant.ensures

pub returns-in-And : goal.returns-in-And
returns-in-And c = λ x has. if-ok c.masked.result (λ id gives. subst (λ t. Gives c.args.nodes.now.keys c.masked.new.nodes.keys id t)
    (immediate-and x c.args.address c.args.operation c.args.source c.args.imm (tree_at (trees_of c.args.nodes.now.keys) c.register-a.result) c.unsigned-n.result c.in-And.is
    (register-tree c.args.nodes.now.keys c.args.registers.now x has c.register-a.result c.args.source c.register-a.ensures.id c.register-a.ensures.below) (c.unsigned-n.ensures ∙ ap (λ z. word z) (to_z-of_z w32 c.args.imm c.ranges.imm))) gives) c.masked.ensures

pub returns-in_default : goal.returns-in_default
returns-in_default c = λ x has. if-ok c.add.result (λ id gives. subst (λ t. Gives c.args.nodes.now.keys c.add.new.nodes.keys id t)
    (immediate-other x c.args.address c.args.operation c.args.source c.args.imm c.args.operation c.in_default.not-Add c.in_default.not-And) gives) c.add.ensures
