use Rattle.std.proofs.Common.{◌≡◌, subst, arith, rules, to_z, of_z, w32}
use Rattle.rv_instr.specs.declared.Instr.TheVariants as instr
use Rattle.code_reach_spec.specs.RunUp.{result_of}
use Rattle.code_reach_tables.specs.Followed.{value_of}
use Rattle.code_reach_tables.specs.Nodes.{Gives}
use Rattle.code_reach_tables.proofs.Trees.{if-ok}
use Rattle.code_reach_tables.proofs.Values.{value-lui, value-auipc, value-immediate, value-shift, value-arithmetic, value-other}
use Rattle.code_reach_tables.proofs.straight.value.Goals as goal

pub returns-in-Lui : goal.returns-in-Lui
returns-in-Lui c = λ x has. if-ok c.add.result (λ id gives. subst (λ t. Gives c.args.nodes.now.keys c.add.new.nodes.keys id t)
    (value-lui x c.args.address c.args.instruction.now c.in-Lui.rd c.in-Lui.imm _ c.in-Lui.is (omega arith)) gives) c.add.ensures

pub returns-in-Auipc : goal.returns-in-Auipc
returns-in-Auipc c = λ x has. if-ok c.add-in-Auipc.result (λ id gives. subst (λ t. Gives c.args.nodes.now.keys c.add-in-Auipc.new.nodes.keys id t)
    (value-auipc x c.args.address c.args.instruction.now c.in-Auipc.rd c.in-Auipc.imm _ c.in-Auipc.is (omega arith)) gives) c.add-in-Auipc.ensures

pub returns-in-Immediate : goal.returns-in-Immediate
returns-in-Immediate c = λ x has.
    let same : to_z w32 (of_z w32 c.in-Immediate.imm) ≡ c.in-Immediate.imm = search rules in
    if-ok c.immediate.result (λ id gives. subst (λ t. Gives c.args.nodes.now.keys c.immediate.new.nodes.keys id t)
    (value-immediate x c.args.address c.args.instruction.now c.in-Immediate.operation c.in-Immediate.rd c.in-Immediate.source c.in-Immediate.imm c.in-Immediate.is)
    (subst (λ z. Gives c.args.nodes.now.keys c.immediate.new.nodes.keys id (value_of c.args.address (result_of x c.args.address (instr.Immediate c.in-Immediate.operation 0 c.in-Immediate.source z)))) same gives))
    (c.immediate.ensures x has)

pub returns-in-Shift : goal.returns-in-Shift
returns-in-Shift c = λ x has. if-ok c.shift.result (λ id gives. subst (λ t. Gives c.args.nodes.now.keys c.shift.new.nodes.keys id t)
    (value-shift x c.args.address c.args.instruction.now c.in-Shift.operation c.in-Shift.rd c.in-Shift.source c.in-Shift.amount c.in-Shift.is) gives) (c.shift.ensures x has)

pub returns-in-Arithmetic : goal.returns-in-Arithmetic
returns-in-Arithmetic c = λ x has. if-ok c.arithmetic.result (λ id gives. subst (λ t. Gives c.args.nodes.now.keys c.arithmetic.new.nodes.keys id t)
    (value-arithmetic x c.args.address c.args.instruction.now c.in-Arithmetic.operation c.in-Arithmetic.rd c.in-Arithmetic.left c.in-Arithmetic.right c.in-Arithmetic.is) gives) (c.arithmetic.ensures x has)

pub returns-in_default : goal.returns-in_default
returns-in_default c = λ x has. if-ok c.add-in_default.result (λ id gives. subst (λ t. Gives c.args.nodes.now.keys c.add-in_default.new.nodes.keys id t)
    (value-other x c.args.address c.args.instruction.now c.in_default.not-Lui c.in_default.not-Auipc c.in_default.not-Immediate c.in_default.not-Shift c.in_default.not-Arithmetic) gives) c.add-in_default.ensures
