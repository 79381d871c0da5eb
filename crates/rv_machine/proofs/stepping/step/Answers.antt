use Rattle.std.proofs.Common.{refl, sym, ap, ◌∙◌}
use Rattle.rv_instr.specs.Instr.{instr}
use Rattle.rv_machine_spec.specs.Machine.{read_register}
use Rattle.rv_machine_spec.proofs.Steps.{step_at, step_none}
use Rattle.rv_machine.proofs.Steps.{stepped}
use Rattle.rv_machine.proofs.stepping.step.Goals as goal

pub returns-in_default-clause-done : goal.returns-in_default-clause-done
returns-in_default-clause-done c =
    (step_none c.args.machine.now (ap instr (sym c.word.ensures) ∙ sym c.decode.ensures ∙ c.in_default.is), refl)

pub returns-clause-done : goal.returns-clause-done
returns-clause-done c =
    let m = c.args.machine.now in
    let first = ap (read_register m) (sym c.sources-first.ensures.first) ∙ sym c.register-a.ensures in
    let second = ap (read_register m) (sym c.sources-first.ensures.second) ∙ sym c.register-b.ensures in
    let here = ap instr (sym c.word.ensures) ∙ sym c.decode.ensures ∙ c.in-Some.is in
    stepped m c.apply.new.self c.effect-done.result c.apply.result
    (step_at m c.in-Some.instruction here ∙ c.effect-done.ensures.meaning m (sym c.pc.ensures) first second)
    c.apply.ensures.done
