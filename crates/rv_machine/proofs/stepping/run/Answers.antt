use Rattle.std.proofs.Common.{◌≡◌, ◌≢◌, sym, ap, subst, ◌∙◌, arith, Some}
use Rattle.rv_machine_spec.specs.Step.{step}
use Rattle.rv_machine_spec.proofs.Steps.{after_zero}
use Rattle.rv_machine_spec.proofs.Runs.{stays_stopped, stays_trapped, one_more}
use Rattle.rv_machine.specs.Runs.{HasStepped}
use Rattle.rv_machine.proofs.stepping.run.Goals as goal

pub loop-init : goal.loop-init
loop-init c = after_zero c.args.machine.now c.args.stop

pub returns-then-pc-stop-clause-done : goal.returns-then-pc-stop-clause-done
returns-then-pc-stop-clause-done c =
    let here : c.loop.machine.pc ≡ c.args.stop = sym c.pc.ensures ∙ c.if-pc-stop.true in
    (stays_stopped c.args.machine.now c.args.stop c.loop.counter c.args.limit c.loop.machine (omega arith) c.loop.invariant here, here)

pub returns-in-Trapped-clause-done : goal.returns-in-Trapped-clause-done
returns-in-Trapped-clause-done c =
    let on : c.loop.machine.pc ≢ c.args.stop = λ here. c.if-pc-stop.false (c.pc.ensures ∙ here) in
    let done = subst (λ s. HasStepped s c.loop.machine c.step.new.machine) c.in-Trapped.is c.in_ok-step.ensures.done in (
      stays_trapped c.args.machine.now c.args.stop c.loop.counter c.args.limit c.loop.machine (omega arith) c.loop.invariant on done.0,
      (c.loop.counter, omega arith, c.loop.invariant ∙ ap Some (sym done.1)),
      ap step done.1 ∙ done.0,
    )

pub loop-preserved : goal.loop-preserved
loop-preserved c =
    let on : c.loop.machine.pc ≢ c.args.stop = λ here. c.if-pc-stop.false (c.pc.ensures ∙ here) in
    one_more c.args.machine.now c.args.stop c.loop.counter c.loop.machine c.step.new.machine c.loop.invariant on
    (subst (λ s. HasStepped s c.loop.machine c.step.new.machine) c.in-Went.is c.in_ok-step.ensures.done)
