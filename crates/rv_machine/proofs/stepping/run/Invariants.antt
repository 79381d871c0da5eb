use Rattle.std.proofs.Common.{◌≡◌, Some}
use Rattle.rv_machine_spec.specs.Step.{after}
use Rattle.rv_machine.proofs.stepping.run.Given as goal

abbrev pub invariant-loop : goal.invariant-loop
invariant-loop l = after l.fn.machine l.stop l.counter ≡ Some l.machine
