-- From what an effect did to what a step is.
use Rattle.std.proofs.Common.{◌≡◌, ◌∙◌}
use Rattle.std.specs.Prelude.{Result, Ok, Err, IfOk}
use Rattle.rv_machine_spec.specs.Machine.{Machine}
use Rattle.rv_machine_spec.specs.Step.{step}
use Rattle.rv_machine.specs.Effects.{applied}
use Rattle.rv_machine.specs.Runs.{HasApplied, HasStepped}
use Rattle.rv_machine.specs.declared.Effect.{Effect}
use Rattle.rv_machine.specs.declared.Stepped.{Stepped}
use Rattle.rv_machine.specs.declared.Stepped.TheVariants.{Went, Trapped}

pub stepped : {E : Type 0} (m n : Machine) (e : Effect) (r : Result Stepped E) → step m ≡ applied e m → IfOk r (λ s. HasApplied s e m n) → IfOk r (λ s. HasStepped s m n)
stepped m n e (Ok Went) same h = same ∙ h
stepped m n e (Ok Trapped) same h = (same ∙ h.0, h.1)
stepped m n e (Err x) same h = h
