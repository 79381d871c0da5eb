-- What the answers of a step and of a run say.
use Rattle.std.specs.Prelude.{◌≡◌, ◌≢◌, ℕ, ◌<◌, Some, None}
use Rattle.rv_machine_spec.specs.Machine.{Machine}
use Rattle.rv_machine_spec.specs.Step.{step, after}
use Rattle.rv_machine.specs.Effects.{applied}
use Rattle.rv_machine.specs.declared.Effect.{Effect}
use Rattle.rv_machine.specs.declared.Stepped.{Stepped}
use Rattle.rv_machine.specs.declared.Stepped.TheVariants.{Went, Trapped as StepTrapped}
use Rattle.rv_machine.specs.declared.Ran.{Ran}
use Rattle.rv_machine.specs.declared.Ran.TheVariants.{Stopped, Trapped, More}

-- a machine m became n by a step, or stayed as it was where the step traps
abbrev pub HasStepped : Stepped → Machine → Machine → Type 0
HasStepped Went m n = step m ≡ Some n
HasStepped StepTrapped m n = (step m ≡ None) × (n ≡ m)

-- n is m after fewer than `limit` steps
abbrev pub IsUnderWay : Machine → ℕ → ℕ → Machine → Type 0
IsUnderWay m stop limit n = (k : ℕ) × (k < limit) × (after m stop k ≡ Some n)

-- a machine m became n by a run of at most `limit` steps, or by the steps before the one that traps
abbrev pub HasRun : Ran → Machine → ℕ → ℕ → Machine → Type 0
HasRun Stopped m stop limit n = (after m stop limit ≡ Some n) × (n.pc ≡ stop)
HasRun More m stop limit n = (after m stop limit ≡ Some n) × (n.pc ≢ stop)
HasRun Trapped m stop limit n = (after m stop limit ≡ None) × IsUnderWay m stop limit n × (step n ≡ None)

-- a machine m became n by an effect, or stayed as it was where that is a trap
abbrev pub HasApplied : Stepped → Effect → Machine → Machine → Type 0
HasApplied Went e m n = applied e m ≡ Some n
HasApplied StepTrapped e m n = (applied e m ≡ None) × (n ≡ m)
