-- What statements and calls do where the depth, which doesn't matter, is not named.
use Rattle.std.specs.Prelude.{ℕ, ℤ, List}
use Rattle.memory_spec.specs.Memory.{Memory}
use Rattle.c_types_spec.specs.declared.Scalar.{Scalar}
use Rattle.c_types_spec.specs.declared.TestPlace.{TestPlace}
use Rattle.c_types_spec.specs.Core.{Core, Action}
use Rattle.c_run_spec.specs.Setting.{Setting}
use Rattle.c_run_spec.specs.Evaluation.{value}
use Rattle.c_run_spec.specs.Execution.{State, Flow, Called, rounds, round_of, does}
use Rattle.c_run_spec.specs.Calls.{runs}

abbrev pub called : Setting → (function : List ℕ) → (arguments : List ℤ) → Memory → (turns : ℕ) → Called
called setting function arguments memory turns = runs setting turns function arguments memory turns

unfoldable pub performed : Setting → (types : List Scalar) → Action → State → (turns : ℕ) → Flow
performed setting types action st turns = does setting (runs setting turns) types turns action st turns

-- a round of a loop
abbrev pub round_in : Setting → (types : List Scalar) → TestPlace → (test : Core) → (step body : Action) → State → (turns : ℕ) → Flow
round_in setting types place test step body st turns =
    round_of place (λ s. value setting s.locals s.memory 0 test) (performed setting types step) (performed setting types body) st turns

unfoldable pub looped : Setting → (types : List Scalar) → TestPlace → (test : Core) → (step body : Action) → State → (turns : ℕ) → Flow
looped setting types place test step body st turns = rounds (round_in setting types place test step body) turns st turns
