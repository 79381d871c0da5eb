-- The run of a call with a number of turns.
use Rattle.std.specs.Prelude.{ℕ, zero, suc, ℤ, List, [], ◌∷◌, bytes_eq, find, Option, Some, None}
use Rattle.memory_spec.specs.Memory.{Memory}
use Rattle.c_types_spec.specs.declared.Scalar.{Scalar}
use Rattle.c_types_spec.specs.Core.{Body}
use Rattle.c_run_spec.specs.declared.Guard.{Guard}
use Rattle.c_run_spec.specs.Setting.{Setting}
use Rattle.c_run_spec.specs.Evaluation.{Locals}
use Rattle.c_run_spec.specs.Execution as flow
use Rattle.c_run_spec.specs.Execution.{state, Flow, Called, Unfinished, Failed, Returned, Calls, does}

-- the outcome of a run with a number of turns
pub data Outcome : Type 0 where
  -- the turns were too few
  More : Outcome
  -- it broke a guard, at this offset of the source text
  Broke : (guard : Guard) → (offset : ℕ) → Outcome
  -- it returned this value, unless the function is `void`, and left this memory
  Back : (value : Option ℤ) → (memory : Memory) → Outcome

-- 6.9.1p10: each parameter gets the value of its argument; the other locals are unset
abbrev pub locals_at_entry : (types : List Scalar) → (arguments : List ℤ) → Locals
locals_at_entry [] arguments = []
locals_at_entry (type ∷ types) [] = None ∷ locals_at_entry types []
locals_at_entry (type ∷ types) (v ∷ arguments) = Some v ∷ locals_at_entry types arguments

-- the end of a body is a return without value (6.8.6.4)
abbrev pub returned : Flow → Called
returned flow.More = Unfinished
returned (flow.Broke guard offset) = Failed guard offset
returned (flow.Went st left) = Returned None st.memory left
returned (flow.Jumped jump st left) = Returned None st.memory left
returned (flow.Gave v memory left) = Returned v memory left

abbrev pub body_named : List Body → (function : List ℕ) → Option Body
body_named bodies function = find (λ (b : Body). bytes_eq b.name function) bodies

-- what the body of a function does; what has no body never ends
abbrev pub runs_body : Setting → Calls → (depth : ℕ) → Option Body → (arguments : List ℤ) → Memory → (turns : ℕ) → Called
runs_body setting calls depth None arguments memory turns = Unfinished
runs_body setting calls depth (Some body) arguments memory turns =
    returned (does setting calls body.locals depth body.action (state (locals_at_entry body.locals arguments) memory) turns)

-- 6.5.2.2p4: a call takes a turn. Calls are no deeper than there are turns, so that the depth does not matter where it is
-- at least their number
unfoldable pub runs : Setting → (depth : ℕ) → Calls
runs setting zero function arguments memory turns = Unfinished
runs setting (suc depth) function arguments memory zero = Unfinished
runs setting (suc depth) function arguments memory (suc turns) =
    runs_body setting (runs setting depth) depth (body_named setting.bodies function) arguments memory turns

abbrev pub outcome_of : Called → Outcome
outcome_of Unfinished = More
outcome_of (Failed guard offset) = Broke guard offset
outcome_of (Returned v memory left) = Back v memory

-- the run of a call of a function with n turns
unfoldable pub c_run : Setting → (function : List ℕ) → (arguments : List ℤ) → Memory → (turns : ℕ) → Outcome
c_run setting function arguments memory turns = outcome_of (runs setting turns function arguments memory turns)
