-- What functions that wait for their callees make of how these end.
use Rattle.std.specs.Prelude.{◌≡◌, ℕ, ◌+◌, ◌*◌, ◌<◌, length, ℤ, List, [], ◌∷◌, ◌++◌, Option, Some, None, Result, Ok, Err}
use Rattle.std.specs.Borrow.{Bor}
use Rattle.memory_spec.specs.Memory.{Memory}
use Rattle.c_types_spec.specs.declared.Scalar.{Scalar}
use Rattle.c_run_spec.specs.Setting.{Setting}
use Rattle.c_run_spec.specs.Execution.{Called, after_call, received}
use Rattle.c_run_spec.specs.Calls as spec
use Rattle.c_run_spec.specs.Calls.{returned, outcome_of, locals_at_entry}
use Rattle.c_types_core.specs.declared.action.Action.{Action}
use Rattle.c_types.specs.declared.typed.Body.{Body}
use Rattle.attempt.specs.declared.refusal.Refusal.{Refusal}
use Rattle.attempt.specs.declared.refusal.Refusal.TheVariants.{Fault, NoMemory}
use Rattle.c_run_value.specs.declared.setting.Stop.{Stop}
use Rattle.c_run_value.specs.declared.setting.Stop.TheVariants as stop
use Rattle.c_run.specs.declared.frame.Pause.{Pause}
use Rattle.c_run.specs.declared.frame.Frame.{Frame}
use Rattle.c_run.specs.declared.frame.Task.TheVariants as task
use Rattle.c_run.specs.declared.machine.Machine.{Machine}
use Rattle.c_run.specs.declared.machine.Ended.{Ended}
use Rattle.c_run.specs.declared.machine.Ended.TheVariants as ended
use Rattle.c_run.specs.Tasks.{through, paused, reached}

-- the last function that waits is reached first
unfoldable pub ends : Setting → List Frame → Called → Called
ends setting [] result = result
ends setting (w ∷ waiting) result =
    returned (through setting w.types.now w.tasks.items (after_call w.types.now w.locals.items w.receiver (ends setting waiting result)))

-- what a call comes to, where the innermost function goes on
abbrev pub comes_to : Setting → Machine → Memory → Called
comes_to setting machine memory = ends setting machine.waiting.items (reached setting machine.frame memory machine.left)

-- and where it doesn't by itself
abbrev pub comes_by : Setting → Machine → Memory → Pause → Called
comes_by setting machine memory at = ends setting machine.waiting.items (paused setting machine.frame memory at machine.left)

-- a run ends as the definition says, and leaves the memory
abbrev pub Ends : Called → (after : Memory) → Result Ended (Refusal Stop) → Type 0
Ends given after (Ok ended.More) = outcome_of given ≡ spec.More
Ends given after (Ok (ended.Back v)) = outcome_of given ≡ spec.Back v after
Ends given after (Err (Fault (stop.Broke guard offset))) = outcome_of given ≡ spec.Broke guard offset
Ends given after (Err NoMemory) = Unit {0}

-- each turn makes it less
abbrev pub weight : Machine → ℕ
weight machine = 2 * machine.left + length machine.waiting.items

-- the run goes on as the definition says, or it ends so
abbrev pub Turns : (given : Called) → Setting → (old new : Machine) → (after : Memory) → Result (Option Ended) (Refusal Stop) → Type 0
Turns given setting old new after (Ok None) = (given ≡ comes_to setting new after) × (weight new < weight old)
Turns given setting old new after (Ok (Some e)) = Ends given after (Ok e)
Turns given setting old new after (Err e) = Ends given after (Err e)

-- the innermost function doesn't go on by itself, and the run does, or it ends
abbrev pub Turned : Setting → Pause → (old new : Machine) → Result (Option Ended) (Refusal Stop) → Type 0
Turned setting at old new result = (memory : Memory) → Turns (comes_by setting old memory at) setting old new memory result

-- a function has nothing in it but the types of its locals
pub record IsBegun (given : List Scalar) (frame : Frame) : Type 0 where
  pub types : frame.types.now ≡ given
  pub locals : frame.locals.items ≡ []
  pub tasks : frame.tasks.items ≡ []

-- a function begins with its arguments, and its body is what it has to do
pub record IsEntered (body : Body) (arguments : List ℤ) (frame : Frame) : Type 0 where
  pub types : frame.types.now ≡ body.locals.items
  pub locals : frame.locals.items ≡ locals_at_entry body.locals.items arguments
  pub tasks : (action : Bor Action) × (frame.tasks.items ≡ task.Do action ∷ []) × (action.now ≡ body.action.value)

-- a function has received the value of its callee
pub record IsReceived (old new : Frame) (v : Option ℤ) : Type 0 where
  pub types : new.types ≡ old.types
  pub locals : new.locals.items ≡ received old.types.now old.locals.items old.receiver v
  pub tasks : new.tasks ≡ old.tasks

-- a function is called, and the one that ran waits for it
pub record IsCalled (body : Body) (old new : Machine) : Type 0 where
  pub waiting : new.waiting.items ≡ old.waiting.items ++ old.frame ∷ []
  pub entered : IsEntered body old.frame.arguments.items new.frame
  pub left : new.left + 1 ≡ old.left
