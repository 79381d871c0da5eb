-- What a function still has to do, as the program keeps it: what its tasks make of the flow that reaches them.
use Rattle.std.specs.Prelude.{◌≡◌, ℕ, zero, suc, Bool, true, false, not, List, [], ◌∷◌, map, Result, Ok, Err}
use Rattle.std.specs.Borrow.{Bor}
use Rattle.memory_spec.specs.Memory.{Memory}
use Rattle.c_types_spec.specs.declared.Scalar.{Scalar}
use Rattle.c_types_spec.specs.declared.Jump.{Jump}
use Rattle.c_types_spec.specs.declared.Jump.TheVariants as jump
use Rattle.c_types_spec.specs.declared.TestPlace.{TestPlace}
use Rattle.c_types_spec.specs.declared.TestPlace.TheVariants.{Before, After}
use Rattle.c_types_spec.specs.Core.{Action, sequence}
use Rattle.c_types_core.specs.declared.action.Action as kept
use Rattle.c_types_core.specs.declared.expression.Core as expression
use Rattle.c_types_core.specs.Expressions.{core_of}
use Rattle.c_types_core.specs.Actions.{action_of}
use Rattle.c_run_spec.specs.Setting.{Setting, Broken}
use Rattle.c_run_spec.specs.Evaluation.{Evaluated, Locals, on_result, value}
use Rattle.c_run_spec.specs.Execution.{State, state, Flow, More, Broke, Went, Jumped, Gave, Called, Failed, then_do, is_zero, again, continued, while_true, switched, after_call}
use Rattle.c_run_spec.specs.Calls.{returned}
use Rattle.c_run_laws.specs.Depth.{called, performed, round_in}
use Rattle.c_run.specs.declared.frame.Ending.{Ending}
use Rattle.c_run.specs.declared.frame.Ending.TheVariants as ending
use Rattle.c_run.specs.declared.frame.Pause.{Pause}
use Rattle.c_run.specs.declared.frame.Pause.TheVariants as pause
use Rattle.c_run.specs.declared.frame.Next.{Next}
use Rattle.c_run.specs.declared.frame.Next.TheVariants as next
use Rattle.c_run.specs.declared.frame.Frame.{Frame}
use Rattle.c_run.specs.declared.frame.Task.{Task}
use Rattle.c_run.specs.declared.frame.Task.TheVariants as task
use Rattle.attempt.specs.declared.refusal.Refusal.{Refusal}
use Rattle.attempt.specs.declared.refusal.Refusal.TheVariants.{Fault, NoMemory}
use Rattle.c_run_value.specs.declared.setting.Stop.{Stop}
use Rattle.c_run_value.specs.declared.setting.Stop.TheVariants as stop

-- how control reaches a task, in a state, with so many turns left
abbrev pub flow_of : Ending → State → (left : ℕ) → Flow
flow_of ending.Went st left = Went st left
flow_of ending.Broke st left = Jumped jump.Break st left
flow_of ending.Continued st left = Jumped jump.Continue st left

abbrev pub ending_of : Jump → Ending
ending_of jump.Break = ending.Broke
ending_of jump.Continue = ending.Continued

-- what a task makes of a flow
unfoldable pub applied : Setting → (types : List Scalar) → Task → Flow → Flow
applied setting types (task.Do action) flow = then_do (performed setting types (action_of action.now)) flow
applied setting types (task.Rest actions) flow = then_do (performed setting types (sequence (map action_of actions.now))) flow
applied setting types (task.Step action) flow = then_do (performed setting types (action_of action.now)) (continued flow)
applied setting types (task.Test core) flow = then_do (while_true (λ s. value setting s.locals s.memory 0 (core_of core.now)) (λ s m. Went s m)) (continued flow)
applied setting types (task.Repeat action) flow = again (performed setting types (action_of action.now)) flow
applied setting types task.Switch flow = switched flow

-- the last task is reached first
unfoldable pub through : Setting → (types : List Scalar) → List Task → Flow → Flow
through setting types [] flow = flow
through setting types (t ∷ tasks) flow = applied setting types t (through setting types tasks flow)

-- how a task ends that `break` reaches
abbrev pub after_break : Task → Ending
after_break (task.Repeat action) = ending.Went
after_break task.Switch = ending.Went
after_break other = ending.Broke

-- `continue` goes no further than a task that follows the body of a loop
abbrev pub follows_body : Task → Bool
follows_body (task.Step action) = true
follows_body (task.Test core) = true
follows_body other = false

-- a round of a loop, and then the loop
abbrev pub loop_tasks : TestPlace → (action : Bor kept.Action) → (test : Bor expression.Core) → (step body : Bor kept.Action) → List Task
loop_tasks Before action test step body = task.Repeat action ∷ task.Step step ∷ task.Do body ∷ task.Test test ∷ []
loop_tasks After action test step body = task.Repeat action ∷ task.Test test ∷ task.Do body ∷ []

-- what needs a turn
abbrev pub with_turn : ℕ → (ℕ → Flow) → Flow
with_turn zero next = More
with_turn (suc n) next = next n

-- a function that doesn't go on by itself
abbrev pub flow_at : Setting → (types : List Scalar) → Locals → Frame → Memory → Pause → (left : ℕ) → Flow
flow_at setting types locals frame memory pause.Ended left = Gave frame.given memory left
flow_at setting types locals frame memory pause.Waits left = with_turn left (λ n. Went (state locals memory) n)
flow_at setting types locals frame memory pause.Calls left = after_call types locals frame.receiver (called setting frame.callee.now frame.arguments.items memory left)

-- what follows a statement
abbrev pub flow_next : Setting → (types : List Scalar) → Locals → Frame → Memory → Next → (left : ℕ) → Flow
flow_next setting types locals frame memory (next.Goes end) left = flow_of end (state locals memory) left
flow_next setting types locals frame memory (next.Pauses at) left = flow_at setting types locals frame memory at left

-- a part gives what the definition says, with every number of turns
abbrev pub FlowsOn : {A : Type 0} → (A → ℕ → Flow) → Result A (Refusal Stop) → (ℕ → Flow) → Type 0
FlowsOn view (Ok x) given = (left : ℕ) → given left ≡ view x left
FlowsOn view (Err (Fault (stop.Broke guard offset))) given = (left : ℕ) → given left ≡ Broke guard offset
FlowsOn view (Err NoMemory) given = Unit {0}

-- whether a value is not 0
abbrev pub truth : Evaluated → Result Bool Broken
truth given = on_result given (λ v. Ok (not (is_zero v)))

-- what follows in a frame
abbrev pub Follows : Setting → Frame → Memory → Result Next (Refusal Stop) → (ℕ → Flow) → Type 0
Follows setting frame memory result given =
    FlowsOn (λ x left. through setting frame.types.now frame.tasks.items (flow_next setting frame.types.now frame.locals.items frame memory x left)) result given

-- a statement is performed in a frame, which is then another, as the memory is
abbrev pub Acts : Setting → Action → (old : Frame) → (memory : Memory) → (new : Frame) → (after : Memory) → Result Next (Refusal Stop) → Type 0
Acts setting action old memory new after result =
    Follows setting new after result (λ left. through setting old.types.now old.tasks.items (performed setting old.types.now action (state old.locals.items memory) left))

-- a round is performed with a turn, and then the action
abbrev pub Repeats : Setting → TestPlace → (action : Bor kept.Action) → (test : Bor expression.Core) → (step body : Bor kept.Action)
    → (old : Frame) → (memory : Memory) → (new : Frame) → (after : Memory) → Result Next (Refusal Stop) → Type 0
Repeats setting place action test step body old memory new after result =
    Follows setting new after result (λ left. through setting old.types.now old.tasks.items
    (with_turn left (λ n. again (performed setting old.types.now (action_of action.now))
    (round_in setting old.types.now place (core_of test.now) (action_of step.now) (action_of body.now) (state old.locals.items memory) n))))

-- a task is reached in a frame, by how what was before it ended
abbrev pub Proceeds : Setting → Task → Ending → (old : Frame) → (memory : Memory) → (new : Frame) → (after : Memory) → Result Next (Refusal Stop) → Type 0
Proceeds setting t end old memory new after result =
    Follows setting new after result (λ left. through setting old.types.now old.tasks.items (applied setting old.types.now t (flow_of end (state old.locals.items memory) left)))

-- how the call of a function ends that doesn't go on by itself
abbrev pub paused : Setting → Frame → Memory → Pause → (left : ℕ) → Called
paused setting frame memory at left =
    returned (through setting frame.types.now frame.tasks.items (flow_at setting frame.types.now frame.locals.items frame memory at left))

-- how it ends where control reaches its tasks
abbrev pub reached : Setting → Frame → Memory → (left : ℕ) → Called
reached setting frame memory left =
    returned (through setting frame.types.now frame.tasks.items (Went (state frame.locals.items memory) left))

-- a function goes on as far as it does by itself
abbrev pub Goes : Setting → (old : Frame) → (memory : Memory) → (new : Frame) → (after : Memory) → Result Pause (Refusal Stop) → Type 0
Goes setting old memory new after (Ok at) = (left : ℕ) → reached setting old memory left ≡ paused setting new after at left
Goes setting old memory new after (Err (Fault (stop.Broke guard offset))) = (left : ℕ) → reached setting old memory left ≡ Failed guard offset
Goes setting old memory new after (Err NoMemory) = Unit {0}
