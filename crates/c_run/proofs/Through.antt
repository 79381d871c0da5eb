-- What tasks make of a flow.
use Rattle.std.proofs.Common.{◌≡◌, ℕ, Option, List, [], ◌∷◌, ◌++◌, refl, ap, ◌∙◌}
use Rattle.std.specs.Prelude.{ℤ}
use Rattle.memory_spec.specs.Memory.{Memory}
use Rattle.c_types_spec.specs.declared.Scalar.{Scalar}
use Rattle.c_run_spec.specs.declared.Guard.{Guard}
use Rattle.c_run_spec.specs.Setting.{Setting}
use Rattle.c_run_spec.specs.Execution.{Flow, More, Broke, Gave}
use Rattle.c_run.specs.declared.frame.Task.{Task}
use Rattle.c_run.specs.declared.frame.Task.TheVariants as task
use Rattle.c_run.specs.Tasks.{applied, through}

pub through-append : (setting : Setting) (types : List Scalar) (tasks ts : List Task) (flow : Flow) → through setting types (tasks ++ ts) flow ≡ through setting types tasks (through setting types ts flow)
unfolding through
through-append setting types [] ts flow = refl
through-append setting types (first ∷ tasks) ts flow = ap (applied setting types first) (through-append setting types tasks ts flow)

pub through-one : (setting : Setting) (types : List Scalar) (t : Task) (flow : Flow) → through setting types (t ∷ []) flow ≡ applied setting types t flow
unfolding through
through-one setting types t flow = refl

pub through-none : (setting : Setting) (types : List Scalar) (flow : Flow) → through setting types [] flow ≡ flow
unfolding through
through-none setting types flow = refl

pub through-push : (setting : Setting) (types : List Scalar) (tasks : List Task) (t : Task) (flow : Flow) → through setting types (tasks ++ t ∷ []) flow ≡ through setting types tasks (applied setting types t flow)
through-push setting types tasks t flow = through-append setting types tasks (t ∷ []) flow ∙ ap (through setting types tasks) (through-one setting types t flow)

applied-More : (setting : Setting) (types : List Scalar) (t : Task) → applied setting types t More ≡ More
unfolding applied
applied-More setting types (task.Do action) = refl
applied-More setting types (task.Rest actions) = refl
applied-More setting types (task.Step action) = refl
applied-More setting types (task.Test core) = refl
applied-More setting types (task.Repeat action) = refl
applied-More setting types task.Switch = refl

applied-Broke : (setting : Setting) (types : List Scalar) (t : Task) (guard : Guard) (offset : ℕ) → applied setting types t (Broke guard offset) ≡ Broke guard offset
unfolding applied
applied-Broke setting types (task.Do action) guard offset = refl
applied-Broke setting types (task.Rest actions) guard offset = refl
applied-Broke setting types (task.Step action) guard offset = refl
applied-Broke setting types (task.Test core) guard offset = refl
applied-Broke setting types (task.Repeat action) guard offset = refl
applied-Broke setting types task.Switch guard offset = refl

applied-Gave : (setting : Setting) (types : List Scalar) (t : Task) (v : Option ℤ) (memory : Memory) (left : ℕ) → applied setting types t (Gave v memory left) ≡ Gave v memory left
unfolding applied
applied-Gave setting types (task.Do action) v memory left = refl
applied-Gave setting types (task.Rest actions) v memory left = refl
applied-Gave setting types (task.Step action) v memory left = refl
applied-Gave setting types (task.Test core) v memory left = refl
applied-Gave setting types (task.Repeat action) v memory left = refl
applied-Gave setting types task.Switch v memory left = refl

pub through-More : (setting : Setting) (types : List Scalar) (tasks : List Task) → through setting types tasks More ≡ More
unfolding through
through-More setting types [] = refl
through-More setting types (t ∷ tasks) = ap (applied setting types t) (through-More setting types tasks) ∙ applied-More setting types t

pub through-Broke : (setting : Setting) (types : List Scalar) (tasks : List Task) (guard : Guard) (offset : ℕ) → through setting types tasks (Broke guard offset) ≡ Broke guard offset
unfolding through
through-Broke setting types [] guard offset = refl
through-Broke setting types (t ∷ tasks) guard offset = ap (applied setting types t) (through-Broke setting types tasks guard offset) ∙ applied-Broke setting types t guard offset

pub through-Gave : (setting : Setting) (types : List Scalar) (tasks : List Task) (v : Option ℤ) (memory : Memory) (left : ℕ) → through setting types tasks (Gave v memory left) ≡ Gave v memory left
unfolding through
through-Gave setting types [] v memory left = refl
through-Gave setting types (t ∷ tasks) v memory left = ap (applied setting types t) (through-Gave setting types tasks v memory left) ∙ applied-Gave setting types t v memory left
