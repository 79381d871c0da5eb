-- What holds between two tasks, and what one task does.
use Rattle.std.specs.Prelude.{◌≡◌, ◌<◌, ◌⊎◌, ℕ, List, [], ◌∷◌, length}
use Rattle.std.specs.HashMap.{HashMap}
use Rattle.term_core_spec.specs.Term.{Term}
use Rattle.term_bank.specs.Nodes.{build, Holds}
use Rattle.bit_blast_spec.specs.Goal.{Table}
use Rattle.bit_blast.specs.Steps.{IsClosed, run, weights}
use Rattle.bit_blast_circuits.specs.Built.{Continues}
use Rattle.bit_blast.specs.declared.state.Task.{Task}
use Rattle.bit_blast.specs.declared.state.Task.TheVariants.{Visit, Finish}
use Rattle.bit_blast.specs.declared.state.Traversal.{Traversal}
use Rattle.bit_blast.specs.Indices.{children, IsIndexed, AreIndices}
use Rattle.bit_blast.specs.Tasks.{steps_of, id_of}

-- a task is of a term of the bank
abbrev pub IsTask : List Term → Task → Type 0
IsTask trees (Visit id) = id < length trees
IsTask trees (Finish id node) = Holds trees id (build trees node)

abbrev pub AreTasks : List Term → List Task → Type 0
AreTasks trees [] = Unit {0}
AreTasks trees (task ∷ tasks) = IsTask trees task × AreTasks trees tasks

module _ {S : Type 0} (indices : HashMap ℕ ℕ S) where
  -- a term has its index, or one of the tasks gives it one
  abbrev pub IsDue : List Task → ℕ → Type 0
  IsDue [] id = IsIndexed indices id
  IsDue (task ∷ tasks) id = (id ≡ id_of task) ⊎ IsDue tasks id

  abbrev pub AllDue : List Task → List ℕ → Type 0
  AllDue tasks [] = Unit {0}
  AllDue tasks (id ∷ ids) = IsDue tasks id × AllDue tasks ids

  -- what a task needs is due from those that come before it
  abbrev pub IsReady : (above : List Task) → Task → Type 0
  IsReady above (Visit id) = Unit {0}
  IsReady above (Finish id node) = AllDue above (children node)

  abbrev pub AreReady : List Task → Type 0
  AreReady [] = Unit {0}
  AreReady (task ∷ above) = IsReady above task × AreReady above

-- between two tasks
pub record Consistent {S : Type 0} (trees : List Term) (indices : HashMap ℕ ℕ S) (table : Table) (tasks : List Task) : Type 0 where
  pub closed : IsClosed table
  pub indexed : AreIndices trees indices table
  pub sound : AreTasks trees tasks
  pub ready : AreReady indices tasks

-- what one of the tasks made of the others and of the state before
pub record Turned (trees : List Term) (old : Traversal) (tasks : List Task) (new : Traversal) : Type 0 where
  pub consistent : Consistent trees new.indices new.table new.tasks.items
  pub continues : Continues (run (steps_of trees tasks) old.table) old.gates new.gates (run (steps_of trees new.tasks.items) new.table) (λ (t : Table). t)
  pub due : (id : ℕ) → IsDue old.indices tasks id → IsDue new.indices new.tasks.items id
  pub lighter : weights (steps_of trees new.tasks.items) < weights (steps_of trees tasks)
