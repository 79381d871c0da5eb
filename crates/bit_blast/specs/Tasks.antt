-- Tasks as steps of a visit.
use Rattle.std.specs.Prelude.{ℕ, List, [], ◌∷◌, ◌++◌, map}
use Rattle.term_core_spec.specs.Term.{Term}
use Rattle.term_bank.specs.Nodes.{tree_at, build}
use Rattle.bit_blast.specs.Steps as steps
use Rattle.bit_blast.specs.Steps.{Step}
use Rattle.bit_blast.specs.declared.state.Task.{Task}
use Rattle.bit_blast.specs.declared.state.Task.TheVariants.{Visit, Finish}

abbrev pub step_of : List Term → Task → Step
step_of trees (Visit id) = steps.Visit (tree_at trees id)
step_of trees (Finish id node) = steps.Finish (build trees node)

abbrev pub steps_of : List Term → List Task → List Step
steps_of trees tasks = map (step_of trees) tasks

-- visits of some terms, that of the first term last
abbrev pub visits_of : List ℕ → List Task
visits_of [] = []
visits_of (id ∷ ids) = visits_of ids ++ Visit id ∷ []

-- the term that a task gives its index
abbrev pub id_of : Task → ℕ
id_of (Visit id) = id
id_of (Finish id node) = id
