-- What a depth-first walk of a graph finds.
use Rattle.std.specs.Prelude.{◌≡◌, ℕ, List, [], ◌∷◌, Option, None}
use Rattle.graph_core_spec.specs.Graph.{Graph}
use Rattle.loop_find_spec.specs.Loops.{Walks, nodes_from}
use Rattle.loop_find.specs.declared.tasks.Status.{Status}
use Rattle.loop_find.specs.declared.tasks.Task.{Task}

-- nothing is taken, found or to do
pub record IsUntouched (statuses : ℕ → Option Status) (heads : List ℕ) (tasks : List Task) : Type 0 where
  pub none_taken : (node : ℕ) → statuses node ≡ None
  pub none_found : heads ≡ []
  pub idle : tasks ≡ []

-- edges lead back to these nodes, in this order, in the walk from the entry
pub record HasHeads (g : Graph) (heads : List ℕ) : Type 0 where
  pub left : List ℕ
  pub walk : Walks (nodes_from g) [] [] (g.entry ∷ []) left heads
