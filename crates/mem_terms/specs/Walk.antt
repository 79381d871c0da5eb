-- What the walk over a term keeps.
use Rattle.std.specs.Prelude.{◌≡◌, ℕ, ◌+◌, ◌^◌, ◌<◌, ◌≤◌, ◌⊎◌, true, List, [], ◌∷◌, ◌++◌, length, get_or, slice_get, slice_set, Option, Some, None, unwrap_or}
use Rattle.term_core_spec.specs.declared.Variable.{Variable}
use Rattle.term_core_spec.specs.declared.BinaryOperator.{BinaryOperator}
use Rattle.term_core_spec.specs.declared.BinaryOperator.TheVariants as binary
use Rattle.term_core_spec.specs.declared.Atom.TheVariants as atom
use Rattle.term_core_spec.specs.Term as tree
use Rattle.term_core_spec.specs.Term.{Term, open_term}
use Rattle.term_bank.specs.declared.node.TermNode.{TermNode}
use Rattle.term_bank.specs.declared.node.TermNode.TheVariants.{Leaf, Unary, Binary, Ternary, Quaternary, Octonary}
use Rattle.term_bank.specs.Nodes.{IsNode, tree_at, build, Holds, Extends, AreDistinct}
use Rattle.mem_terms_spec.specs.Flat.{VariableLoad, load_of, is_in, with_load, with_loads, byte_variable, without_loads}
use Rattle.mem_terms_spec.specs.Assignments.{term_of}
use Rattle.mem_terms_spec.proofs.Loads.{AreIn}
use Rattle.mem_terms.specs.Ids.{IsTreeAt}
use Rattle.mem_terms.specs.declared.ids.LoadIds.{LoadIds}
use Rattle.mem_terms.specs.declared.walk.Task.{Task}
use Rattle.mem_terms.specs.declared.walk.Task.TheVariants.{Visit, Finish}
use Rattle.mem_terms.specs.declared.walk.LoadNode.{LoadNode}

-- ---- nodes

-- the variable that a term is
abbrev pub variable_of : Term → Option Variable
variable_of (tree.Leaf (atom.Open v)) = Some v
variable_of t = None

abbrev pub load_from : Option Variable → ℕ → Option LoadNode
load_from (Some v) address = Some (record { memory = v; address = address })
load_from None address = None

-- the load that a node is, where it is one of a variable
abbrev pub load_in : List Term → TermNode → Option LoadNode
load_in trees (Binary binary.Load memory address) = load_from (variable_of (tree_at trees memory)) address
load_in trees node = None

-- the index of a term's flat term
abbrev pub flat_id : List (Option ℕ) → ℕ → ℕ
flat_id done i = unwrap_or (get_or done i None) 0

-- a node over the flat terms of its arguments
abbrev pub replaced : List (Option ℕ) → TermNode → TermNode
replaced done (Leaf leaf) = Leaf leaf
replaced done (Unary operator a) = Unary operator (flat_id done a)
replaced done (Binary operator a b) = Binary operator (flat_id done a) (flat_id done b)
replaced done (Ternary operator a b c) = Ternary operator (flat_id done a) (flat_id done b) (flat_id done c)
replaced done (Quaternary operator a b c d) = Quaternary operator (flat_id done a) (flat_id done b) (flat_id done c) (flat_id done d)
replaced done (Octonary a b c d e f g h) =
    Octonary (flat_id done a) (flat_id done b) (flat_id done c) (flat_id done d) (flat_id done e) (flat_id done f) (flat_id done g) (flat_id done h)

-- what holds of each argument of a node
abbrev pub EachArgument : (ℕ → Type 0) → TermNode → Type 0
EachArgument P (Leaf leaf) = Unit {0}
EachArgument P (Unary operator a) = P a
EachArgument P (Binary operator a b) = P a × P b
EachArgument P (Ternary operator a b c) = P a × P b × P c
EachArgument P (Quaternary operator a b c d) = P a × P b × P c × P d
EachArgument P (Octonary a b c d e f g h) = P a × P b × P c × P d × P e × P f × P g × P h

-- ---- tasks, of which the last is next

-- the arguments of a node, to be visited from left to right
abbrev pub visits : TermNode → List Task
visits (Leaf leaf) = []
visits (Unary operator a) = Visit a ∷ []
visits (Binary operator a b) = Visit b ∷ Visit a ∷ []
visits (Ternary operator a b c) = Visit c ∷ Visit b ∷ Visit a ∷ []
visits (Quaternary operator a b c d) = Visit d ∷ Visit c ∷ Visit b ∷ Visit a ∷ []
visits (Octonary a b c d e f g h) = Visit h ∷ Visit g ∷ Visit f ∷ Visit e ∷ Visit d ∷ Visit c ∷ Visit b ∷ Visit a ∷ []

abbrev pub id_of : Task → ℕ
id_of (Visit i) = i
id_of (Finish i node) = i

-- with the load that a term itself is
abbrev pub with_root : Term → List VariableLoad → List VariableLoad
with_root (tree.Leaf leaf) loads = loads
with_root (tree.Unary operator a) loads = loads
with_root (tree.Binary operator a b) loads = with_load (load_of operator a b) loads
with_root (tree.Ternary operator a b c) loads = loads
with_root (tree.Quaternary operator a b c d) loads = loads
with_root (tree.Octonary a b c d e f g h) loads = loads

-- the loads after a task
abbrev pub after_task : List Term → Task → List VariableLoad → List VariableLoad
after_task trees (Visit i) loads = with_loads (tree_at trees i) loads
after_task trees (Finish i node) loads = with_root (build trees node) loads

-- the loads when all tasks are done
unfoldable pub after_tasks : List Term → List Task → List VariableLoad → List VariableLoad
after_tasks trees [] loads = loads
after_tasks trees (task ∷ tasks) loads = after_task trees task (after_tasks trees tasks loads)

-- the work that a task can make: more than what it adds
unfoldable pub weight : Task → ℕ
weight (Visit i) = 10 ^ (i + 1)
weight (Finish i node) = 1

unfoldable pub total_weight : List Task → ℕ
total_weight [] = 0
total_weight (task ∷ tasks) = weight task + total_weight tasks

-- ---- what is kept

-- a term has its flat term
abbrev pub IsDone : List (Option ℕ) → ℕ → Type 0
IsDone done i = (f : ℕ) × (slice_get done i ≡ Some (Some f))

unfoldable pub HasTask : ℕ → List Task → Type 0
HasTask i [] = ⊥
HasTask i (task ∷ tasks) = (id_of task ≡ i) ⊎ HasTask i tasks

-- a term has its flat term, or a task gives it
abbrev pub Comes : List (Option ℕ) → List Task → ℕ → Type 0
Comes done tasks i = IsDone done i ⊎ HasTask i tasks

-- when a term is finished, its arguments are
abbrev pub IsPrepared : List (Option ℕ) → Task → List Task → Type 0
IsPrepared done (Visit i) later = Unit {0}
IsPrepared done (Finish i node) later = EachArgument (Comes done later) node

unfoldable pub ArePrepared : List (Option ℕ) → List Task → Type 0
ArePrepared done [] = Unit {0}
ArePrepared done (task ∷ later) = IsPrepared done task later × ArePrepared done later

-- a task is of a tree below the limit, to be finished by its node
abbrev pub IsTask : List Term → (limit : ℕ) → Task → Type 0
IsTask base limit (Visit i) = i < limit
IsTask base limit (Finish i node) = (i < limit) × IsNode i node × Holds base i (build base node)

unfoldable pub AreTasks : List Term → (limit : ℕ) → List Task → Type 0
AreTasks base limit [] = Unit {0}
AreTasks base limit (task ∷ tasks) = IsTask base limit task × AreTasks base limit tasks

-- the flat term of the i-th tree is at f, by these loads, which have all of its own
pub record IsFlatAt (base now : List Term) (loads : List VariableLoad) (i f : ℕ) : Type 0 where
  pub within : f < length now
  pub flat_is : tree_at now f ≡ without_loads loads (tree_at base i)
  pub inside : AreIn (tree_at base i) loads

-- the k-th load by its indices
pub record IsLoadAt (now : List Term) (all : List VariableLoad) (k : ℕ) (l : VariableLoad) (p : LoadIds) : Type 0 where
  pub memory_is : p.memory ≡ l.memory
  pub address_within : p.address < length now
  pub byte_within : p.byte < length now
  pub address_is : tree_at now p.address ≡ without_loads all l.address
  pub byte_is : tree_at now p.byte ≡ open_term (byte_variable k)
  pub inside : AreIn l.address all

unfoldable pub AreListed : List Term → List VariableLoad → ℕ → List VariableLoad → List LoadIds → Type 0
AreListed now all k [] [] = Unit {0}
AreListed now all k (l ∷ loads) (p ∷ ids) = IsLoadAt now all k l p × AreListed now all (k + 1) loads ids
AreListed now all k [] (p ∷ ids) = ⊥
AreListed now all k (l ∷ loads) [] = ⊥

-- the walk to a goal over the trees `base`, where the bank has the trees `now`
pub record IsWalk (base now : List Term) (goal : ℕ) (done : List (Option ℕ)) (ids : List LoadIds) (tasks : List Task) : Type 0 where
  -- the loads that have their bytes
  pub loads : List VariableLoad
  pub extends : Extends base now
  pub distinct : AreDistinct base
  pub limit : length done ≤ length base
  pub are_tasks : AreTasks base (length done) tasks
  pub prepared : ArePrepared done tasks
  pub comes : Comes done tasks goal
  pub left : after_tasks base tasks loads ≡ with_loads (tree_at base goal) []
  pub each : (i f : ℕ) → slice_get done i ≡ Some (Some f) → IsFlatAt base now loads i f
  pub from : (l : VariableLoad) → is_in l loads ≡ true → (i : ℕ) × IsDone done i × (tree_at base i ≡ term_of l)
  pub listed : AreListed now loads 0 loads ids

-- it is the walk to some goal
abbrev pub IsSomeWalk : List Term → List (Option ℕ) → List LoadIds → List Task → Type 0
IsSomeWalk now done ids tasks = (base : List Term) × (goal : ℕ) × IsWalk base now goal done ids tasks

-- ---- one term more

-- the load at `id` has its byte
pub record IsEntered (now : List Term) (done : List (Option ℕ)) (ids : List LoadIds) (id : ℕ) (load : LoadNode) (done_then : List (Option ℕ)) (ids_then : List LoadIds) : Type 0 where
  pub new_id : ℕ
  pub tree_is : IsTreeAt now new_id (open_term (byte_variable (length ids)))
  pub done_is : done_then ≡ slice_set done id (Some new_id)
  pub ids_are : ids_then ≡ ids ++ record { memory = load.memory; address = flat_id done load.address; byte = new_id } ∷ []

-- the term at `id` is built over the flat terms of its arguments
pub record IsReplaced (old now : List Term) (done : List (Option ℕ)) (id : ℕ) (node : TermNode) (done_then : List (Option ℕ)) : Type 0 where
  pub new_id : ℕ
  pub tree_is : IsTreeAt now new_id (build old (replaced done node))
  pub done_is : done_then ≡ slice_set done id (Some new_id)
