-- The nodes of a statement, by where they lead and not by their numbers.
use Rattle.std.specs.Prelude.{◌≡◌, ℕ, ℤ, false, if◌then◌else◌, List, [], ◌∷◌, ◌++◌, Some, None}
use Rattle.term_core_spec.specs.Term.{Term, truth, equal}
use Rattle.graph_core_spec.specs.declared.Next.{Next}
use Rattle.graph_core_spec.specs.declared.Next.TheVariants.{At, Ret, Err}
use Rattle.graph_core_spec.specs.Graph.{Node, Basic, Cond, Graphs, node_at}
use Rattle.graph_core_spec.specs.Graph as graph
use Rattle.c_types_spec.specs.declared.Scalar.{Scalar}
use Rattle.c_types_spec.specs.declared.TestPlace.TheVariants.{Before, After}
use Rattle.c_types_spec.specs.declared.Jump.TheVariants.{Break, Continue}
use Rattle.c_types_spec.specs.Core.{Action, Skip, Sequence, Evaluate, Set, Unset, Store, Call, If, Loop, Leave, Switch, Return, MissingReturn, Groups, no_groups, groups, type_of}
use Rattle.c_graph_spec.specs.State.{is_set, memory, result, value_constant}
use Rattle.c_graph_spec.specs.Layout.{Setting, Exits, exits, value_in, truth_in, tests_in, binding, set_local, store_tests, memory_stored, argument_tests, inputs, outputs, has_default, cases_to}

-- this node comes next
pub record Comes (graphs : Graphs) (g : ℕ) (from : Next) (node : Node) : Type 0 where
  pub number : ℕ
  pub from_is : from ≡ At number
  pub here : node_at graphs g number ≡ Some node

-- tests in order, each of which fails to an error
abbrev pub Tests : Graphs → ℕ → List Term → (from to : Next) → Type 0
Tests graphs g [] from to = from ≡ to
Tests graphs g (test ∷ rest) from to = (on : Next) × Comes graphs g from (Cond test on Err) × Tests graphs g rest on to

-- ---- `switch`

-- the values of groups whose first nodes are these
abbrev pub cases_at : Groups → List Next → List (ℤ × Next)
cases_at no_groups entries = []
cases_at (groups values body rest) [] = []
cases_at (groups values body rest) (first ∷ entries) = cases_to values first ++ cases_at rest entries

abbrev pub default_at : Groups → List Next → (to : Next) → Next
default_at no_groups entries to = to
default_at (groups values body rest) [] to = to
default_at (groups values body rest) (first ∷ entries) to = if has_default values then first else default_at rest entries to

abbrev pub Selects : Graphs → ℕ → Scalar → Term → List (ℤ × Next) → (from otherwise : Next) → Type 0
Selects graphs g type x [] from otherwise = from ≡ otherwise
Selects graphs g type x (entry ∷ entries) from otherwise =
    (on : Next) × Comes graphs g from (Cond (equal x (value_constant type entry.0)) entry.1 on) × Selects graphs g type x entries on otherwise

-- ---- statements

abbrev mutual
  -- the nodes from one on are those of the statement, which goes on to another, or leaves by an exit
  pub Occurs : Graphs → ℕ → Setting → Action → (from to : Next) → Exits → Type 0
  Occurs graphs g f Skip from to e = from ≡ to
  Occurs graphs g f (Sequence a b) from to e = (middle : Next) × Occurs graphs g f a from middle e × Occurs graphs g f b middle to e
  Occurs graphs g f (Evaluate x) from to e = Tests graphs g (tests_in f x) from to
  Occurs graphs g f (Set number x) from to e =
      (last : Next) × Tests graphs g (tests_in f x) from last × Comes graphs g last (Basic (set_local number (type_of x) (value_in f x)) to)
  Occurs graphs g f (Unset number) from to e = Comes graphs g from (Basic (binding (is_set number) (truth false) ∷ []) to)
  Occurs graphs g f (Store type address displacement value offset) from to e =
      (last : Next) × Tests graphs g (store_tests f type address displacement value) from last
      × Comes graphs g last (Basic (binding memory (memory_stored f type address displacement value) ∷ []) to)
  Occurs graphs g f (Call number function arguments place) from to e =
      (last : Next) × (landing : ℕ) × Tests graphs g (argument_tests f arguments) from last
      × Comes graphs g last (graph.Call (f.graph_number function) (inputs f 0 arguments) (outputs f function place) landing)
      × Comes graphs g (At landing) (Basic [] to)
  Occurs graphs g f (If test a b) from to e =
      (last : Next) × (on_true : Next) × (on_false : Next) × Tests graphs g (tests_in f test) from last
      × Comes graphs g last (Cond (truth_in f test) on_true on_false) × Occurs graphs g f a on_true to e × Occurs graphs g f b on_false to e
  Occurs graphs g f (Loop number Before test step body) from to e =
      (first : Next) × (last : Next) × (inside : Next) × (begin : Next) × (again : Next)
      × Comes graphs g from (Basic [] first) × Tests graphs g (tests_in f test) first last × Comes graphs g last (Cond (truth_in f test) inside to)
      × Comes graphs g inside (Basic [] begin) × Occurs graphs g f body begin again (exits to again) × Occurs graphs g f step again from (exits to e.continues)
  Occurs graphs g f (Loop number After test step body) from to e =
      (begin : Next) × (again : Next) × (first : Next) × (last : Next)
      × Comes graphs g from (Basic [] begin) × Occurs graphs g f body begin again (exits to again) × Comes graphs g again (Basic [] first)
      × Tests graphs g (tests_in f test) first last × Comes graphs g last (Cond (truth_in f test) from to)
  Occurs graphs g f (Leave Break) from to e = from ≡ e.breaks
  Occurs graphs g f (Leave Continue) from to e = from ≡ e.continues
  Occurs graphs g f (Switch test list) from to e =
      (chosen : Next) × (entries : List Next) × Tests graphs g (tests_in f test) from chosen
      × Selects graphs g (type_of test) (value_in f test) (cases_at list entries) chosen (default_at list entries to)
      × GroupsOccur graphs g f list entries to e.continues
  Occurs graphs g f (Return None) from to e = from ≡ Ret
  Occurs graphs g f (Return (Some x)) from to e =
      (last : Next) × Tests graphs g (tests_in f x) from last × Comes graphs g last (Basic (binding (result (type_of x)) (value_in f x) ∷ []) Ret)
  Occurs graphs g f (MissingReturn offset) from to e = Comes graphs g from (Cond (truth false) Err Err)

  -- the nodes of each group, from these on
  pub GroupsOccur : Graphs → ℕ → Setting → Groups → List Next → (to continues : Next) → Type 0
  GroupsOccur graphs g f no_groups entries to continues = entries ≡ []
  GroupsOccur graphs g f (groups values body rest) [] to continues = ⊥
  GroupsOccur graphs g f (groups values body rest) (first ∷ entries) to continues =
      Occurs graphs g f body first to (exits to continues) × GroupsOccur graphs g f rest entries to continues
