-- The nodes of statements, one after the other. The nodes of a statement have the numbers from `at` on; where it ends,
-- it goes on to `to`, by `break` and `continue` to other nodes, and where a guard's test doesn't hold, to an error.
use Rattle.std.specs.Prelude.{ℕ, zero, suc, ◌+◌, Bool, true, false, ◌||◌, if◌then◌else◌, ℤ, List, [], ◌∷◌, ◌++◌, length, Option, Some, None}
use Rattle.term_core_spec.specs.declared.Variable.{Variable}
use Rattle.term_core_spec.specs.Term.{Term, truth, open_term, equal}
use Rattle.graph_core_spec.specs.declared.Next.{Next}
use Rattle.graph_core_spec.specs.declared.Next.TheVariants.{At, Ret, Err}
use Rattle.graph_core_spec.specs.Graph.{Binding, Node, Basic, Cond}
use Rattle.graph_core_spec.specs.Graph as graph
use Rattle.c_types_spec.specs.declared.Scalar.{Scalar}
use Rattle.c_types_spec.specs.declared.TestPlace.TheVariants.{Before, After}
use Rattle.c_types_spec.specs.declared.Jump.TheVariants.{Break, Continue}
use Rattle.c_types_spec.specs.Core.{Core, FunctionType, Action, Skip, Sequence, Evaluate, Set, Unset, Store, Call, If, Loop, Leave, Switch, Return, MissingReturn, Groups, no_groups, groups, type_of}
use Rattle.c_graph_spec.specs.State.{width_of, local, is_set, memory, result, value_constant}
use Rattle.c_graph_spec.specs.Values.{object, no_object, at_width, stored, value_term, truth_term}
use Rattle.c_graph_spec.specs.Guards.{Place, tests, write_tests}

-- what is read of a unit while the nodes of a body are written: where its globals and fixed bytes are; of each function
-- the number of its graph, and its type; and the types of the body's locals
pub record Setting : Type 0 where
  pub place : Place
  pub graph_number : List ℕ → ℕ
  pub function_type : List ℕ → FunctionType
  pub local_type : ℕ → Scalar

-- where `break` and `continue` go on
pub record Exits : Type 0 where
  pub breaks : Next
  pub continues : Next

abbrev pub exits : (breaks continues : Next) → Exits
exits breaks continues = record { breaks = breaks; continues = continues }

-- ---- expressions

abbrev pub value_in : Setting → Core → Term
value_in f x = value_term f.place.globals no_object x

abbrev pub truth_in : Setting → Core → Term
truth_in f x = truth_term f.place.globals no_object x

abbrev pub tests_in : Setting → Core → List Term
tests_in f x = tests f.place.globals no_object x

abbrev pub count : Setting → Core → ℕ
count f x = length (tests_in f x)

-- ---- tests of guards

-- the first of so many nodes, or where they go on where there are none
abbrev pub first : (many at : ℕ) → Next → Next
first zero at to = to
first (suc more) at to = At at

unfoldable pub chain : List Term → (at : ℕ) → Next → List Node
chain [] at to = []
chain (test ∷ rest) at to = Cond test (first (length rest) (suc at) to) Err ∷ chain rest (suc at) to

-- tests, and then a node
abbrev pub guarded : List Term → (at : ℕ) → Node → List Node
guarded tests at node = chain tests at (At (at + length tests)) ++ node ∷ []

-- ---- what is bound

abbrev pub binding : Variable → Term → Binding
binding variable term = record { variable = variable; term = term }

abbrev pub set_local : ℕ → Scalar → Term → List Binding
set_local number type term = binding (local number type) term ∷ binding (is_set number) (truth true) ∷ []

-- the object of a store, the tests before it, and the memory after it
abbrev pub store_tests : Setting → Scalar → (address : Core) → (displacement : ℕ) → (value : Core) → List Term
store_tests f type address displacement value =
    tests_in f address
    ++ (tests f.place.globals (object (value_in f address) displacement) value
    ++ write_tests f.place.runs type (object (value_in f address) displacement))

abbrev pub memory_stored : Setting → Scalar → (address : Core) → (displacement : ℕ) → (value : Core) → Term
memory_stored f type address displacement value =
    stored type (object (value_in f address) displacement) (value_term f.place.globals (object (value_in f address) displacement) value)

unfoldable pub argument_tests : Setting → List Core → List Term
argument_tests f [] = []
argument_tests f (argument ∷ rest) = tests_in f argument ++ argument_tests f rest

-- a callee starts with its parameters, from a number on; memory and the ends of the zone are its caller's
unfoldable pub inputs : Setting → (number : ℕ) → List Core → List Binding
inputs f number [] = []
inputs f number (argument ∷ rest) = set_local number (type_of argument) (value_in f argument) ++ inputs f (suc number) rest

-- its result, converted to the type of the local that it is put into
abbrev pub result_put : Option ℕ → (local_type : ℕ → Scalar) → Option Scalar → List Binding
result_put None local_type type = []
result_put (Some number) local_type None = []
result_put (Some number) local_type (Some type) =
    set_local number (local_type number) (at_width type (width_of (local_type number)) (open_term (result type)))

abbrev pub outputs : Setting → (function : List ℕ) → Option ℕ → List Binding
outputs f function place = result_put place f.local_type (f.function_type function).result

-- ---- `switch`

abbrev pub is_default : Option ℤ → Bool
is_default None = true
is_default (Some value) = false

unfoldable pub has_default : List (Option ℤ) → Bool
has_default [] = false
has_default (value ∷ values) = is_default value || has_default values

-- the values of a group, each with the group's first node
unfoldable pub cases_to : List (Option ℤ) → Next → List (ℤ × Next)
cases_to [] to = []
cases_to (None ∷ values) to = cases_to values to
cases_to (Some value ∷ values) to = (value, to) ∷ cases_to values to

-- one test for each value, in order
unfoldable pub selection : Scalar → Term → List (ℤ × Next) → (at : ℕ) → (otherwise : Next) → List Node
selection type x [] at otherwise = []
selection type x (entry ∷ entries) at otherwise =
    Cond (equal x (value_constant type entry.0)) entry.1 (first (length entries) (suc at) otherwise) ∷ selection type x entries (suc at) otherwise

-- ---- how many nodes there are

unfoldable pub case_count : Groups → ℕ
case_count no_groups = 0
case_count (groups values body rest) = length (cases_to values Ret) + case_count rest

unfoldable mutual
  pub size : Setting → Action → ℕ
  size f Skip = 0
  size f (Sequence a b) = size f a + size f b
  size f (Evaluate x) = count f x
  size f (Set number x) = count f x + 1
  size f (Unset number) = 1
  size f (Store type address displacement value offset) = length (store_tests f type address displacement value) + 1
  size f (Call number function arguments place) = length (argument_tests f arguments) + 2
  size f (If test a b) = count f test + 1 + size f a + size f b
  size f (Loop number Before test step body) = count f test + 3 + size f body + size f step
  size f (Loop number After test step body) = count f test + 3 + size f body
  size f (Leave jump) = 0
  size f (Switch test list) = count f test + case_count list + groups_size f list
  size f (Return None) = 0
  size f (Return (Some x)) = count f x + 1
  size f (MissingReturn offset) = 1

  pub groups_size : Setting → Groups → ℕ
  groups_size f no_groups = 0
  groups_size f (groups values body rest) = size f body + groups_size f rest

-- ---- where a statement begins

unfoldable mutual
  pub entry : Setting → Action → (at : ℕ) → (to : Next) → Exits → Next
  entry f Skip at to e = to
  entry f (Sequence a b) at to e = entry f a at (entry f b (at + size f a) to e) e
  entry f (Evaluate x) at to e = first (count f x) at to
  entry f (Leave Break) at to e = e.breaks
  entry f (Leave Continue) at to e = e.continues
  entry f (Switch test list) at to e =
      first (count f test + case_count list) at (otherwise f list (at + count f test + case_count list) to e)
  entry f (Return None) at to e = Ret
  entry f other at to e = At at

  -- the first node of the group with `default`, or of what follows the `switch`
  pub otherwise : Setting → Groups → (at : ℕ) → (to : Next) → Exits → Next
  otherwise f no_groups at to e = to
  otherwise f (groups values body rest) at to e =
      if has_default values then entry f body at to (exits to e.continues) else otherwise f rest (at + size f body) to e

-- the values of all groups, each with its group's first node
unfoldable pub cases_of : Setting → Groups → (at : ℕ) → (to : Next) → Exits → List (ℤ × Next)
cases_of f no_groups at to e = []
cases_of f (groups values body rest) at to e =
    cases_to values (entry f body at to (exits to e.continues)) ++ cases_of f rest (at + size f body) to e

-- where the step of a loop begins, after the body: that is where `continue` goes on
abbrev pub step_entry : Setting → (step body : Action) → (at : ℕ) → (test to : Next) → Exits → Next
step_entry f step body at test to e = entry f step (at + size f body) test (exits to e.continues)

-- ---- the nodes

-- a loop begins with an empty node at its test and one at its body. A `while` or `for` has its test first, then the
-- body, then the step; a `do` has its body first, and no step
unfoldable mutual
  pub nodes : Setting → Action → (at : ℕ) → (to : Next) → Exits → List Node
  nodes f Skip at to e = []
  nodes f (Sequence a b) at to e =
      nodes f a at (entry f b (at + size f a) to e) e ++ nodes f b (at + size f a) to e
  nodes f (Evaluate x) at to e = chain (tests_in f x) at to
  nodes f (Set number x) at to e = guarded (tests_in f x) at (Basic (set_local number (type_of x) (value_in f x)) to)
  nodes f (Unset number) at to e = Basic (binding (is_set number) (truth false) ∷ []) to ∷ []
  nodes f (Store type address displacement value offset) at to e =
      guarded (store_tests f type address displacement value) at
      (Basic (binding memory (memory_stored f type address displacement value) ∷ []) to)
  nodes f (Call number function arguments place) at to e =
      guarded (argument_tests f arguments) at
      (graph.Call (f.graph_number function) (inputs f 0 arguments) (outputs f function place) (at + length (argument_tests f arguments) + 1))
      ++ Basic [] to ∷ []
  nodes f (If test a b) at to e =
      guarded (tests_in f test) at
      (Cond (truth_in f test) (entry f a (at + count f test + 1) to e) (entry f b (at + count f test + 1 + size f a) to e))
      ++ (nodes f a (at + count f test + 1) to e ++ nodes f b (at + count f test + 1 + size f a) to e)
  nodes f (Loop number Before test step body) at to e =
      Basic [] (At (at + 1)) ∷ (guarded (tests_in f test) (at + 1) (Cond (truth_in f test) (At (at + count f test + 2)) to)
      ++ (Basic [] (entry f body (at + count f test + 3) (step_entry f step body (at + count f test + 3) (At at) to e)
      (exits to (step_entry f step body (at + count f test + 3) (At at) to e)))
      ∷ (nodes f body (at + count f test + 3) (step_entry f step body (at + count f test + 3) (At at) to e)
      (exits to (step_entry f step body (at + count f test + 3) (At at) to e))
      ++ nodes f step (at + count f test + 3 + size f body) (At at) (exits to e.continues))))
  nodes f (Loop number After test step body) at to e =
      Basic [] (entry f body (at + 1) (At (at + 1 + size f body)) (exits to (At (at + 1 + size f body))))
      ∷ (nodes f body (at + 1) (At (at + 1 + size f body)) (exits to (At (at + 1 + size f body)))
      ++ (Basic [] (At (at + size f body + 2))
      ∷ guarded (tests_in f test) (at + size f body + 2) (Cond (truth_in f test) (At at) to)))
  nodes f (Leave jump) at to e = []
  nodes f (Switch test list) at to e =
      chain (tests_in f test) at
      (first (case_count list) (at + count f test) (otherwise f list (at + count f test + case_count list) to e))
      ++ (selection (type_of test) (value_in f test) (cases_of f list (at + count f test + case_count list) to e) (at + count f test)
      (otherwise f list (at + count f test + case_count list) to e)
      ++ groups_nodes f list (at + count f test + case_count list) to e)
  nodes f (Return None) at to e = []
  nodes f (Return (Some x)) at to e =
      guarded (tests_in f x) at (Basic (binding (result (type_of x)) (value_in f x) ∷ []) Ret)
  nodes f (MissingReturn offset) at to e = Cond (truth false) Err Err ∷ []

  -- `break` and the end of a group go on after the `switch`
  pub groups_nodes : Setting → Groups → (at : ℕ) → (to : Next) → Exits → List Node
  groups_nodes f no_groups at to e = []
  groups_nodes f (groups values body rest) at to e =
      nodes f body at to (exits to e.continues) ++ groups_nodes f rest (at + size f body) to e
