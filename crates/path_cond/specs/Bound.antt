-- Lists that have the variables that some nodes bind.
use Rattle.std.specs.Prelude.{◌≡◌, Bool, true, List, ⊤, All}
use Rattle.std.specs.List.{list_any}
use Rattle.term_core_spec.specs.declared.Variable.{Variable}
use Rattle.term_core_spec.specs.Same.{same_variable}
use Rattle.graph_core_spec.specs.Graph.{Binding, Node, Basic, Cond, Call}

-- the list has the variable
abbrev pub has : List Variable → Variable → Bool
has variables v = list_any (same_variable v) variables

abbrev pub AreListed : List Variable → List Binding → Type 0
AreListed variables bindings = All (λ (b : Binding). has variables b.variable ≡ true) bindings

abbrev pub IsListedNode : List Variable → Node → Type 0
IsListedNode variables (Basic bindings next) = AreListed variables bindings
IsListedNode variables (Cond test on_true on_false) = ⊤
IsListedNode variables (Call callee inputs outputs landing) = ⊤

abbrev pub ListsAll : List Variable → List Node → Type 0
ListsAll variables nodes = All (IsListedNode variables) nodes

-- what the list had it still has
abbrev pub KeepsListed : List Variable → List Variable → Type 0
KeepsListed old new = (v : Variable) → has old v ≡ true → has new v ≡ true
