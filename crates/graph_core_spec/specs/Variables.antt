-- The variables of a graph, and those that its nodes bind.
use Rattle.std.specs.Prelude.{◌≢◌, List, [], ◌∷◌, ◌++◌, All, if◌then◌else◌}
use Rattle.std.specs.List.{fold, list_any}
use Rattle.term_core_spec.specs.declared.Atom.{Atom}
use Rattle.term_core_spec.specs.declared.Atom.TheVariants as atom
use Rattle.term_core_spec.specs.declared.Family.{Family}
use Rattle.term_core_spec.specs.declared.Variable.{Variable}
use Rattle.term_core_spec.specs.Term.{Term, Leaf, Unary, Binary, Ternary, Quaternary, Octonary}
use Rattle.term_core_spec.specs.Same.{same_variable}
use Rattle.graph_core_spec.specs.Graph.{Binding, Node, Basic, Cond, Call, Graph}

-- ---- the variables of a graph

abbrev pub occurrences_in_atom : Atom → List Variable
occurrences_in_atom (atom.Truth value) = []
occurrences_in_atom (atom.Constant width number) = []
occurrences_in_atom (atom.Open variable) = variable ∷ []

-- the variables of a term from left to right, each as often as it occurs
unfoldable pub occurrences : Term → List Variable
occurrences (Leaf atom) = occurrences_in_atom atom
occurrences (Unary operator a) = occurrences a
occurrences (Binary operator a b) = occurrences a ++ occurrences b
occurrences (Ternary operator a b c) = occurrences a ++ (occurrences b ++ occurrences c)
occurrences (Quaternary operator a b c d) = occurrences a ++ (occurrences b ++ (occurrences c ++ occurrences d))
occurrences (Octonary a b c d e f g h) =
    occurrences a ++ (occurrences b ++ (occurrences c ++ (occurrences d ++ (occurrences e ++ (occurrences f ++ (occurrences g ++ occurrences h))))))

-- of each binding the variable that is bound, then those of its term
abbrev pub occurrences_in_bindings : List Binding → List Variable
occurrences_in_bindings [] = []
occurrences_in_bindings (b ∷ bindings) = b.variable ∷ (occurrences b.term ++ occurrences_in_bindings bindings)

-- what a node binds, tests, passes to a callee or takes from it
abbrev pub occurrences_in_node : Node → List Variable
occurrences_in_node (Basic bindings next) = occurrences_in_bindings bindings
occurrences_in_node (Cond test on_true on_false) = occurrences test
occurrences_in_node (Call callee inputs outputs landing) = occurrences_in_bindings inputs ++ occurrences_in_bindings outputs

abbrev pub occurrences_in_nodes : List Node → List Variable
occurrences_in_nodes [] = []
occurrences_in_nodes (node ∷ nodes) = occurrences_in_node node ++ occurrences_in_nodes nodes

-- one more variable, unless it is there
abbrev pub with_variable : List Variable → Variable → List Variable
with_variable seen v = if list_any (same_variable v) seen then seen else seen ++ v ∷ []

-- more variables, each once, in the order in which they occur first
abbrev pub with_variables : List Variable → List Variable → List Variable
with_variables seen variables = fold with_variable seen variables

-- each variable of the graph once, in the order of the nodes in which they occur first
abbrev pub variables : Graph → List Variable
variables g = with_variables [] (occurrences_in_nodes g.nodes)

-- ---- what nodes bind

-- what a node binds in the frame of its own function: a call's inputs are the callee's
abbrev pub own_bindings : Node → List Binding
own_bindings (Basic bindings next) = bindings
own_bindings (Cond test on_true on_false) = []
own_bindings (Call callee inputs outputs landing) = outputs

-- what it binds in any frame
abbrev pub all_bindings : Node → List Binding
all_bindings (Basic bindings next) = bindings
all_bindings (Cond test on_true on_false) = []
all_bindings (Call callee inputs outputs landing) = inputs ++ outputs

-- no node binds a variable of the family in its own function's frame
abbrev pub NeverBinds : Graph → Family → Type 0
NeverBinds g family = All (λ node. All (λ b. b.variable.family ≢ family) (own_bindings node)) g.nodes
