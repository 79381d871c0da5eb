use Rattle.std.proofs.Common.{[], ◌∷◌, refl, lit<, arith}
use Rattle.std.proofs.lemmas.List.Elements.{All-from_recursion}
use Rattle.term_core_spec.specs.Sort.{sort_of, sort_of_atom, sort_of_unary, sort_of_binary, sort_of_ternary}
use Rattle.graph_core_spec.specs.Graph.{Binding, IsBinding, IsNode, AreBindings}
use Rattle.example_laws.specs.Call.{caller, callee}
use Rattle.example_laws.proofs.graphs.two_graphs_are_valid.Goals as goal

none : AreBindings []
none k d less = absurd (omega arith)

one : (b : Binding) → IsBinding b → AreBindings (b ∷ [])
one b is = All-from_recursion IsBinding (b ∷ []) (is, tt)

two : (a b : Binding) → IsBinding a → IsBinding b → AreBindings (a ∷ b ∷ [])
two a b is is2 = All-from_recursion IsBinding (a ∷ b ∷ []) (is, (is2, tt))

pub returns : goal.returns
unfolding sort_of sort_of_atom sort_of_unary sort_of_binary sort_of_ternary
returns c = record {
  caller = record {
    entry = lit< tt;
    nodes = All-from_recursion (IsNode 4) caller.nodes (
      (none, lit< tt),
      ((one _ refl, one _ refl, lit< tt), ((none, lit< tt), ((one _ refl, tt), tt))),
    );
  };
  callee = record {
    entry = lit< tt;
    nodes = All-from_recursion (IsNode 3) callee.nodes ((none, lit< tt), ((refl, lit< tt, tt), ((two _ _ refl refl, tt), tt)));
  };
}
