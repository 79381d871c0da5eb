-- What some bindings give, in a bank.
use Rattle.std.specs.Prelude.{◌≡◌, ℕ, List, length, Option}
use Rattle.term_core_spec.specs.declared.Variable.{Variable}
use Rattle.term_core_spec.specs.Term.{Term}
use Rattle.term_core_spec.specs.Substitution.{State as Terms}
use Rattle.term_substitution.specs.States.{tree_or, AreBelow}
use Rattle.graph_core_spec.specs.Graph.{Binding}
use Rattle.path_cond_spec.specs.Conditions.{assigned}

-- the map has the terms of the variables that are bound, over a state, and nothing else
pub record AreBound (trees : List Term) (bindings : List Binding) (state : Terms) (ids : Variable → Option ℕ) : Type 0 where
  pub given : (rest : Terms) (v : Variable) → tree_or trees (ids v) (rest v) ≡ assigned bindings state rest v
  pub below : AreBelow (length trees) ids
