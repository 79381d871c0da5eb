-- What holds of a bank as it grows.
use Rattle.std.proofs.Common.{◌≡◌, ◌∙◌, ℕ, ◌<◌, List, length, Option, Some, None, refl, sym, ap}
use Rattle.std.specs.HashMap.{get}
use Rattle.term_core_spec.specs.declared.Variable.{Variable}
use Rattle.term_core_spec.specs.Same.{same_variable}
use Rattle.term_core_spec.specs.Substitution.{State, substituted}
use Rattle.term_core_spec.specs.Term.{Term}
use Rattle.term_bank.specs.Nodes.{tree_at, Holds, Extends}
use Rattle.term_bank.proofs.Growth.{tree_at-front, length-Extends}
use Rattle.term_bank.proofs.Substitution.{kept}
use Rattle.term_substitution.specs.States.{tree_or, state_of, AreBelow}
use Rattle.path_cond.specs.States.{IsMapOf}
use Rattle.graph_core_spec.specs.Graph.{Binding}
use Rattle.sim_rules_spec.specs.Calls.{left}
use Rattle.sim_rules_spec.specs.Points.{Convention}
use Rattle.sim_rules_terms.proofs.Later.{below_later, map_later}
use Rattle.sim_calls.specs.declared.cut.Cut.{Cut}
use Rattle.sim_calls.specs.Bound.{AreBound}
use Rattle.sim_calls.specs.Cuts.{IsCut}
use Rattle.sim_calls.specs.Left.{AreLeft}
use Rattle.sim_calls.specs.Returned.{HasResult}

-- a map by its own terms
pub own_map : (trees : List Term) (ids : Variable → Option ℕ) → AreBelow (length trees) ids → IsMapOf trees ids (state_of trees ids)
own_map trees ids below = record { current = λ v. refl; below = below }

module _ (before now : List Term) (e : Extends before now) where
  same_or : (o : Option ℕ) (otherwise : Term) → ((i : ℕ) → o ≡ Some i → i < length before) → tree_or now o otherwise ≡ tree_or before o otherwise
  same_or None otherwise within = refl
  same_or (Some i) otherwise within = ap (λ (l : List Term). tree_at l i) e.1 ∙ tree_at-front before e.0 i (within i refl)

  pub bound_later : (bindings : List Binding) (s : State) (ids : Variable → Option ℕ) → AreBound before bindings s ids → AreBound now bindings s ids
  bound_later bindings s ids are = record {
    given = λ rest v. same_or (ids v) (rest v) (are.below v) ∙ are.given rest v;
    below = below_later before now e ids are.below;
  }

  pub cut_later : (c : Convention) (cut : Cut) → IsCut before c cut → IsCut now c cut
  cut_later c cut is = record {
    of_binary = map_later before now e (get same_variable cut.binary) _ is.of_binary;
    of_source = map_later before now e (get same_variable cut.source) _ is.of_source;
    memory = kept before now cut.memory _ e is.memory;
  }

  pub left_later : (variables : List Variable) (ids : Variable → Option ℕ) → AreLeft before variables ids → AreLeft now variables ids
  left_later variables ids are = record { each = λ v id is. kept before now id (left v) e (are.each v id is); listed = are.listed }

  pub result_later : (t : Option Term) (o : Option ℕ) → HasResult before t o → HasResult now t o
  result_later (Some t) (Some i) h = kept before now i (substituted left t) e h
  result_later (Some t) None h = h
  result_later None (Some i) h = h
  result_later None None h = h
