-- What holds of a bank, as it grows.
use Rattle.std.proofs.Common.{◌≡◌, ◌∙◌, ℕ, ◌<◌, Bool, List, [], length, Option, Some, None, refl, sym, ap, arith, append-nil}
use Rattle.std.specs.HashMap.{get}
use Rattle.term_core_spec.specs.declared.Variable.{Variable}
use Rattle.term_core_spec.specs.Same.{same_variable}
use Rattle.term_core_spec.specs.Term.{Term, open_term}
use Rattle.term_core_spec.specs.Substitution.{State}
use Rattle.term_bank.specs.Nodes.{tree_at, Extends}
use Rattle.term_bank.proofs.Growth.{tree_at-front, length-Extends}
use Rattle.term_bank.proofs.Substitution.{kept}
use Rattle.term_substitution.specs.States.{tree_or, AreBelow}
use Rattle.graph_core_spec.specs.Graph.{Graph}
use Rattle.path_cond_spec.specs.Junctions.{Junction, junctions}
use Rattle.path_cond_spec.specs.Conditions.{conditionals}
use Rattle.path_cond.specs.declared.found.Conditions.{Conditions}
use Rattle.path_cond.specs.Ids.{id_at}
use Rattle.path_cond.specs.States.{IsMapOf}
use Rattle.path_cond.specs.Result.{AreConditions}
use Rattle.path_cond.proofs.Changed.{state_later}
use Rattle.path_cond.proofs.Tables.{known_later}
use Rattle.sim_rules_spec.specs.Sides.{Way}
use Rattle.sim_rules_spec.specs.Rules as spec
use Rattle.sim_rules_spec.specs.Rules.{Seen}
use Rattle.sim_rules_terms.specs.declared.points.Opening.{Opening}
use Rattle.sim_rules_terms.specs.declared.sight.Sight.{Sight}
use Rattle.sim_rules_terms.specs.declared.sight.Part.{Part}
use Rattle.sim_rules_terms.specs.Openings.{IsOpening, IsOpeningIn}
use Rattle.sim_rules_terms.specs.Seen.{IsSeen}
use Rattle.sim_rules_terms.specs.Ways.{IsSight, IsPart}
use Rattle.visit_walk_spec.specs.Visits.{Visit}

pub itself : (trees : List Term) → Extends trees trees
itself trees = ([], sym (append-nil trees))

-- a map has the terms of a state that is the same at each variable
pub map_for : (trees : List Term) (ids : Variable → Option ℕ) (s t : State) → IsMapOf trees ids s → ((v : Variable) → t v ≡ s v) → IsMapOf trees ids t
map_for trees ids s t is same = record { current = λ v. is.current v ∙ sym (same v); below = is.below }

module _ (before now : List Term) (e : Extends before now) where
  within_later : (i : ℕ) → i < length before → i < length now
  within_later i h = let more = length-Extends before now e in omega arith

  same_tree : (i : ℕ) → i < length before → tree_at now i ≡ tree_at before i
  same_tree i h = ap (λ (l : List Term). tree_at l i) e.1 ∙ tree_at-front before e.0 i h

  same_terms : (ids : Variable → Option ℕ) → AreBelow (length before) ids → (v : Variable) (o : Option ℕ) → ids v ≡ o → tree_or now o (open_term v) ≡ tree_or before o (open_term v)
  same_terms ids below v None is = refl
  same_terms ids below v (Some i) is = same_tree i (below v i is)

  pub below_later : (ids : Variable → Option ℕ) → AreBelow (length before) ids → AreBelow (length now) ids
  below_later ids below = λ v i is. within_later i (below v i is)

  pub map_later : (ids : Variable → Option ℕ) (s : State) → IsMapOf before ids s → IsMapOf now ids s
  map_later ids s is = record {
    current = λ v. same_terms ids is.below v (ids v) refl ∙ is.current v;
    below = below_later ids is.below;
  }

  conditions_later : (start : State) (g : Graph) (js : List Junction) (c : Conditions) → AreConditions before start g js c → AreConditions now start g js c
  conditions_later start g js c are = record {
    first = state_later c.variables.keys start before now (id_at c.start) start e are.first;
    visits = known_later c.variables.keys start g js before now c.known (conditionals g js start) e are.visits;
  }

  pub sight_later : (w : Way) (s : Sight) → IsSight before w s → IsSight now w s
  sight_later w s is = record {
    stops = is.stops;
    terms = map_later (get same_variable s.terms.now) w.start is.terms;
    maximum = is.maximum;
    listing = is.listing;
    conditions = conditions_later w.start w.graph (junctions w.walk s.visits.now.visits) s.found.now is.conditions;
  }

  pub seen_later : (side : Seen) (s : Option Sight) → IsSeen before side s → IsSeen now side s
  seen_later side (Some s) is = (is.0, sight_later side.way s is.1)
  seen_later side None is = is

  pub opening_later : (o : spec.Opening) (code : Opening) → IsOpening before o code → IsOpening now o code
  opening_later o code is = record {
    of_binary = map_later (get same_variable code.binary.now) o.binary is.of_binary;
    of_source = map_later (get same_variable code.source.now) o.source is.of_source;
  }

  pub opening_in_later : (code : Opening) → IsOpeningIn (length before) code → IsOpeningIn (length now) code
  opening_in_later code is = record {
    binary_below = below_later (get same_variable code.binary.now) is.binary_below;
    source_below = below_later (get same_variable code.source.now) is.source_below;
  }

  pub part_later : (w : Way) (visits : List Visit) (test : Visit → Bool) (p : Part) → IsPart before w visits test p → IsPart now w visits test p
  part_later w visits test p is = record {
    some = is.some;
    condition = kept before now p.condition _ e is.condition;
    terms = map_later (get same_variable p.terms) _ is.terms;
  }
