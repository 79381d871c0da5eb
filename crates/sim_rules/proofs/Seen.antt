-- Both sides, as a bank grows.
use Rattle.std.proofs.Common.{List, Option, Some, None}
use Rattle.std.specs.Prelude.{Result, Ok, Err}
use Rattle.term_core_spec.specs.Term.{Term}
use Rattle.term_bank.specs.Nodes.{Extends}
use Rattle.visit_walk_spec.specs.Listing.{Listing}
use Rattle.attempt.specs.declared.refusal.Refusal.{Refusal}
use Rattle.visit_walk.specs.declared.found.WalkFault.{WalkFault}
use Rattle.term_core_spec.specs.Substitution.{State}
use Rattle.graph_core_spec.specs.Graph.{Graph}
use Rattle.path_cond_spec.specs.Conditions.{conditionals}
use Rattle.path_cond_spec.specs.Junctions.{Junction, junctions}
use Rattle.path_cond.specs.declared.found.Conditions.{Conditions}
use Rattle.path_cond.specs.Ids.{id_at}
use Rattle.path_cond.specs.Result.{AreConditions}
use Rattle.path_cond.proofs.Changed.{state_later}
use Rattle.path_cond.proofs.Tables.{known_later}
use Rattle.sim_rules_spec.specs.Rules.{Seen}
use Rattle.sim_rules_spec.specs.Sides.{Way}
use Rattle.sim_rules_terms.proofs.Later.{opening_in_later, seen_later}
use Rattle.sim_rules.specs.declared.sides.Both.{Both}
use Rattle.sim_rules.specs.Walks.{AreFoundIf, AreSeen, CanSee}

module _ (before now : List Term) (e : Extends before now) where
  conditions_later : (start : State) (g : Graph) (js : List Junction) (c : Conditions) → AreConditions before start g js c → AreConditions now start g js c
  conditions_later start g js c are = record {
    first = state_later c.variables.keys start before now (id_at c.start) start e are.first;
    visits = known_later c.variables.keys start g js before now c.known (conditionals g js start) e are.visits;
  }

  pub found_later : (w : Way) (r : Result Listing (Refusal WalkFault)) (found : Option Conditions) → AreFoundIf before w r found → AreFoundIf now w r found
  found_later w (Ok l) (Some found) h = conditions_later w.start w.graph (junctions w.walk l.visits) found h
  found_later w (Ok l) None h = h
  found_later w (Err fault) (Some found) h = h
  found_later w (Err fault) None h = h

  pub both_later : (a d : Seen) (both : Both) → AreSeen before a d both → AreSeen now a d both
  both_later a d both are = record { binary = seen_later before now e a both.binary are.binary; source = seen_later before now e d both.source are.source }

  pub can_later : (both : Both) → CanSee before both → CanSee now both
  can_later both can = record {
    opening = opening_in_later before now e both.setup.now.opening can.opening;
    some_binary = (can.some_binary.0, seen_later before now e can.some_binary.0 both.binary can.some_binary.1);
    some_source = (can.some_source.0, seen_later before now e can.some_source.0 both.source can.some_source.1);
  }
