-- Ways, sights and parts of the code as the definitions have them, in a bank.
use Rattle.std.specs.Prelude.{◌≡◌, ℕ, ◌<◌, nat_lt, Bool, List, length}
use Rattle.std.specs.List.{list_any}
use Rattle.std.specs.HashMap.{get}
use Rattle.term_core_spec.specs.Same.{same_variable}
use Rattle.term_core_spec.specs.Term.{Term}
use Rattle.term_bank.specs.Nodes.{Holds}
use Rattle.term_substitution.specs.States.{AreBelow}
use Rattle.graph_core.specs.Graphs.{graph_of}
use Rattle.visit_walk_spec.specs.Visits.{Walk, Visit}
use Rattle.visit_walk_spec.specs.Listing.{IsListing}
use Rattle.path_cond_spec.specs.Junctions.{junctions}
use Rattle.path_cond_spec.specs.Conditions.{Conditional, conditional_of, conditionals}
use Rattle.path_cond.specs.States.{IsMapOf}
use Rattle.path_cond.specs.Result.{AreConditions}
use Rattle.sim_rules_spec.specs.Sides as sides
use Rattle.sim_rules_spec.specs.Sides.{visits_where}
use Rattle.sim_rules_terms.specs.declared.way.Way.{Way}
use Rattle.sim_rules_terms.specs.declared.sight.Sight.{Sight}
use Rattle.sim_rules_terms.specs.declared.sight.Part.{Part}

-- ---- ways

abbrev pub walk_on : Way → Walk
walk_on way = record { shape = way.shape.successors.items; start = way.start; stops = way.stops.items; bounds = way.bounds.items }

pub record IsWay (trees : List Term) (w : sides.Way) (way : Way) : Type 0 where
  pub graph : graph_of way.graph.now ≡ w.graph
  pub walk : walk_on way ≡ w.walk
  pub terms : IsMapOf trees (get same_variable way.terms.now) w.start

-- ---- sights

-- the visits of the way, with their conditions and states
pub record IsSight (trees : List Term) (w : sides.Way) (s : Sight) : Type 0 where
  pub stops : s.stops.now ≡ w.walk.stops
  pub terms : IsMapOf trees (get same_variable s.terms.now) w.start
  pub maximum : ℕ
  pub listing : IsListing w.walk maximum s.visits.now
  pub conditions : AreConditions trees w.start w.graph (junctions w.walk s.visits.now.visits) s.found.now

-- ---- several visits

-- the visits at some positions as one
abbrev pub conditional_by : sides.Way → List Visit → List ℕ → Conditional
conditional_by w visits members = conditional_of w.start (conditionals w.graph (junctions w.walk visits) w.start) members

abbrev pub condition_by : sides.Way → List Visit → List ℕ → Term
condition_by w visits members = (conditional_by w visits members).condition

pub record IsPartOf (trees : List Term) (w : sides.Way) (visits : List Visit) (members : List ℕ) (p : Part) : Type 0 where
  pub some : p.any ≡ nat_lt 0 (length members)
  pub condition : Holds trees p.condition (condition_by w visits members)
  pub terms : IsMapOf trees (get same_variable p.terms) (conditional_by w visits members).state

-- those that pass a test
pub record IsPart (trees : List Term) (w : sides.Way) (visits : List Visit) (test : Visit → Bool) (p : Part) : Type 0 where
  pub some : p.any ≡ list_any test visits
  pub condition : Holds trees p.condition (visits_where w visits test).condition
  pub terms : IsMapOf trees (get same_variable p.terms) (visits_where w visits test).state
