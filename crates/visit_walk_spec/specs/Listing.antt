-- The list of a walk's visits, with the edges into each.
use Rattle.std.specs.Prelude.{◌≡◌, ◌≤◌, ℕ, List, length}
use Rattle.visit_walk_spec.specs.declared.Incoming.{Incoming}
use Rattle.visit_walk_spec.specs.Visits.{Walk, Visit}
use Rattle.visit_walk_spec.specs.Outcomes.{AreVisits}
use Rattle.visit_walk_spec.specs.EdgesInto.{all_edges_into}

-- visits in their order, and for each the edges into it in the order of their sources
pub record Listing : Type 0 where
  pub visits : List Visit
  pub incoming : List (List Incoming)

-- of the walk, whose visits are at most the maximum
pub record IsListing (w : Walk) (maximum : ℕ) (l : Listing) : Type 0 where
  pub visits : AreVisits w l.visits
  pub few : length l.visits ≤ maximum
  pub incoming : l.incoming ≡ all_edges_into w l.visits
