-- The visits of a walk in order, each with the edges into it.
use Rattle.std.specs.Prelude.{ℕ, List, [], map, get_or}
use Rattle.graph_core_spec.specs.declared.Next.{Next}
use Rattle.graph_core_spec.specs.declared.Next.TheVariants as next
use Rattle.visit_walk_spec.specs.declared.Incoming.{Incoming}
use Rattle.visit_walk_spec.specs.Visits.{Walk, Visit}
use Rattle.visit_walk_spec.specs.EdgesInto.{edges_into}

-- where a run is at a visit, and the edges into the visit in the order of their sources
pub record Junction : Type 0 where
  pub place : Next
  pub edges : List Incoming

abbrev pub junction_of : Walk → List Visit → Visit → Junction
junction_of w visits v = record { place = v.place; edges = edges_into w visits v }

abbrev pub junctions : Walk → List Visit → List Junction
junctions w visits = map (junction_of w visits) visits

abbrev pub junction_at : List Junction → ℕ → Junction
junction_at js i = get_or js i (record { place = next.Err; edges = [] })
