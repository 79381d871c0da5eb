-- Listed visits, each with the edges into it.
use Rattle.std.specs.Prelude.{List, [], ◌∷◌}
use Rattle.visit_walk_spec.specs.declared.Incoming.{Incoming}
use Rattle.visit_walk_spec.specs.Visits.{Visit}
use Rattle.visit_walk_spec.specs.Listing.{Listing}
use Rattle.path_cond_spec.specs.Junctions.{Junction}

abbrev pub joined : List Visit → List (List Incoming) → List Junction
joined [] incoming = []
joined (v ∷ visits) [] = record { place = v.place; edges = [] } ∷ joined visits []
joined (v ∷ visits) (edges ∷ incoming) = record { place = v.place; edges = edges } ∷ joined visits incoming

abbrev pub junctions_of : Listing → List Junction
junctions_of l = joined l.visits l.incoming
