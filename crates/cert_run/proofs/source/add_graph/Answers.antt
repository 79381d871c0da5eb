use Rattle.std.proofs.Common.{◌∙◌, ◌∷◌, ◌++◌, [], ℕ, List, Vec, Global, map, ap}
use Rattle.std.proofs.lemmas.List.{map_push}
use Rattle.proof_tree_spec.specs.declared.Place.{Place}
use Rattle.c_graph.specs.declared.points.Point.{Point}
use Rattle.c_graph.specs.Seen.{points_in}
use Rattle.cert_check_frames.specs.Entries.{listed_places}
use Rattle.cert_check_frames.specs.declared.listed.PlaceNode.{PlaceNode}
use Rattle.cert_run.proofs.source.add_graph.Goals as goal

pub returns-4-clause-places : goal.returns-4-clause-places
returns-4-clause-places c =
    ap (λ (l : List (Vec PlaceNode Global)). map listed_places l) c.in-Ok-attempt-2.ensures.items
    ∙ map_push listed_places c.args.places.now.items c.in-Ok-attempt.field-0
    ∙ ap (λ (l : List (Place × ℕ)). map listed_places c.args.places.now.items ++ l ∷ []) (c.in-Ok-attempt.ensures ∙ ap (λ (l : List Point). points_in l) c.as_slice.ensures.value)
