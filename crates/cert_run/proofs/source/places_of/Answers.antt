use Rattle.std.proofs.Common.{◌∙◌, ◌∷◌, ◌++◌, [], ℕ, List, ap, ap₂, sym}
use Rattle.std.proofs.lemmas.List.{map_more, map_push, take_all}
use Rattle.proof_tree_spec.specs.declared.Place.{Place}
use Rattle.c_graph.specs.declared.points.Point.{Point}
use Rattle.c_graph.specs.Seen.{point_of, points_in}
use Rattle.cert_check_frames.specs.Listed.{place_of, places_in}
use Rattle.cert_check_frames.specs.declared.listed.PlaceNode.{PlaceNode}
use Rattle.cert_run.proofs.source.places_of.Goals as goal

pub loop-index-init : goal.loop-index-init
loop-index-init c = ap (λ (l : List PlaceNode). places_in l) c.new-made.ensures.items

pub loop-index-preserved : goal.loop-index-preserved
loop-index-preserved c =
    ap (λ (l : List PlaceNode). places_in l) c.in-Ok-attempt.ensures.items
    ∙ map_push place_of c.loop-index.made.items c.place_node.result
    ∙ ap₂ (λ (l : List (Place × ℕ)) (p : Place × ℕ). l ++ p ∷ []) c.loop-index.invariant c.place_node.ensures
    ∙ sym (map_more point_of c.args.points.now c.loop-index.index _ c.loop-index-test.true)

pub returns : goal.returns
returns c = c.loop-index.invariant ∙ ap (λ (l : List Point). points_in l) (take_all c.loop-index.index c.args.points.now c.loop-index-test.false)
