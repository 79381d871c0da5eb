use Rattle.std.proofs.Common.{◌∙◌, List, [], length, refl, sym, ap}
use Rattle.std.specs.Option.{option_map_or}
use Rattle.std.proofs.lemmas.Option.{slice_get_past, slice_get_read}
use Rattle.cert_check_frames.specs.declared.listed.PlaceNode.{PlaceNode}
use Rattle.cert_check_frames.specs.Entries.{listed_places}
use Rattle.cert_check_frames.specs.Listed.{places_in}
use Rattle.cert_check_frames.proofs.Framed.{got_or}
use Rattle.cert_check_frames.proofs.listing.places_of.Goals as goal

pub returns-in-Some : goal.returns-in-Some
returns-in-Some c =
    ap (λ (l : List PlaceNode). places_in l) c.as_slice.ensures.value
    ∙ sym (got_or listed_places c.args.places.now c.args.body []
    ∙ ap (λ o. option_map_or listed_places o [])
    (slice_get_read c.args.places.now (length c.args.places.now) c.args.body c.in-Some.found.now refl c.in-Some.ensures.lookup.3.0 c.in-Some.ensures.lookup.1))

pub returns-in-None : goal.returns-in-None
returns-in-None c =
    sym (got_or listed_places c.args.places.now c.args.body [] ∙ ap (λ o. option_map_or listed_places o []) (slice_get_past c.args.places.now c.args.body c.in-None.ensures.lookup.3))
