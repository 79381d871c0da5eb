use Rattle.std.proofs.Common.{◌∙◌, [], length, refl, sym, ap}
use Rattle.std.specs.Option.{option_map_or}
use Rattle.std.proofs.lemmas.Option.{slice_get_past, slice_get_read}
use Rattle.cert_check_frames.specs.Entries.{firsts_in}
use Rattle.cert_check_frames.proofs.Framed.{got_or}
use Rattle.cert_check_frames.proofs.listing.firsts_of.Goals as goal

pub returns-in-Some : goal.returns-in-Some
returns-in-Some c =
    sym (got_or firsts_in c.args.firsts.now c.args.number []
    ∙ ap (λ o. option_map_or firsts_in o [])
    (slice_get_read c.args.firsts.now (length c.args.firsts.now) c.args.number c.in-Some.found.now refl c.in-Some.ensures.lookup.3.0 c.in-Some.ensures.lookup.1))

pub returns-in-None : goal.returns-in-None
returns-in-None c =
    sym (got_or firsts_in c.args.firsts.now c.args.number [] ∙ ap (λ o. option_map_or firsts_in o []) (slice_get_past c.args.firsts.now c.args.number c.in-None.ensures.lookup.3))
