use Rattle.std.proofs.Common.{◌<◌, length, arith}
use Rattle.cert_check.proofs.Picked.{at_index}
use Rattle.cert_check.proofs.Entered.{in_a_part, last_part, part_below, inside_goes}
use Rattle.cert_check.proofs.walk.inside_last.Goals as goal

pub inside-requires-clause-index : goal.inside-requires-clause-index
inside-requires-clause-index c =
    let here = in_a_part c.args.listed.now c.args.walk.now c.args.line.now c.requires.walk c.requires.inside in
    part_below (length c.args.listed.now) c.args.walk.now.parts.items _ c.index-part.result.now c.requires.walk.sound.indices c.index-part.ensures
    (omega (arith, here.0, c.args.walk.now.parts.ok.0))

pub inside-requires-clause-next : goal.inside-requires-clause-next
inside-requires-clause-next c =
    let here = in_a_part c.args.listed.now c.args.walk.now c.args.line.now c.requires.walk c.requires.inside in
    let last = last_part c.args.walk.now.parts.items _ c.index-part.result.now c.index-part.ensures (omega (arith, here.0, c.args.walk.now.parts.ok.0)) in
    record { kept = λ function there. c.requires.walk.sound.kept _ _ function last there; next = here.1 }

pub returns : goal.returns
returns c = λ index.
    let here = in_a_part c.args.listed.now c.args.walk.now c.args.line.now c.requires.walk c.requires.inside in
    let last = last_part c.args.walk.now.parts.items _ c.index-part.result.now c.index-part.ensures (omega (arith, here.0, c.args.walk.now.parts.ok.0)) in
    let within : c.index-part.result.now < length c.args.listed.now =
    part_below (length c.args.listed.now) c.args.walk.now.parts.items _ c.index-part.result.now c.requires.walk.sound.indices c.index-part.ensures
    (omega (arith, here.0, c.args.walk.now.parts.ok.0)) in
    let found = at_index c.args.listed.now c.index-part.result.now within in
    inside_goes c.args.listed.now c.args.walk.now c.inside.new.walk c.args.line.now index c.index-part.result.now _ c.requires.walk c.requires.inside last found.0 found.1 c.inside.result
    (c.inside.ensures found.0 found.1)
