use Rattle.std.proofs.Common.{◌<◌, length, refl, arith}
use Rattle.cert_text_parse.specs.declared.lines.Line.TheVariants as code
use Rattle.cert_check_frames.proofs.Indexed.{item_there}
use Rattle.cert_check.proofs.Tops.{log_top}
use Rattle.cert_check.proofs.Entered.{in_a_part, last_part, part_below}
use Rattle.cert_check.proofs.LogLines.{log_begins, log_stays_open, log_refused}
use Rattle.cert_check.proofs.logs.log.Goals as goal

pub bounds-listed-part : goal.bounds-listed-part
bounds-listed-part c =
    let here = in_a_part c.args.listed.now c.args.walk.now (code.Log c.args.count) c.requires refl in
    part_below (length c.args.listed.now) c.args.walk.now.parts.items _ c.index-part.result.now c.requires.sound.indices c.index-part.ensures
    (omega (arith, here.0, c.args.walk.now.parts.ok.0))

pub begin_first-requires-clause-kept : goal.begin_first-requires-clause-kept
begin_first-requires-clause-kept c =
    let here = in_a_part c.args.listed.now c.args.walk.now (code.Log c.args.count) c.requires refl in
    let last = last_part c.args.walk.now.parts.items _ c.index-part.result.now c.index-part.ensures (omega (arith, here.0, c.args.walk.now.parts.ok.0)) in
    let within : c.index-part.result.now < length c.args.listed.now =
    part_below (length c.args.listed.now) c.args.walk.now.parts.items _ c.index-part.result.now c.requires.sound.indices c.index-part.ensures
    (omega (arith, here.0, c.args.walk.now.parts.ok.0)) in
    c.requires.sound.kept _ _ c.index-listed-part.result last (item_there c.args.listed.now c.index-part.result.now c.index-listed-part.result within c.index-listed-part.is)

pub begin_first-requires-clause-next : goal.begin_first-requires-clause-next
begin_first-requires-clause-next c =
    let here = in_a_part c.args.listed.now c.args.walk.now (code.Log c.args.count) c.requires refl in
    log_top c.args.count c.args.walk.now.jobs.items here.1

pub returns-in-Ok-opened : goal.returns-in-Ok-opened
returns-in-Ok-opened c =
    let here = in_a_part c.args.listed.now c.args.walk.now (code.Log c.args.count) c.requires refl in
    let last = last_part c.args.walk.now.parts.items _ c.index-part.result.now c.index-part.ensures (omega (arith, here.0, c.args.walk.now.parts.ok.0)) in
    let within : c.index-part.result.now < length c.args.listed.now =
    part_below (length c.args.listed.now) c.args.walk.now.parts.items _ c.index-part.result.now c.requires.sound.indices c.index-part.ensures
    (omega (arith, here.0, c.args.walk.now.parts.ok.0)) in
    log_begins c.args.listed.now c.args.walk.now c.begin_first.new.walk c.args.count c.args.place c.index-part.result.now _ c.requires last c.index-listed-part.result
    (item_there c.args.listed.now c.index-part.result.now c.index-listed-part.result within c.index-listed-part.is) c.in-Ok.closer c.in-Ok.ensures c.in-Ok-opened.log c.in-Ok-opened.ensures

pub returns-in-Err-opened : goal.returns-in-Err-opened
returns-in-Err-opened c =
    let here = in_a_part c.args.listed.now c.args.walk.now (code.Log c.args.count) c.requires refl in
    let last = last_part c.args.walk.now.parts.items _ c.index-part.result.now c.index-part.ensures (omega (arith, here.0, c.args.walk.now.parts.ok.0)) in
    let within : c.index-part.result.now < length c.args.listed.now =
    part_below (length c.args.listed.now) c.args.walk.now.parts.items _ c.index-part.result.now c.requires.sound.indices c.index-part.ensures
    (omega (arith, here.0, c.args.walk.now.parts.ok.0)) in
    log_stays_open c.args.listed.now c.args.walk.now c.begin_first.new.walk c.args.count c.args.place c.index-part.result.now _ c.requires last c.index-listed-part.result
    (item_there c.args.listed.now c.index-part.result.now c.index-listed-part.result within c.index-listed-part.is) c.in-Ok.closer c.in-Ok.ensures c.in-Err-opened.word c.in-Err-opened.ensures

pub returns-in-Err : goal.returns-in-Err
returns-in-Err c =
    let here = in_a_part c.args.listed.now c.args.walk.now (code.Log c.args.count) c.requires refl in
    let last = last_part c.args.walk.now.parts.items _ c.index-part.result.now c.index-part.ensures (omega (arith, here.0, c.args.walk.now.parts.ok.0)) in
    let within : c.index-part.result.now < length c.args.listed.now =
    part_below (length c.args.listed.now) c.args.walk.now.parts.items _ c.index-part.result.now c.requires.sound.indices c.index-part.ensures
    (omega (arith, here.0, c.args.walk.now.parts.ok.0)) in
    log_refused c.args.listed.now c.args.walk.now c.begin_first.new.walk c.args.count c.args.place c.index-part.result.now _ c.requires last c.index-listed-part.result
    (item_there c.args.listed.now c.index-part.result.now c.index-listed-part.result within c.index-listed-part.is) c.in-Err.error c.refused.result c.refused.ensures c.in-Err.ensures
