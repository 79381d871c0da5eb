use Rattle.std.proofs.Common.{◌∙◌, sym, refl}
use Rattle.cert_text_parse.specs.Views.{line_of}
use Rattle.cert_check_frames.proofs.Indexed.{item_there}
use Rattle.cert_check.proofs.Picked.{at_index}
use Rattle.cert_check.proofs.Entered.{passes_inside, fails_inside, later_inside}
use Rattle.cert_check.proofs.walk.inside.Goals as goal

-- a line of a rule that isn't checked
pub returns-then-not-is_known : goal.returns-then-not-is_known
returns-then-not-is_known c =
    let found = at_index c.args.listed.now c.args.index c.requires.index in
    later_inside c.args.listed.now c.args.walk.now c.args.walk.now (line_of c.args.line.now) c.args.index found.0 found.1 refl (sym c.is_known.ensures ∙ c.if-not-is_known.true)

pub part_line-requires-clause-known : goal.part_line-requires-clause-known
part_line-requires-clause-known c = sym c.is_known.ensures ∙ c.if-not-is_known.false

pub part_line-requires-clause-kept : goal.part_line-requires-clause-kept
part_line-requires-clause-kept c = c.requires.next.kept _ (item_there c.args.listed.now c.args.index c.index-listed-index.result c.requires.index c.index-listed-index.is)

pub returns-in-Ok : goal.returns-in-Ok
returns-in-Ok c =
    passes_inside c.args.listed.now c.args.walk.now _ _ c.args.index c.index-listed-index.result
    (item_there c.args.listed.now c.args.index c.index-listed-index.result c.requires.index c.index-listed-index.is) refl (sym c.is_known.ensures ∙ c.if-not-is_known.false)
    c.in-Ok.ensures.step c.in-Ok.ensures.kept c.in-Ok.ensures.follows

pub returns-in-Err : goal.returns-in-Err
returns-in-Err c =
    fails_inside c.args.listed.now c.args.walk.now _ _ c.args.index c.index-listed-index.result
    (item_there c.args.listed.now c.args.index c.index-listed-index.result c.requires.index c.index-listed-index.is) refl c.in-Err.fault c.named.result
    (sym c.is_known.ensures ∙ c.if-not-is_known.false) c.named.ensures c.in-Err.ensures.step
