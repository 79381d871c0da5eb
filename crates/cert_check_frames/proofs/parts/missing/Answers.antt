use Rattle.std.proofs.Common.{sym, ◌∙◌, subst}
use Rattle.std.proofs.lemmas.Bool.{false≢true}
use Rattle.cert_check_frames.specs.declared.listed.Listed.{Listed}
use Rattle.cert_check_frames.specs.Parts.{HasPart}
use Rattle.cert_check_frames.proofs.Indexed.{item_there, one_has_more, all_have}
use Rattle.cert_check_frames.proofs.parts.missing.Goals as goal

pub returns-then-not-has_part : goal.returns-then-not-has_part
returns-then-not-has_part c = (
  c.index-listed-index.result,
  item_there c.args.listed.now c.loop-index.index c.index-listed-index.result c.loop-index-test.true c.index-listed-index.is,
  λ has. false≢true (sym c.if-not-has_part.true ∙ c.has_part.ensures.1 (subst (λ (f : Listed). HasPart c.args.listed.now c.args.parts.now f.name.now) c.index-listed-index.is has)),
  c.loop-index.invariant,
)

pub loop-index-preserved : goal.loop-index-preserved
loop-index-preserved c =
    one_has_more c.args.listed.now c.args.parts.now c.loop-index.index c.index-listed-index.result c.loop-index.invariant
    (item_there c.args.listed.now c.loop-index.index c.index-listed-index.result c.loop-index-test.true c.index-listed-index.is)
    (subst (λ (f : Listed). HasPart c.args.listed.now c.args.parts.now f.name.now) (sym c.index-listed-index.is) (c.has_part.ensures.0 c.if-not-has_part.false))

pub returns : goal.returns
returns c = all_have c.args.listed.now c.args.parts.now c.loop-index.index c.loop-index-test.false c.loop-index.invariant
