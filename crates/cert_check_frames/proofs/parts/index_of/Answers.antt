use Rattle.std.proofs.Common.{◌≡◌, ◌∙◌, true, false, subst, below_more, sym}
use Rattle.std.specs.Prelude.{bytes_eq}
use Rattle.cert_check_frames.specs.declared.listed.Listed.{Listed}
use Rattle.cert_check_frames.proofs.Indexed.{item_there, named_at, not_named, none_named}
use Rattle.cert_check_frames.proofs.parts.index_of.Goals as goal

pub returns-then-eq : goal.returns-then-eq
returns-then-eq c =
    named_at c.args.listed.now c.loop-index.index c.index-listed-index.result c.args.name.now
    (item_there c.args.listed.now c.loop-index.index c.index-listed-index.result c.loop-index-test.true c.index-listed-index.is) (subst (λ (f : Listed). bytes_eq f.name.now c.args.name.now ≡ true) (sym c.index-listed-index.is) (sym c.eq.ensures ∙ c.if-eq.true))

pub loop-index-preserved : goal.loop-index-preserved
loop-index-preserved c =
    below_more _ _ c.loop-index.invariant
    (not_named c.args.listed.now c.loop-index.index c.index-listed-index.result c.args.name.now
    (item_there c.args.listed.now c.loop-index.index c.index-listed-index.result c.loop-index-test.true c.index-listed-index.is) (subst (λ (f : Listed). bytes_eq f.name.now c.args.name.now ≡ false) (sym c.index-listed-index.is) (sym c.eq.ensures ∙ c.if-eq.false)))

pub returns : goal.returns
returns c = none_named c.args.listed.now c.args.name.now c.loop-index.index c.loop-index-test.false c.loop-index.invariant
