use Rattle.std.proofs.Common.{◌≡◌, ◌∙◌, true, false, subst, get_or, refl, sym}
use Rattle.std.proofs.lemmas.Option.{slice_get-get_or}
use Rattle.std.specs.Prelude.{bytes_eq}
use Rattle.cert_check_frames.specs.declared.listed.Listed.{Listed}
use Rattle.cert_check_frames.proofs.Indexed.{item_there, named_at, not_named, one_part_more, no_part}
use Rattle.cert_check_frames.proofs.parts.has_part.Goals as goal

pub returns-then-eq : goal.returns-then-eq
returns-then-eq c = (
  λ _. record {
    place = c.loop-part.part-index;
    part = get_or c.args.parts.now c.loop-part.part-index 0;
    there = slice_get-get_or c.args.parts.now c.loop-part.part-index 0 c.loop-part-test.true;
    named = named_at c.args.listed.now _ c.index-listed-part.result c.args.name.now
        (item_there c.args.listed.now _ c.index-listed-part.result (c.requires c.loop-part.part-index 0 c.loop-part-test.true) c.index-listed-part.is) (subst (λ (f : Listed). bytes_eq f.name.now c.args.name.now ≡ true) (sym c.index-listed-part.is) (sym c.eq.ensures ∙ c.if-eq.true));
  },
  λ _. refl,
)

pub loop-part-preserved : goal.loop-part-preserved
loop-part-preserved c =
    one_part_more c.args.listed.now c.args.parts.now c.args.name.now c.loop-part.part-index _ c.loop-part.invariant
    (slice_get-get_or c.args.parts.now c.loop-part.part-index 0 c.loop-part-test.true)
    (not_named c.args.listed.now _ c.index-listed-part.result c.args.name.now
    (item_there c.args.listed.now _ c.index-listed-part.result (c.requires c.loop-part.part-index 0 c.loop-part-test.true) c.index-listed-part.is) (subst (λ (f : Listed). bytes_eq f.name.now c.args.name.now ≡ false) (sym c.index-listed-part.is) (sym c.eq.ensures ∙ c.if-eq.false)))

pub returns : goal.returns
returns c = (λ h. absurd (cc), λ has. absurd (no_part c.args.listed.now c.args.parts.now c.args.name.now c.loop-part.part-index c.loop-part-test.false c.loop-part.invariant has))
