use Rattle.std.proofs.Common.{◌≡◌, ◌+◌, get_or, max, refl, sym, ◌∙◌, subst, arith}
use Rattle.code_reach.proofs.Overlaps.{IsSwept, first-met, swept-more}
use Rattle.code_reach.proofs.survey.overlap_fault.Goals as goal

pub returns-then-is_met : goal.returns-then-is_met
returns-then-is_met c =
    let both = c.if-is_met.ensures.0 refl in
    first-met c.args.image.now c.args.entries.now c.requires.rising c.loop-entry.entry-index c.loop-entry.end c.unwrap-size.result c.loop-entry.invariant
    c.loop-entry-test.true (sym c.size_at.ensures ∙ c.unwrap-size.ensures) both.0 both.1

pub loop-entry-preserved : goal.loop-entry-preserved
loop-entry-preserved c =
    let e : max c.loop-entry.end (get_or c.args.entries.now c.loop-entry.entry-index 0 + c.unwrap-size.result) ≡ c.max-end.result = omega arith in
    subst (IsSwept c.args.image.now c.args.entries.now (c.loop-entry.entry-index + 1)) e
    (swept-more c.args.image.now c.args.entries.now c.loop-entry.entry-index c.loop-entry.end c.unwrap-size.result c.loop-entry.invariant
    (sym c.size_at.ensures ∙ c.unwrap-size.ensures) (omega (arith, c.from.ensures, c.type_inv.entries c.loop-entry.entry-index)) (omega (arith, c.from-in-loop-entry.ensures, c.unwrap-size.type_inv)) (λ both. let never = c.if-is_met.ensures.1 both in cc))

pub returns : goal.returns
returns c = λ kind address o. c.loop-entry.invariant.apart o.index (omega (arith, o.among)) o.overlaps
