use Rattle.std.proofs.Common.{◌≡◌, ◌++◌, ◌∷◌, ◌∙◌, [], take, ap, sym, subst}
use Rattle.std.proofs.lemmas.List.{take_more}
use Rattle.sat_search_learning.specs.Search.{IsHighest}
use Rattle.sat_search_learning.proofs.learning.highest.Goals as goal

pub loop-literal-preserved : goal.loop-literal-preserved
loop-literal-preserved c =
    let i = c.loop-literal.literal-index in
    let l = c.literal-item.result in
    let more = take_more c.args.others.now i l c.loop-literal-test.true ∙ ap (λ m. take i c.args.others.now ++ m ∷ []) (sym c.literal-item.is) in
    subst (λ o. IsHighest c.args.trail.now c.args.asserting o c.higher-best.result.literal c.higher-best.result.level) (sym more)
    (c.higher-best.ensures c.args.asserting (take i c.args.others.now) c.loop-literal.invariant)
