use Rattle.std.proofs.Common.{take, sym, subst}
use Rattle.std.proofs.lemmas.List.{take_more}
use Rattle.sat_search_analysis.specs.Passes.{IsMarkedBy}
use Rattle.sat_search_analysis.proofs.trimming.mark_hints.Goals as goal

pub loop-hint-preserved : goal.loop-hint-preserved
loop-hint-preserved c =
    subst (λ hints. IsMarkedBy c.args.given hints c.args.needed.now c.mark_hint.new.needed)
    (sym (take_more c.args.hints.now c.loop-hint.hint-index 0 c.loop-hint-test.true))
    (c.mark_hint.ensures (take c.loop-hint.hint-index c.args.hints.now) c.args.needed.now c.loop-hint.invariant)
