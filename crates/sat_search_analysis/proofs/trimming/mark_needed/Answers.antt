use Rattle.std.proofs.Common.{◌≡◌, ◌+◌, ◌-◌, ◌<◌, ◌∙◌, Some, false, length, refl, sym, subst, arith}
use Rattle.std.specs.Prelude.{slice_get}
use Rattle.std.proofs.lemmas.Option.{slice_get_read}
use Rattle.sat_search_spec.specs.Trimming.{IsNeeded}
use Rattle.sat_search_analysis.specs.Passes.{IsMarkedBy}
use Rattle.sat_search_analysis.proofs.Marked.{needed_more, needed_skip}
use Rattle.sat_search_analysis.proofs.trimming.mark_needed.Goals as goal

pub loop-index-preserved-then-needed-index : goal.loop-index-preserved-then-needed-index
loop-index-preserved-then-needed-index c =
    let within = c.loop-index.invariant.within in
    let count = c.loop-index.invariant.count in
    let positive = c.loop-index-test.true in
    let here : slice_get c.args.log.now (c.loop-index.index - 1) ≡ Some c.index-log-index.result =
    slice_get_read c.args.log.now (length c.args.log.now) (c.loop-index.index - 1) c.index-log-index.result refl (omega (arith, within, positive)) c.index-log-index.is
    in
    let before : c.loop-index.index ≡ c.loop-index.index - 1 + 1 = omega (arith, positive) in
    record {
      within = omega (arith, within);
      count = c.mark_hints.ensures.count ∙ count;
      needs = λ backwards first.
          needed_more c.args.given c.args.log.now c.loop-index.needed c.mark_hints.new.needed (c.loop-index.index - 1) c.index-log-index.result backwards here c.if-needed-index.true
          (subst (λ hints. IsMarkedBy c.args.given hints c.loop-index.needed c.mark_hints.new.needed) c.hints.ensures c.mark_hints.ensures)
          (subst (λ n. IsNeeded c.args.given c.args.log.now c.loop-index.needed n) before (c.loop-index.invariant.needs backwards first));
    }

pub loop-index-preserved : goal.loop-index-preserved
loop-index-preserved c =
    let within = c.loop-index.invariant.within in
    let positive = c.loop-index-test.true in
    let before : c.loop-index.index ≡ c.loop-index.index - 1 + 1 = omega (arith, positive) in
    record {
      within = omega (arith, within);
      count = c.loop-index.invariant.count;
      needs = λ backwards first.
          needed_skip c.args.given c.args.log.now c.loop-index.needed (c.loop-index.index - 1)
          (λ marked. let gone = sym marked ∙ c.if-needed-index.false in cc)
          (subst (λ n. IsNeeded c.args.given c.args.log.now c.loop-index.needed n) before (c.loop-index.invariant.needs backwards first));
    }
