use Rattle.std.proofs.Common.{◌≡◌, ◌+◌, ◌∙◌, Some, false, get_or, length, refl, ap, sym, subst}
use Rattle.std.specs.Prelude.{slice_get}
use Rattle.std.proofs.lemmas.Option.{slice_get_read}
use Rattle.std.proofs.lemmas.List.{length_push}
use Rattle.sat_search_spec.specs.Trimming.{trimmed_step}
use Rattle.sat_search_analysis.specs.Passes.{AreLow}
use Rattle.sat_search_analysis.proofs.Trimmed.{low_more, trimming_next, next_short}
use Rattle.sat_search_analysis.proofs.trimming.trim_steps.Goals as goal

pub loop-index-preserved : goal.loop-index-preserved
loop-index-preserved c =
    let places = c.loop-index.places.items in
    let trimmed = c.loop-index.trimmed.items in
    let new_places = c.trim_step.new.places.items in
    let here : slice_get c.args.log.now c.loop-index.index ≡ Some c.index-log-index.result =
    slice_get_read c.args.log.now (length c.args.log.now) c.loop-index.index c.index-log-index.result refl c.loop-index-test.true c.index-log-index.is
    in
    record {
      low = subst AreLow (sym c.in_ok-trim_step.ensures.places) (low_more places (length trimmed) c.loop-index.invariant.low c.loop-index.invariant.short);
      short =
          next_short places new_places trimmed c.trim_step.new.trimmed.items (get_or c.args.needed.now c.loop-index.index false)
          (trimmed_step c.args.given new_places c.index-log-index.result)
          c.in_ok-trim_step.ensures.places c.in_ok-trim_step.ensures.trimmed c.loop-index.invariant.short;
      count = ap length c.in_ok-trim_step.ensures.places ∙ length_push places (length trimmed) ∙ ap (λ n. n + 1) c.loop-index.invariant.count;
      trimming = λ backwards.
          trimming_next c.args.given c.args.log.now c.args.needed.now c.loop-index.index places trimmed c.index-log-index.result new_places c.trim_step.new.trimmed.items
          here c.in_ok-trim_step.ensures.places c.in_ok-trim_step.ensures.trimmed backwards (c.loop-index.invariant.trimming backwards);
    }
