use Rattle.std.proofs.Common.{◌∙◌, [], arith}
use Rattle.sat_search_analysis.proofs.Explanations.{skipped}
use Rattle.sat_search_analysis.proofs.resolution.find_uip.Goals as goal

pub loop-below-preserved : goal.loop-below-preserved
loop-below-preserved c =
    let next = c.last_marked_from-place.ensures in
    let from = c.in-Some.ensures.found.from in
    let next_from = next.from in
    let next_before = next.before in
    let within = c.loop-below.invariant.within in
    record {
      count = c.resolve.ensures.count ∙ c.loop-below.invariant.count;
      from = omega (arith, from, next_from);
      within = omega (arith, next_before, within);
      marked = next.marked;
      explains =
          skipped c.args.clauses.now.clauses c.args.trail.now c.resolve.new.marks [] c.resolve.new.hints.items c.in-Some.below c.loop-below.place c.last_marked_from-place.result next
          (c.in_ok-resolve.ensures.explains [] c.loop-below.invariant.marked c.loop-below.invariant.explains);
    }
