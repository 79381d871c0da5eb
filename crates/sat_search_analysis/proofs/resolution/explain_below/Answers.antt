use Rattle.std.proofs.Common.{◌∙◌, arith}
use Rattle.sat_search_analysis.proofs.Explanations.{skipped}
use Rattle.sat_search_analysis.proofs.resolution.explain_below.Goals as goal

pub loop-marked-preserved : goal.loop-marked-preserved
loop-marked-preserved c =
    let last = c.in-Some.ensures.found in
    let before = last.before in
    let within = c.loop-marked.invariant.within in
    record {
      count = c.explain_entry.ensures.count ∙ c.loop-marked.invariant.count;
      within = omega (arith, before, within);
      explains =
          c.in_ok-explain_entry.ensures.explains last.marked
          (skipped c.args.clauses.now.clauses c.args.trail.now c.loop-marked.marks c.loop-marked.learnt.items c.loop-marked.hints.items 0 c.loop-marked.place c.in-Some.marked
          last c.loop-marked.invariant.explains);
      learnt_below =
          c.in_ok-explain_entry.ensures.learnt c.args.end c.args.learnt.now.items (omega (arith, before, within)) c.loop-marked.invariant.learnt_below;
    }
