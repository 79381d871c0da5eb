use Rattle.std.proofs.Common.{◌∙◌, sym}
use Rattle.cert_check_jobs.proofs.Sought.{no_place, place_found, place_passed}
use Rattle.cert_check_jobs.proofs.points.place_node.Goals as goal

pub returns-then-is_same : goal.returns-then-is_same
returns-then-is_same c =
    sym (c.loop-index.invariant ∙ place_found c.args.place c.args.places.now c.loop-index.index _ c.loop-index-test.true (sym c.is_same.ensures ∙ c.if-is_same.true))

pub loop-index-preserved : goal.loop-index-preserved
loop-index-preserved c =
    c.loop-index.invariant ∙ place_passed c.args.place c.args.places.now c.loop-index.index _ c.loop-index-test.true (sym c.is_same.ensures ∙ c.if-is_same.false)

pub returns : goal.returns
returns c = sym (c.loop-index.invariant ∙ no_place c.args.place c.args.places.now c.loop-index.index c.loop-index-test.false)
