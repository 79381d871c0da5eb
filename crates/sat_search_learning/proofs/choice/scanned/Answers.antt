use Rattle.std.proofs.Common.{rules, ◌+◌}
use Rattle.sat_search_learning.specs.Search.{HasValue}
use Rattle.sat_search_learning.proofs.Values.{one_value_more}
use Rattle.sat_search_learning.proofs.choice.scanned.Goals as goal

pub loop-index-preserved : goal.loop-index-preserved
loop-index-preserved c =
    let one : HasValue c.args.trail.now (c.loop-index.index + 1) = search rules in
    one_value_more c.args.trail.now c.loop-index.index c.loop-index.invariant one
