use Rattle.std.proofs.Common.{rules}
use Rattle.clause_check.proofs.Stamped.{none_at_first, stamps_at_first}
use Rattle.clause_check.proofs.stamps.Stamps.new.Goals as goal

pub returns : goal.returns
returns c = none_at_first c.in_ok-stamps.stamps.items c.in_ok-count.count c.args.variables (c.in_ok-stamps.ensures.items_if_clones_equal (search rules)) c.in_ok-count.ensures

pub invariant_of-result : goal.invariant_of-result
invariant_of-result c = stamps_at_first c.in_ok-stamps.stamps.items c.in_ok-count.count (c.in_ok-stamps.ensures.items_if_clones_equal (search rules))
