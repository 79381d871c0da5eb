use Rattle.std.proofs.Common.{◌∙◌}
use Rattle.sim_rules.proofs.Added.{with_stops}
use Rattle.sim_rules.proofs.marks.stops_of.Goals as goal

pub returns-3 : goal.returns-3
returns-3 c = c.in-Ok-attempt-2.ensures ∙ with_stops c.args.change c.new-stops.result.items c.add_hold.new.marks.items _ c.new-stops.ensures.items c.in-Ok-attempt.ensures
