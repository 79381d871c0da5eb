use Rattle.std.proofs.Common.{◌-◌}
use Rattle.sat_search_spec.specs.Watches.{IsRunning}
use Rattle.sat_search_state.specs.Visits.{IsSameLevel}
use Rattle.sat_search_state.proofs.propagation.propagate.Given as goal

abbrev pub invariant-loop-trail : goal.invariant-loop-trail
invariant-loop-trail l = record { running : IsRunning l.clauses.clauses l.trail l.watches; level : IsSameLevel l.initial.trail l.trail }

abbrev pub decreases-loop-trail : goal.decreases-loop-trail
decreases-loop-trail l = l.trail.variables - l.watches.head
