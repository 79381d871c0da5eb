use Rattle.std.proofs.Common.{◌≡◌, ◌++◌, drop}
use Rattle.sim_rules_spec.specs.Sides.{members, members_from}
use Rattle.sim_rules_terms.specs.Which.{test_of}
use Rattle.sim_rules_terms.proofs.which.find_members.Given as goal

abbrev pub invariant-loop-position : goal.invariant-loop-position
invariant-loop-position l =
    l.members.items ++ members_from l.position (test_of l.stops l.which) (drop l.position l.visits.visits) ≡ members (test_of l.stops l.which) l.visits.visits
