-- The visits that a rule speaks of, of the code as the definitions have them.
use Rattle.std.specs.Prelude.{◌+◌, ◌&&◌, not, Bool, List, length}
use Rattle.graph_core_spec.specs.declared.Mark.{Mark}
use Rattle.visit_walk_spec.specs.Visits.{Visit, ends_at_stop}
use Rattle.sim_rules_spec.specs.Sides.{returns, fails, arrives}
use Rattle.sim_rules_terms.specs.declared.which.Which.{Which}
use Rattle.sim_rules_terms.specs.declared.which.Which.TheVariants.{Returns, Fails, Arrives, Breaks}

-- whether a visit is one of them, where the walk has these stops
abbrev pub test_of : List Mark → Which → Visit → Bool
test_of stops Returns = returns
test_of stops Fails = fails
test_of stops (Arrives m index) = arrives m index
test_of stops (Breaks m index) = λ v. not (ends_at_stop stops v) && arrives m (length stops + index) v
