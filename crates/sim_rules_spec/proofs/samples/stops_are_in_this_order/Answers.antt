use Rattle.std.proofs.Common.{refl}
use Rattle.term_core_spec.specs.Same.{same_term}
use Rattle.term_core_spec.specs.Substitution.{substituted}
use Rattle.visit_walk_spec.specs.Visits.{edges_of}
use Rattle.path_cond_spec.specs.Conditions.{assigned, chosen, conditionals, merged}
use Rattle.sim_rules_spec.proofs.samples.stops_are_in_this_order.Goals as goal

pub returns : goal.returns
unfolding same_term substituted edges_of assigned chosen conditionals merged
returns c = refl
