use Rattle.std.proofs.Common.{refl}
use Rattle.term_core_spec.specs.Same.{same_term}
use Rattle.term_core_spec.specs.Substitution.{substituted}
use Rattle.visit_walk_spec.specs.Visits.{edges_of}
use Rattle.path_cond_spec.specs.Conditions.{chosen, merged, assigned, conditionals}
use Rattle.path_cond_spec.proofs.samples.a_diamond_has_these_conditions.Goals as goal

pub returns-clause-conditions : goal.returns-clause-conditions
unfolding same_term substituted edges_of chosen merged assigned conditionals
returns-clause-conditions c = refl

pub returns-clause-before : goal.returns-clause-before
unfolding same_term substituted edges_of chosen merged assigned conditionals
returns-clause-before c = refl

pub returns-clause-merged : goal.returns-clause-merged
unfolding same_term substituted edges_of chosen merged assigned conditionals
returns-clause-merged c = refl
