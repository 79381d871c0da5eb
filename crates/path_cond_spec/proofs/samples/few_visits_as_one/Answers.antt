use Rattle.std.proofs.Common.{refl}
use Rattle.term_core_spec.specs.Same.{same_term}
use Rattle.term_core_spec.specs.Substitution.{substituted}
use Rattle.visit_walk_spec.specs.Visits.{edges_of}
use Rattle.path_cond_spec.specs.Conditions.{chosen, merged, assigned, conditionals}
use Rattle.path_cond_spec.proofs.samples.few_visits_as_one.Goals as goal

pub returns-clause-none : goal.returns-clause-none
unfolding same_term substituted edges_of chosen merged assigned conditionals
returns-clause-none c = refl

pub returns-clause-one : goal.returns-clause-one
unfolding same_term substituted edges_of chosen merged assigned conditionals
returns-clause-one c = refl

pub returns-clause-two : goal.returns-clause-two
unfolding same_term substituted edges_of chosen merged assigned conditionals
returns-clause-two c = refl
