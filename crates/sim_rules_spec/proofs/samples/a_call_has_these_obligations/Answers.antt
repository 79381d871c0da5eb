use Rattle.std.proofs.Common.{refl}
use Rattle.term_core_spec.specs.Same.{same_term}
use Rattle.term_core_spec.specs.Substitution.{substituted}
use Rattle.path_cond_spec.specs.Conditions.{assigned}
use Rattle.sim_rules_spec.proofs.samples.a_call_has_these_obligations.Goals as goal

pub returns : goal.returns
unfolding same_term substituted assigned
returns c = refl
