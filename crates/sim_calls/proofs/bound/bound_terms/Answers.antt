use Rattle.std.proofs.Common.{ℕ, List, ap}
use Rattle.std.specs.Map.{lookup}
use Rattle.term_core_spec.specs.declared.Variable.{Variable}
use Rattle.term_core_spec.specs.Same.{same_variable}
use Rattle.sim_calls.proofs.bound.bound_terms.Goals as goal

pub add_bound-requires-clause-empty : goal.add_bound-requires-clause-empty
add_bound-requires-clause-empty c = λ v. ap (λ (entries : List (Variable × ℕ)). lookup (same_variable v) entries) c.new-terms.ensures.empty
