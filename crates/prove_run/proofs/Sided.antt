-- The trail of a side whose walk from a function's entry has no list of visits.
use Rattle.std.proofs.Common.{ℕ}
use Rattle.sim_rules_spec.specs.Obligations as rule
use Rattle.sim_rules_spec.specs.Obligations.{IsCyclicOn, IsLargeOn}
use Rattle.sim_rules_spec.specs.declared.Side.{Side}
use Rattle.sim_rules_spec.specs.declared.Side.TheVariants.{Binary, Source}
use Rattle.tv_limits.specs.declared.TheConstants.{MAX_VISITS}
use Rattle.cert_check_spec.specs.Verdict.{Listed}
use Rattle.prove_run_spec.specs.declared.Measure.TheVariants.{Visits}
use Rattle.prove_run_spec.specs.Trails.{IsTrail, Later, Large}

pub goes_round : (f : Listed) (side : Side) (node : ℕ) → IsCyclicOn f.opening f.frame rule.Leaf side node → IsTrail f (Later side node)
goes_round f Binary node h = h
goes_round f Source node h = h

pub has_many : (f : Listed) (side : Side) (count : ℕ) → IsLargeOn f.opening f.frame MAX_VISITS rule.Leaf side count → IsTrail f (Large (Visits side) count)
has_many f Binary count h = record { binary = h.0; source = h.1; many = h.2 }
has_many f Source count h = record { binary = h.0; source = h.1; many = h.2 }
