use Rattle.std.proofs.Common.{◌≡◌, false, take}
use Rattle.std.specs.List.{list_any}
use Rattle.clause_check_spec.specs.Clause.{holds}
use Rattle.cnf_core.specs.Bits.{valuation}
use Rattle.cnf_core.proofs.evaluation.satisfies_clause.Given as goal

abbrev pub invariant-loop-literal : goal.invariant-loop-literal
invariant-loop-literal l = list_any (holds (valuation l.bits)) (take l.literal-index l.clause) ≡ false
