use Rattle.std.proofs.Common.{◌≡◌, true, take}
use Rattle.std.specs.List.{list_all}
use Rattle.clause_check_spec.specs.Clause.{satisfies_clause}
use Rattle.cnf_core.specs.Bits.{valuation}
use Rattle.cnf_core.proofs.evaluation.eval.Given as goal

abbrev pub invariant-loop-index : goal.invariant-loop-index
invariant-loop-index l = list_all (satisfies_clause (valuation l.bits)) (take l.index l.cnf.clauses) ≡ true
