use Rattle.std.proofs.Common.{◌≡◌, ◌⊎◌, length, take}
use Rattle.clause_check_spec.specs.declared.Literal.{Literal}
use Rattle.clause_check_spec.specs.Clause.{negation}
use Rattle.sat_search_spec.specs.Clauses.{Has}
use Rattle.sat_search_spec.specs.Trail.{IsTrueBefore}
use Rattle.sat_search_spec.specs.Analysis.{IsMarking}
use Rattle.sat_search_analysis.proofs.marks.mark_clause.Given as goal

abbrev pub invariant-loop-literal : goal.invariant-loop-literal
invariant-loop-literal l =
    ((m : Literal) → Has l.clause m → (m ≡ l.excepted) ⊎ IsTrueBefore l.trail.entries (length l.trail.entries) (negation m))
    → IsMarking l.trail.entries (take l.literal-index l.clause) l.excepted l.initial.marks l.marks
