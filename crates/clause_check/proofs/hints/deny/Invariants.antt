use Rattle.std.proofs.Common.{◌≡◌, true, length, map, take}
use Rattle.clause_check_spec.specs.Clause.{negation}
use Rattle.clause_check_spec.specs.Step.{are_fit}
use Rattle.clause_check.specs.Signs.{Reports}
use Rattle.clause_check.proofs.hints.deny.Given as goal

abbrev pub invariant-loop-literal : goal.invariant-loop-literal
invariant-loop-literal l = record {
  fit : are_fit (length l.initial.stamps) (take l.literal-index l.literals) ≡ true;
  reported : Reports l.stamps (map negation (take l.literal-index l.literals));
  len : length l.stamps ≡ length l.initial.stamps;
}
