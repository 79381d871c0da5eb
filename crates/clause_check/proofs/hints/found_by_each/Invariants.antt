use Rattle.std.proofs.Common.{◌≡◌, List, take}
use Rattle.clause_check_spec.specs.declared.Literal.{Literal}
use Rattle.clause_check_spec.specs.Step.{finding}
use Rattle.clause_check.specs.Signs.{Reports}
use Rattle.clause_check.specs.Answers.{reported, IsOpen}
use Rattle.clause_check.proofs.hints.found_by_each.Given as goal

abbrev pub invariant-loop-literal : goal.invariant-loop-literal
invariant-loop-literal l = record {
  seen : (truths : List Literal) → Reports l.stamps truths → reported l.seen ≡ finding truths (take l.literal-index l.clause);
  open_literal : IsOpen l.stamps l.seen;
}
