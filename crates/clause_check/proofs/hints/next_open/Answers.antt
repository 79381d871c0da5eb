use Rattle.std.proofs.Common.{rules, ◌≡◌, ◌∙◌, true, arith}
use Rattle.std.specs.Prelude.{not}
use Rattle.clause_check.specs.Signs.{is_sign, sign_of}
use Rattle.clause_check.proofs.Passing.{found_past}
use Rattle.clause_check.proofs.hints.next_open.Goals as goal

pub loop-index-preserved : goal.loop-index-preserved
loop-index-preserved c =
    let below = c.loop-index-test.true in
    let literal = c.index-clause-index.result in
    let sign : is_sign (sign_of c.args.stamps.now literal) (not literal.is_negated) ≡ true = search rules in
    record {
      within = omega (arith, below);
      passed = λ truths front reports.
          c.loop-index.invariant.passed truths front reports
          ∙ found_past c.args.stamps.now truths front c.args.clause.now c.loop-index.index literal reports c.requires.named below c.index-clause-index.is sign;
    }
