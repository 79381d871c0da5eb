use Rattle.std.proofs.Common.{rules, ◌≡◌, ◌<◌, ◌∙◌, [], length, true}
use Rattle.std.specs.Prelude.{not}
use Rattle.clause_check.specs.Signs.{is_sign, sign_of}
use Rattle.clause_check.proofs.Passing.{found_past}
use Rattle.clause_check.proofs.hints.first_open.Goals as goal

pub returns-then-clause-lt2-clause-passed : goal.returns-then-clause-lt2-clause-passed
returns-then-clause-lt2-clause-passed c = λ truths reports. c.next_open.ensures.passed truths [] reports

pub returns-then-not-is_false-2-clause-passed : goal.returns-then-not-is_false-2-clause-passed
returns-then-not-is_false-2-clause-passed c = λ truths reports.
    let below : 0 < length c.args.clause.now = search rules in
    let sign : is_sign (sign_of c.args.stamps.now c.index-clause-0.result) (not c.index-clause-0.result.is_negated) ≡ true = search rules in
    found_past c.args.stamps.now truths [] c.args.clause.now 0 c.index-clause-0.result reports c.requires below c.index-clause-0.is sign

pub returns-clause-passed : goal.returns-clause-passed
returns-clause-passed c = λ truths reports.
    let below : 0 < length c.args.clause.now = search rules in
    let next : 1 < length c.args.clause.now = search rules in
    let sign : is_sign (sign_of c.args.stamps.now c.index-clause-0.result) (not c.index-clause-0.result.is_negated) ≡ true = search rules in
    let second : is_sign (sign_of c.args.stamps.now c.index-clause-1.result) (not c.index-clause-1.result.is_negated) ≡ true = search rules in
    found_past c.args.stamps.now truths [] c.args.clause.now 0 c.index-clause-0.result reports c.requires below c.index-clause-0.is sign
    ∙ found_past c.args.stamps.now truths [] c.args.clause.now 1 c.index-clause-1.result reports c.requires next c.index-clause-1.is second
    ∙ c.next_open-2.ensures.passed truths [] reports
