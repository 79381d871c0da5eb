use Rattle.std.proofs.Common.{true, false, sym, ◌∙◌}
use Rattle.clause_check.specs.Signs.{sign_of}
use Rattle.clause_check.proofs.Passing.{alone_true, alone_forced}
use Rattle.clause_check.proofs.Reported.{true_by_sign, not_false_by_sign, no_sign}
use Rattle.clause_check.proofs.hints.found_alone.Goals as goal

pub returns-then-is_true-clause-reported : goal.returns-then-is_true-clause-reported
returns-then-is_true-clause-reported c = λ truths reports.
    sym (alone_true truths c.args.literal
    (true_by_sign c.args.stamps.now truths c.args.literal true reports c.requires.named (sym c.is_true.ensures ∙ c.if-is_true.true)))

pub returns-clause-reported : goal.returns-clause-reported
returns-clause-reported c = λ truths reports.
    sym (alone_forced truths c.args.literal
    (true_by_sign c.args.stamps.now truths c.args.literal false reports c.requires.named (sym c.is_true.ensures ∙ c.if-is_true.false))
    (not_false_by_sign c.args.stamps.now truths c.args.literal false reports c.requires.named c.requires.not_false))

pub returns-clause-open : goal.returns-clause-open
returns-clause-open c =
    (c.requires.named, no_sign (sign_of c.args.stamps.now c.args.literal) c.args.literal.is_negated c.requires.not_false (sym c.is_true.ensures ∙ c.if-is_true.false))
