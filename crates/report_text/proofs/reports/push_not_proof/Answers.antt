use Rattle.std.proofs.Common.{◌≡◌, subst, codes}
use Rattle.std.specs.Prelude.{OnOk, decimal}
use Rattle.report_text_spec.specs.Words as words
use Rattle.report_text.proofs.Texts.{line_of_six}
use Rattle.report_text.proofs.reports.push_not_proof.Goals as goal

pub returns : goal.returns
returns c =
    subst (λ text. OnOk c.push_all-3.result (c.push_all-3.new.out.items ≡ text))
    (line_of_six c.args.out.now.items (codes "not a proof ") c.args.name.now (codes " at ") (decimal c.args.offset) (codes " ") (words.rule_word c.args.rule) c.digits-number.result.now
    c.rule_word.result.now c.push_all.new.out.items c.push_all-2.new.out.items c.in_ok-push_all.ensures c.in_ok-push_all-2.ensures c.digits-number.ensures c.rule_word.ensures)
    c.push_all-3.ensures
