use Rattle.std.proofs.Common.{◌≡◌, subst, codes}
use Rattle.std.specs.Prelude.{OnOk, decimal}
use Rattle.report_text_spec.specs.Report.{total_line}
use Rattle.report_text.proofs.Texts.{line_of_four}
use Rattle.report_text.proofs.reports.push_total.Goals as goal

pub returns : goal.returns
unfolding total_line
returns c =
    subst (λ text. OnOk c.push_all.result (c.push_all.new.out.items ≡ text))
    (line_of_four c.args.out.now.items (codes "total valid=") (decimal c.args.valid) (codes " unproved=") (decimal c.args.unproved)
    c.digits-valid.result.now c.digits-unproved.result.now c.digits-valid.ensures c.digits-unproved.ensures)
    c.push_all.ensures
