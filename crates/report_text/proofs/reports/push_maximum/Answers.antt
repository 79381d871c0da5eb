use Rattle.std.proofs.Common.{◌≡◌, subst, codes, refl}
use Rattle.std.specs.Prelude.{OnOk, decimal}
use Rattle.report_text.proofs.Texts.{line_of_four}
use Rattle.report_text.proofs.reports.push_maximum.Goals as goal

pub returns : goal.returns
returns c =
    subst (λ text. OnOk c.push_all.result (c.push_all.new.out.items ≡ text))
    (line_of_four c.args.out.now.items (codes "limit ") c.args.word.now (codes " ") (decimal c.args.maximum) c.args.word.now c.digits-number.result.now refl c.digits-number.ensures) c.push_all.ensures
