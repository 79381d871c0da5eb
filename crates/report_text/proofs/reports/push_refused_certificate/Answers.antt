use Rattle.std.proofs.Common.{◌≡◌, ◌++◌, ◌∷◌, [], ap, subst, codes, ◌∙◌}
use Rattle.std.specs.Prelude.{OnOk, decimal}
use Rattle.report_text.proofs.Texts.{line_of_two}
use Rattle.report_text.proofs.reports.push_refused_certificate.Goals as goal

pub returns : goal.returns
returns c =
    subst (λ text. OnOk c.push_all.result (c.push_all.new.out.items ≡ text))
    (ap (λ number. c.args.out.now.items ++ (codes "cert refused at " ++ (number ++ 10 ∷ []))) c.digits-number.ensures
    ∙ line_of_two c.args.out.now.items (codes "cert refused at ") (decimal c.args.offset)) c.push_all.ensures
