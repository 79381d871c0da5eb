use Rattle.std.proofs.Common.{◌≡◌, subst, codes}
use Rattle.std.specs.Prelude.{OnOk}
use Rattle.report_text.proofs.Texts.{words_are}
use Rattle.report_text.proofs.reports.push_named.Goals as goal

pub returns : goal.returns
returns c =
    subst (λ text. OnOk c.push_all.result (c.push_all.new.out.items ≡ text))
    (words_are c.args.out.now.items c.args.first.now c.args.word.now (codes " ") c.args.name.now c.args.last.now) c.push_all.ensures
