use Rattle.std.proofs.Common.{◌≡◌, subst}
use Rattle.std.specs.Prelude.{OnOk}
use Rattle.report_text.proofs.ShowTexts.{code_is}
use Rattle.report_text.proofs.showing.push_code.Goals as goal

pub returns-3 : goal.returns-3
returns-3 c =
    subst (λ text. OnOk c.push_sizes.result (c.push_sizes.new.out.items ≡ text))
    (code_is c.args.out.now.items c.args.name.now c.args.entry c.args.size c.args.stack c.push_all.new.out.items c.push_address.new.out.items
    c.in-Ok-attempt.ensures c.in-Ok-attempt-2.ensures)
    c.push_sizes.ensures
