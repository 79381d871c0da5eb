use Rattle.std.proofs.Common.{◌≡◌, subst, codes}
use Rattle.std.specs.Prelude.{OnOk, decimal}
use Rattle.report_text_spec.specs.Words as words
use Rattle.report_text.proofs.Texts.{line_of_four}
use Rattle.report_text.proofs.reports.push_refused_elf.Goals as goal

pub returns : goal.returns
returns c =
    subst (λ text. OnOk c.push_all.result (c.push_all.new.out.items ≡ text))
    (line_of_four c.args.out.now.items (codes "refused elf ") (words.elf_word c.args.kind) (codes " at ") (decimal c.args.offset) c.elf_word.result.now c.digits-number.result.now c.elf_word.ensures c.digits-number.ensures) c.push_all.ensures
