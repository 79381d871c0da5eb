use Rattle.std.proofs.Common.{◌≡◌, ◌++◌, subst}
use Rattle.std.specs.Prelude.{OnOk, flat_map}
use Rattle.report_text_spec.specs.Report.{code_line, word_line}
use Rattle.report_text.specs.Shown.{shown_of}
use Rattle.report_text.proofs.ShowTexts.{shown_is}
use Rattle.report_text.proofs.showing.push_shown.Goals as goal

pub returns-3 : goal.returns-3
returns-3 c =
    let shown = c.args.shown.now in
    subst (λ text. OnOk c.push_source.result (c.push_source.new.out.items ≡ text))
    (shown_is c.args.out.now.items (shown_of shown) c.push_code.new.out.items c.push_words.new.out.items
    (subst (λ name. c.push_code.new.out.items ≡ c.args.out.now.items ++ code_line name shown.entry shown.size shown.stack) c.as_slice.ensures
    c.in-Ok-attempt.ensures)
    (subst (λ words. c.push_words.new.out.items ≡ c.push_code.new.out.items ++ flat_map word_line words) c.as_slice-2.ensures.value
    c.in-Ok-attempt-2.ensures))
    c.push_source.ensures
