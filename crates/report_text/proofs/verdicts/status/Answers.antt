use Rattle.std.proofs.Common.{true, false, sym, ◌∙◌}
use Rattle.report_text.proofs.Texts.{judged_status}
use Rattle.report_text.proofs.verdicts.status.Goals as goal

pub returns-then-all_valid : goal.returns-then-all_valid
returns-then-all_valid c =
    sym (judged_status _ _ _ true c.in-Judged.is c.deref.ensures.value (sym c.all_valid.ensures ∙ c.if-all_valid.true))

pub returns-else-all_valid : goal.returns-else-all_valid
returns-else-all_valid c =
    sym (judged_status _ _ _ false c.in-Judged.is c.deref.ensures.value (sym c.all_valid.ensures ∙ c.if-all_valid.false))
