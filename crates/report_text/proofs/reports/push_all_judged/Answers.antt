use Rattle.std.proofs.Common.{arith, not}
use Rattle.std.proofs.lemmas.Grind.{common_steps}
use Rattle.report_text_spec.specs.Report.{judgements_text}
use Rattle.report_text.proofs.Texts.{lines_are, counts_are}
use Rattle.report_text.proofs.reports.push_all_judged.Goals as goal

pub returns : goal.returns
unfolding judgements_text
returns c =
    rw (lines_are c.args.judgements.now, counts_are (λ j. j.valid) c.args.judgements.now, counts_are (λ j. not j.valid) c.args.judgements.now)
    (grind (arith, common_steps))
