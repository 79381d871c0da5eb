use Rattle.report_text_spec.specs.Report as texts
use Rattle.report_text.specs.Judgements.{judgement_of}
use Rattle.report_text.proofs.Texts.{more_lines}
use Rattle.report_text.proofs.reports.push_lines.Goals as goal

pub loop-judgement-preserved : goal.loop-judgement-preserved
loop-judgement-preserved c =
    more_lines (λ j. texts.judgement_line (judgement_of j)) c.args.judgements.now c.loop-judgement.judgement-index c.judgement-item.result c.args.out.now.items
    c.loop-judgement.out.items c.push_judged.new.out.items c.loop-judgement-test.true c.judgement-item.is c.loop-judgement.invariant c.in_ok-push_judged.ensures
