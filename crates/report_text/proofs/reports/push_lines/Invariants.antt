use Rattle.std.proofs.Common.{◌≡◌, ◌++◌, take}
use Rattle.std.specs.Prelude.{flat_map}
use Rattle.report_text_spec.specs.Report as texts
use Rattle.report_text.specs.Judgements.{judgement_of}
use Rattle.report_text.proofs.reports.push_lines.Given as goal

abbrev pub invariant-loop-judgement : goal.invariant-loop-judgement
invariant-loop-judgement l = l.out.items ≡ l.initial.out.items ++ flat_map (λ j. texts.judgement_line (judgement_of j)) (take l.judgement-index l.judgements)
