use Rattle.std.proofs.Common.{◌∙◌, ap, sym}
use Rattle.pair_setup_calls.specs.Names.{texts_of}
use Rattle.report_text_spec.specs.Verdict.{Checked}
use Rattle.tv_core.specs.Listed.{outcome_verdict}
use Rattle.tv_core.proofs.functions.certificate_verdict.Goals as goal

pub returns-in-Ok-attempt : goal.returns-in-Ok-attempt
returns-in-Ok-attempt c = ap Checked c.in-Ok-attempt.ensures ∙ sym (ap (outcome_verdict (texts_of c.args.list.now) c.args.functions.now) c.in-Proof.is)
