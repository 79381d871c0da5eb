use Rattle.std.proofs.Common.{◌∷◌, [], ℕ, subst, map}
use Rattle.std.proofs.lemmas.Result.{on_ok_weaker}
use Rattle.cert_text_spec.specs.Lines.{Log, LogStep}
use Rattle.prove_run.specs.Written.{AddsLines}
use Rattle.prove_run.proofs.Adding.{more_then}
use Rattle.prove_run.proofs.writing.add_log.Goals as goal

pub returns-3 : goal.returns-3
returns-3 c =
    on_ok_weaker c.add_steps.result
    (λ h.
    subst (λ (n : ℕ). AddsLines c.args.cert.now c.add_steps.new.cert (Log n ∷ map LogStep c.args.log.now)) c.in-Ok-attempt.ensures.number
    (more_then c.args.cert.now c.add_line.new.cert c.add_steps.new.cert (Log c.in-Ok-attempt.field-0 ∷ []) (map LogStep c.args.log.now) c.in-Ok-attempt-2.ensures h))
    c.add_steps.ensures
