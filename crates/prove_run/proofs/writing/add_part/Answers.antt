use Rattle.std.proofs.Common.{◌∙◌, ◌∷◌, [], ℕ, ◌++◌, subst, sym, ap, length}
use Rattle.std.proofs.lemmas.List.{length-map}
use Rattle.std.proofs.lemmas.Result.{on_ok_weaker}
use Rattle.cert_text_spec.specs.Lines.{Function, Leaf}
use Rattle.prove_run_spec.specs.Written.{logs_lines}
use Rattle.prove_run.specs.Found.{logs_of}
use Rattle.prove_run.specs.Written.{AddsLines}
use Rattle.prove_run.proofs.Adding.{more_then}
use Rattle.prove_run.proofs.writing.add_part.Goals as goal

pub returns-4 : goal.returns-4
returns-4 c =
    on_ok_weaker c.add_logs.result
    (λ h.
    subst
    (λ (n : ℕ). AddsLines c.args.cert.now c.add_logs.new.cert (Function c.args.function.now.name.now c.args.function.now.stack ∷ Leaf n ∷ logs_lines (logs_of c.args.logs.now)))
    (c.in-Ok-attempt.ensures.number ∙ sym (length-map c.args.logs.now _))
    (more_then c.args.cert.now c.add_function.new.cert c.add_logs.new.cert (Function c.args.function.now.name.now c.args.function.now.stack ∷ [])
    (Leaf c.in-Ok-attempt.field-0 ∷ logs_lines (logs_of c.args.logs.now)) c.in-Ok-attempt-2.ensures
    (more_then c.add_function.new.cert c.add_line.new.cert c.add_logs.new.cert (Leaf c.in-Ok-attempt.field-0 ∷ []) (logs_lines (logs_of c.args.logs.now)) c.in-Ok-attempt-3.ensures h)))
    c.add_logs.ensures
