use Rattle.std.proofs.Common.{◌∙◌, ◌∷◌, [], ℕ, List, ap, subst}
use Rattle.std.proofs.lemmas.Result.{on_ok_weaker}
use Rattle.cert_text_spec.specs.Lines.{Function}
use Rattle.cert_text_parse.specs.declared.lines.Part.{Part}
use Rattle.prove_run.specs.Written.{AddsLines}
use Rattle.prove_run.proofs.writing.add_function.Goals as goal

pub returns-3 : goal.returns-3
returns-3 c =
    on_ok_weaker c.add_line.result
    (λ h.
    subst (λ (name : List ℕ). AddsLines c.args.cert.now c.add_line.new.cert (Function name c.args.stack ∷ [])) c.in-Ok-attempt.ensures.items
    (subst (λ (p : Part). AddsLines c.args.cert.now c.add_line.new.cert (Function p.name.items p.stack ∷ [])) c.in-Ok-attempt-part.ensures.ok h))
    c.add_line.ensures
