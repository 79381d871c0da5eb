use Rattle.std.proofs.Common.{◌∷◌, ap, ◌∙◌, subst}
use Rattle.cert_text_spec.specs.Certificates.{AHeader, after}
use Rattle.cert_text_laws.specs.Readers.{read_items}
use Rattle.cert_text_laws.specs.Lines.{read_line}
use Rattle.cert_text.specs.Stack.{stack_of}
use Rattle.cert_text.specs.Outcomes.{ReadsLines}
use Rattle.cert_text.proofs.Groups.{none_stacked}
use Rattle.cert_text.proofs.reading.read_all.Goals as goal

pub returns : goal.returns
returns c =
    subst (λ expected. ReadsLines (read_items read_line after expected) c.args.cursor.now c.read_lines.new.cursor c.read_lines.new.cert c.read_lines.result)
    (c.in-Ok.ensures ∙ ap (λ s. AHeader ∷ stack_of s) c.new-stack.ensures.items ∙ ap (λ s. AHeader ∷ s) none_stacked) c.read_lines.ensures
