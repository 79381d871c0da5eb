use Rattle.std.proofs.Common.{◌∙◌, ◌∷◌, [], ◌++◌, List, ap}
use Rattle.cert_text_spec.specs.Lines.{Line, Header, End}
use Rattle.prove_run.specs.Written.{parts_of}
use Rattle.prove_run.proofs.Adding.{whole_lines}
use Rattle.prove_run.proofs.Listing.{same_parts}
use Rattle.prove_run.proofs.writing.certificate.Goals as goal

pub returns-2 : goal.returns-2
returns-2 c = λ functions are.
    whole_lines _ c.add_all.new.cert (Header ∷ (parts_of c.args.listed.now c.args.found.now ++ End ∷ [])) c.new.ensures.items c.new-2.ensures.items c.new-3.ensures.items c.in-Ok-attempt.ensures
    ∙ ap (λ (l : List Line). Header ∷ (l ++ End ∷ [])) (same_parts c.args.listed.now functions c.args.found.now are)
