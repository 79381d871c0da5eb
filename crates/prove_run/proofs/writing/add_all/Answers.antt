use Rattle.std.proofs.Common.{◌∷◌, [], ◌++◌}
use Rattle.std.proofs.lemmas.Result.{on_ok_weaker}
use Rattle.cert_text_spec.specs.Lines.{Header, End}
use Rattle.prove_run.specs.Written.{parts_of}
use Rattle.prove_run.proofs.Adding.{more_then}
use Rattle.prove_run.proofs.writing.add_all.Goals as goal

pub returns-3 : goal.returns-3
returns-3 c =
    on_ok_weaker c.add_line-2.result
    (λ h.
    more_then c.args.cert.now c.add_line.new.cert c.add_line-2.new.cert (Header ∷ []) (parts_of c.args.listed.now c.args.found.now ++ End ∷ []) c.in-Ok-attempt.ensures
    (more_then c.add_line.new.cert c.add_parts.new.cert c.add_line-2.new.cert (parts_of c.args.listed.now c.args.found.now) (End ∷ []) c.in-Ok-attempt-2.ensures h))
    c.add_line-2.ensures
