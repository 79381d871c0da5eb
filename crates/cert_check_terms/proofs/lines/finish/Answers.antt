use Rattle.std.proofs.Common.{sym, ap, subst, ◌∙◌, ◌==◌, None, if◌then◌else◌, length}
use Rattle.cert_check_terms.specs.Reading as spec
use Rattle.cert_check_terms.specs.Views.{entries_of, AreInside}
use Rattle.cert_check_terms.specs.Outcomes.{Finds}
use Rattle.cert_check_terms.proofs.lines.finish.Goals as goal

pub returns-then-is_empty : goal.returns-then-is_empty
returns-then-is_empty c = λ trees inside.
    subst (λ b. Finds trees (if b then spec.only (entries_of trees c.args.reading.now.entries.items) else None) c.only.result)
    (sym (ap (λ n. n == 0) (sym c.args.reading.now.calls.ok.0) ∙ (sym c.is_empty.ensures ∙ c.if-is_empty.true)))
    (subst (λ es. Finds trees (spec.only (entries_of trees es)) c.only.result) c.as_slice.ensures.value
    (c.only.ensures trees (subst (AreInside (length trees)) (sym c.as_slice.ensures.value) inside)))
