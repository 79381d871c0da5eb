use Rattle.std.proofs.Common.{◌∙◌, ◌++◌, ℕ, List, ap, take}
use Rattle.cert_text.specs.Certificates.{text_of, lines_of}
use Rattle.cert_text.proofs.Prefixes.{prefix_length, spelled_first}
use Rattle.cert_text.proofs.offsets.offset.Goals as goal

-- the text is empty before the first line
pub returns-2 : goal.returns-2
returns-2 c =
    c.len.ensures
    ∙ c.push_lines.new.out.ok.0
    ∙ prefix_length c.args.line c.args.cert.now.lines.items c.args.cert.now.logs.literals.items c.args.cert.now.logs.hints.items c.push_lines.new.out.items
    (c.in-Ok-attempt.ensures
    ∙ ap (λ (old : List ℕ). old ++ text_of (lines_of (take c.args.line c.as_slice-3.result.now) c.as_slice.result.now c.as_slice-2.result.now)) c.new-text.ensures.items
    ∙ spelled_first c.args.line c.args.cert.now.lines.items c.as_slice-3.result.now c.args.cert.now.logs.literals.items c.as_slice.result.now c.args.cert.now.logs.hints.items c.as_slice-2.result.now
    c.as_slice-3.ensures.value c.as_slice.ensures.value c.as_slice-2.ensures.value)
