use Rattle.std.proofs.Common.{◌≡◌, ◌++◌, drop}
use Rattle.cert_text.specs.Certificates.{lines_of, text_of}
use Rattle.cert_text.proofs.writing.push_lines.Given as goal

abbrev pub invariant-loop-line : goal.invariant-loop-line
invariant-loop-line l =
    l.out.items ++ text_of (lines_of (drop l.line-index l.lines) l.left.literals.now l.left.hints.now) ≡ l.initial.out.items ++ text_of (lines_of l.lines l.initial.left.literals.now l.initial.left.hints.now)
