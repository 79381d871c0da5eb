use Rattle.std.proofs.Common.{◌<◌, ◌≤◌, ◌∙◌, ℕ, length, drop, arith, refl, ap}
use Rattle.cert_check.proofs.Lined.{at_start, line_read, can_be_next, given_more, is_wrong, all_given}
use Rattle.cert_check.proofs.certificate.first_fault.Goals as goal

pub loop-index-init : goal.loop-index-init
loop-index-init c =
    at_start c.args.checker.now.listed.now c.args.cert.now c.args.checker.now c.as_slice-literals.result.now c.as_slice-hints.result.now refl c.requires.nothing c.requires.lines
    c.as_slice-literals.ensures.value c.as_slice-hints.ensures.value

pub line-requires : goal.line-requires
line-requires c =
    let within : c.loop-index.index < length c.args.cert.now.lines.items = omega (arith, c.loop-index-test.true, c.args.cert.now.lines.ok.0) in
    let literals = c.loop-index.literals.now in
    let hints = c.loop-index.hints.now in
    let at_line = line_read c.args.cert.now literals hints c.loop-index.index c.index-line.result.now within c.index-line.ensures c.loop-index.invariant.left in
    can_be_next c.args.checker.now.listed.now c.args.cert.now c.loop-index.checker literals hints c.loop-index.index c.index-line.result.now c.loop-index.invariant at_line

pub loop-index-preserved : goal.loop-index-preserved
loop-index-preserved c =
    let within : c.loop-index.index < length c.args.cert.now.lines.items = omega (arith, c.loop-index-test.true, c.args.cert.now.lines.ok.0) in
    let literals = c.loop-index.literals.now in
    let hints = c.loop-index.hints.now in
    let at_line = line_read c.args.cert.now literals hints c.loop-index.index c.index-line.result.now within c.index-line.ensures c.loop-index.invariant.left in
    given_more c.args.checker.now.listed.now c.args.cert.now c.loop-index.checker literals hints c.loop-index.index c.index-line.result.now c.loop-index.invariant at_line
    c.line.new.self c.in-Ok-attempt.ensures c.rest-literals.result.now c.rest-hints.result.now
    (c.rest-literals.ensures ∙ ap (λ (n : ℕ × ℕ). drop n.0 literals) c.counts-literal_count.ensures) (c.rest-hints.ensures ∙ ap (λ (n : ℕ × ℕ). drop n.1 hints) c.counts-literal_count.ensures)

pub returns-in-loop-index : goal.returns-in-loop-index
returns-in-loop-index c =
    let within : c.loop-index.index < length c.args.cert.now.lines.items = omega (arith, c.loop-index-test.true, c.args.cert.now.lines.ok.0) in
    let literals = c.loop-index.literals.now in
    let hints = c.loop-index.hints.now in
    let at_line = line_read c.args.cert.now literals hints c.loop-index.index c.index-line.result.now within c.index-line.ensures c.loop-index.invariant.left in
    is_wrong c.args.checker.now.listed.now c.args.cert.now c.loop-index.checker literals hints c.loop-index.index c.index-line.result.now c.loop-index.invariant at_line
    c.line.new.self within c.index-line.ensures _ c.in-Err-attempt.ensures

pub returns : goal.returns
returns c =
    let past : length c.args.cert.now.lines.items ≤ c.loop-index.index = omega (arith, c.loop-index-test.false, c.args.cert.now.lines.ok.0) in
    all_given c.args.checker.now.listed.now c.args.cert.now c.loop-index.checker c.loop-index.literals.now c.loop-index.hints.now c.loop-index.index past c.loop-index.invariant
