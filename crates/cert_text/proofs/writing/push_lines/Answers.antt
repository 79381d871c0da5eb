use Rattle.std.proofs.Common.{◌++◌, rules}
use Rattle.cert_text.specs.Certificates.{lines_of, text_of}
use Rattle.cert_text.proofs.Texts.{next_spelled, all_spelled}
use Rattle.cert_text.proofs.writing.push_lines.Goals as goal

pub loop-line-preserved : goal.loop-line-preserved
loop-line-preserved c =
    next_spelled c.args.lines.now c.loop-line.line-index c.line-item.result c.loop-line.out.items c.push_next.new.out.items
    (c.args.out.now.items ++ text_of (lines_of c.args.lines.now c.args.left.now.literals.now c.args.left.now.hints.now))
    c.loop-line.left.literals.now c.push_next.new.left.literals.now c.loop-line.left.hints.now c.push_next.new.left.hints.now
    c.loop-line-test.true c.line-item.is c.push_next.ensures.rest.literals_left c.push_next.ensures.rest.hints_left (search rules) c.loop-line.invariant

pub returns : goal.returns
returns c =
    all_spelled c.args.lines.now c.loop-line.line-index c.loop-line.out.items (c.args.out.now.items ++ text_of (lines_of c.args.lines.now c.args.left.now.literals.now c.args.left.now.hints.now))
    c.loop-line.left.literals.now c.loop-line.left.hints.now c.loop-line-test.false c.loop-line.invariant
