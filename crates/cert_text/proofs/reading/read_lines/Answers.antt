use Rattle.std.proofs.Common.{refl, subst}
use Rattle.cert_text.specs.Stack.{stack_of, IsNext}
use Rattle.cert_text.proofs.Additions.{lines_start, lines_next, next_shorter, lines_fail}
use Rattle.cert_text.proofs.reading.read_lines.Goals as goal

pub loop-next-init : goal.loop-next-init
loop-next-init c = lines_start (stack_of c.args.stack.now.items) c.args.cursor.now.rest.now c.args.cert.now c.args.stack.now.items c.requires refl

pub loop-next-smaller : goal.loop-next-smaller
loop-next-smaller c =
    next_shorter (stack_of c.args.stack.now.items) c.args.cursor.now.rest.now c.loop-next.cert c.loop-next.stack.items c.loop-next.cursor.rest.now c.loop-next.invariant
    c.in-Some.expected c.next_expected.new.stack.items (subst (λ n. IsNext n c.loop-next.stack.items c.next_expected.new.stack.items) c.in-Some.is c.in-Ok.ensures)
    c.loop-next.cursor c.add_line.new.cursor refl c.add_line.new.cert c.add_line.new.stack.items c.in-Ok-add_line.ensures

pub loop-next-preserved : goal.loop-next-preserved
loop-next-preserved c =
    lines_next (stack_of c.args.stack.now.items) c.args.cursor.now.rest.now c.loop-next.cert c.loop-next.stack.items c.loop-next.cursor.rest.now c.loop-next.invariant
    c.in-Some.expected c.next_expected.new.stack.items (subst (λ n. IsNext n c.loop-next.stack.items c.next_expected.new.stack.items) c.in-Some.is c.in-Ok.ensures)
    c.loop-next.cursor c.add_line.new.cursor refl c.add_line.new.cert c.add_line.new.stack.items c.in-Ok-add_line.ensures

pub returns-in-Err-add_line : goal.returns-in-Err-add_line
returns-in-Err-add_line c =
    lines_fail (stack_of c.args.stack.now.items) c.args.cursor.now.rest.now c.loop-next.cert c.loop-next.stack.items c.loop-next.cursor.rest.now c.loop-next.invariant
    c.in-Some.expected c.next_expected.new.stack.items (subst (λ n. IsNext n c.loop-next.stack.items c.next_expected.new.stack.items) c.in-Some.is c.in-Ok.ensures)
    c.args.cursor.now c.loop-next.cursor c.add_line.new.cursor refl refl c.add_line.new.cert c.in-Err-add_line.stopped c.next_expected.new.stack.items c.add_line.new.stack.items c.loop-next.cert c.add_line.new.cert
    c.in-Err-add_line.ensures
