use Rattle.std.proofs.Common.{length}
use Rattle.cert_text.specs.Stack.{stack_of}
use Rattle.cert_text.proofs.Additions.{LinesLeft}
use Rattle.cert_text.proofs.reading.read_lines.Given as goal

abbrev pub invariant-loop-next : goal.invariant-loop-next
invariant-loop-next l = LinesLeft (stack_of l.initial.stack.items) l.initial.cursor.rest.now l.cert l.stack.items l.cursor.rest.now

abbrev pub decreases-loop-next : goal.decreases-loop-next
decreases-loop-next l = length l.cursor.rest.now
