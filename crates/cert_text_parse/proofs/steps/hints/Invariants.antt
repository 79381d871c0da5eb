use Rattle.std.proofs.Common.{length}
use Rattle.cert_text_parse.proofs.Lists.{HintsLeft}
use Rattle.cert_text_parse.proofs.steps.hints.Given as goal

abbrev pub invariant-loop-next : goal.invariant-loop-next
invariant-loop-next l = HintsLeft l.initial.cursor.rest.now l.initial.list.items l.list.items l.cursor.rest.now

abbrev pub decreases-loop-next : goal.decreases-loop-next
decreases-loop-next l = length l.cursor.rest.now
