use Rattle.std.proofs.Common.{length}
use Rattle.cert_text_parse.proofs.Goings.{TermLeft}
use Rattle.cert_text_parse.proofs.terms.symbols_into.Given as goal

abbrev pub invariant-loop-expected : goal.invariant-loop-expected
invariant-loop-expected l = TermLeft l.initial.cursor.rest.now l.symbols.items l.going l.cursor.rest.now

abbrev pub decreases-loop-expected : goal.decreases-loop-expected
decreases-loop-expected l = length l.cursor.rest.now
