use Rattle.std.proofs.Common.{length}
use Rattle.cert_text_parse.proofs.Paths.{BinaryLeft}
use Rattle.cert_text_parse.proofs.points.binary_path.Given as goal

abbrev pub invariant-loop-step : goal.invariant-loop-step
invariant-loop-step l = BinaryLeft l.end l.initial.cursor.rest.now l.path.items l.cursor.rest.now

abbrev pub decreases-loop-step : goal.decreases-loop-step
decreases-loop-step l = length l.cursor.rest.now
