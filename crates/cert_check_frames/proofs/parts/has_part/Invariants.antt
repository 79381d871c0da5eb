use Rattle.cert_check_frames.proofs.Indexed.{NoneSoFar}
use Rattle.cert_check_frames.proofs.parts.has_part.Given as goal

abbrev pub invariant-loop-part : goal.invariant-loop-part
invariant-loop-part l = NoneSoFar l.listed l.parts l.name l.part-index
