use Rattle.cert_check_frames.specs.Parts.{HaveParts}
use Rattle.cert_check_frames.proofs.parts.missing.Given as goal

abbrev pub invariant-loop-index : goal.invariant-loop-index
invariant-loop-index l = HaveParts l.listed l.parts l.index
