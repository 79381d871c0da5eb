use Rattle.std.proofs.Common.{ℕ, ◌<◌}
use Rattle.cert_check_frames.specs.Parts.{IsNamed}
use Rattle.cert_check_frames.proofs.parts.index_of.Given as goal

-- none so far has the name
abbrev pub invariant-loop-index : goal.invariant-loop-index
invariant-loop-index l = (k : ℕ) → k < l.index → IsNamed l.listed k l.name → ⊥
