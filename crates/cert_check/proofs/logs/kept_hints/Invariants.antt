use Rattle.std.proofs.Common.{◌≡◌, take}
use Rattle.cert_check.proofs.logs.kept_hints.Given as goal

abbrev pub invariant-loop-index : goal.invariant-loop-index
invariant-loop-index l = l.kept.items ≡ take l.index l.hints
