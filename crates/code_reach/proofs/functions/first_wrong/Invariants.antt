use Rattle.std.proofs.Common.{◌≡◌, ◌<◌, ℕ, get_or, None}
use Rattle.code_reach.specs.Flows.{fault_among}
use Rattle.code_reach.proofs.functions.first_wrong.Given as goal

abbrev pub invariant-loop-address : goal.invariant-loop-address
invariant-loop-address l = (k : ℕ) → k < l.address-index → fault_among l.image l.entry l.size l.targets.keys (get_or l.addresses k 0) ≡ None
