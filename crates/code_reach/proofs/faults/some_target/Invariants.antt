use Rattle.std.proofs.Common.{◌≡◌, ◌-◌, ◌*◌, ◌<◌, ℕ, false}
use Rattle.code_reach.specs.Flows.{is_among}
use Rattle.code_reach.proofs.faults.some_target.Given as goal

abbrev pub invariant-loop-back : goal.invariant-loop-back
invariant-loop-back l = (j : ℕ) → j < l.back → is_among l.targets.keys (l.address - 4 * j) ≡ false
