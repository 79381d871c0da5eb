use Rattle.std.proofs.Common.{ℕ, ◌<◌, ◌^◌, get_or, replicate, refl, arith}
use Rattle.std.proofs.Math.ListN.{get_or-replicate}
use Rattle.rv_machine.proofs.machine.Machine.new.Goals as goal

zeros : (k d : ℕ) → k < 32 → get_or (replicate 32 0) k d < 2 ^ 32
zeros k d below = rw (get_or-replicate 32 k 0 d below) (omega arith)

pub invariant_of-result : goal.invariant_of-result
invariant_of-result c = (refl, zeros, omega arith)
