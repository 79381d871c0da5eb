-- Where an instruction calls, if that is a multiple of 4.
use Rattle.std.proofs.Common.{◌≡◌, ℕ, ◌%◌, ◌==◌, Bool, true, false, cond, refl, Some, None}
use Rattle.std.specs.Prelude.{◌&&◌, not, option_and_then}
use Rattle.code_reach_spec.specs.Code.{Flow, Falls, Branches, Jumps, Calls, Links, Returns, Switches, Stops}
use Rattle.code_reach_spec.specs.FaultAt.{in_range}
use Rattle.code_reach.specs.Flows.{called_by}
use Rattle.decompile_spec.specs.Blocks.{callee_of}
use Rattle.decompile.specs.Callees.{aligned_of}

none : (target : ℕ) (b : Bool) → None ≡ cond (b && false) (Some target) None
none target true = refl
none target false = refl

same : (target : ℕ) (b : Bool) → cond b (Some target) None ≡ cond (b && true) (Some target) None
same target true = refl
same target false = refl

pub callee_aligned : (entry size : ℕ) (flow : Flow) → option_and_then aligned_of (called_by entry size flow) ≡ callee_of entry size flow
unfolding callee_of
callee_aligned entry size Falls = refl
callee_aligned entry size (Branches target) = refl
callee_aligned entry size (Jumps target) = by (in_range entry size target)
  where
    by : (b : Bool) → option_and_then aligned_of (cond b None (Some target)) ≡ cond ((target % 4 == 0) && not b) (Some target) None
    by true = none target (target % 4 == 0)
    by false = same target (target % 4 == 0)
callee_aligned entry size (Calls target) = refl
callee_aligned entry size (Links target) = refl
callee_aligned entry size Returns = refl
callee_aligned entry size (Switches jump) = refl
callee_aligned entry size Stops = refl
