-- The exponent of a power of 2, one step after the other.
use Rattle.std.proofs.Common.{◌≡◌, ℕ, zero, suc, ◌-◌, ◌<◌, ◌==◌, if◌then◌else◌, Some, None, refl, sym, ap, arith}
use Rattle.std.specs.Prelude.{◌^◌}
use Rattle.c_graph_spec.specs.Values.{exponent}

pub exponent-zero : (size : ℕ) → exponent 0 size ≡ None
unfolding exponent
exponent-zero size = refl

pub exponent-step : (most size : ℕ) → 0 < most → exponent most size ≡ (if 2 ^ (most - 1) == size then Some (most - 1) else exponent (most - 1) size)
unfolding exponent
exponent-step zero size h = absurd (omega arith)
exponent-step (suc most) size h =
    let less : suc most - 1 ≡ most = omega arith in
    sym (ap (λ n. if 2 ^ n == size then Some n else exponent n size) less)

pub ruleset exponents = (exponent-zero, exponent-step)
