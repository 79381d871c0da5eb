-- Zones that share no address.
use Rattle.std.proofs.Common.{◌<◌, ◌≤◌, arith}
use Rattle.memory_spec.specs.Zones.{Zone, AreDisjoint}

-- what begins first ends before the other begins, unless that is empty
pub ends_before : (one other : Zone) → AreDisjoint one other → one.low ≤ other.low → other.low < other.high → one.high ≤ other.low
ends_before one other apart first full =
    let not_inside : other.low < one.high → ⊥ =
    λ inside. apart.apart other.low (record { from = first; below = inside }) (record { from = omega arith; below = full }) in
    omega arith

pub flipped : (one other : Zone) → AreDisjoint one other → AreDisjoint other one
flipped one other apart = record { apart = λ address p q. apart.apart address q p }
