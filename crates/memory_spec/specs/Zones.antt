-- Zones: addresses one after the other.
use Rattle.std.specs.Prelude.{ℕ, ◌+◌, ◌<◌, ◌≤◌}

-- the addresses from `low` to below `high`
pub record Zone : Type 0 where
  pub low : ℕ
  pub high : ℕ

-- so many addresses from `start` on
abbrev pub zone_from : (start size : ℕ) → Zone
zone_from start size = record { low = start; high = start + size }

pub record InZone (zone : Zone) (address : ℕ) : Type 0 where
  pub from : zone.low ≤ address
  pub below : address < zone.high

-- two zones share an address
pub record ZonesMeet (one other : Zone) : Type 0 where
  pub address : ℕ
  pub in_one : InZone one address
  pub in_other : InZone other address

-- two zones share no address
pub record AreDisjoint (one other : Zone) : Type 0 where
  pub apart : (address : ℕ) → InZone one address → InZone other address → ⊥
