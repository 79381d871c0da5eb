-- The terms of both sides' variables by the maps of each.
use Rattle.std.specs.Prelude.{ℕ, if◌then◌else◌, Option, None}
use Rattle.term_core_spec.specs.declared.Variable.{Variable}
use Rattle.term_core_spec.specs.Same.{same_variable}
use Rattle.sim_rules_spec.specs.Points.{of_sides, zone_memory}

-- each side's own, and that of the memory in the zone
abbrev pub both_ids : (binary source : Variable → Option ℕ) → (zone : Option ℕ) → Variable → Option ℕ
both_ids binary source zone = of_sides binary source (λ v. if same_variable v zone_memory then zone else None)
