-- Lines of the relations at a function's entry and where it returns.
use Rattle.std.specs.Prelude.{ℕ, List, ◌∷◌, map, Option}
use Rattle.memory_spec.specs.Runs.{Run}
use Rattle.term_core_spec.specs.Term.{Term, not_term, equal, less, bit_and}
use Rattle.sim_rules_spec.specs.Calling.{at_entry, global_pointer_lines, outside_zone, register, word}
use Rattle.agreement_laws.specs.EntryFrame.{run_of}

-- what holds at an entry, but for the zone
abbrev pub first_lines : (stack : ℕ) → (global_pointer : Option ℕ) → List Term
first_lines stack pointer =
    equal (bit_and (at_entry 1) (word 3)) (word 0)
    ∷ equal (bit_and (at_entry 2) (word 15)) (word 0)
    ∷ not_term (less (at_entry 2) (word stack))
    ∷ global_pointer_lines pointer

-- no run of fixed bytes meets the zone
abbrev pub zone_lines : (stack : ℕ) → List Run → List Term
zone_lines stack runs = map (outside_zone stack) (map run_of runs)

-- each of these registers is as at entry
abbrev pub kept_lines : List ℕ → List Term
kept_lines registers = map (λ (r : ℕ). equal (register r) (at_entry r)) registers
