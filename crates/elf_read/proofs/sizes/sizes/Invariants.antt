use Rattle.std.proofs.Common.{◌≡◌, ◌≤◌, ℕ, map, drop, length}
use Rattle.std.specs.Ordering.{nat_cmp}
use Rattle.std.specs.BTreeMap.{get}
use Rattle.elf_read_spec.specs.Image as spec
use Rattle.elf_read.specs.Values.{symbol_of}
use Rattle.elf_read.proofs.sizes.sizes.Given as goal

abbrev pub invariant-loop-at : goal.invariant-loop-at
invariant-loop-at l =
    record {
      upto : l.at ≤ length l.symbols;
      sizes : (entry : ℕ) → get nat_cmp l.sizes entry ≡ spec.size_among (map symbol_of (drop l.at l.symbols)) entry;
    }

abbrev pub decreases-loop-at : goal.decreases-loop-at
decreases-loop-at l = l.at
