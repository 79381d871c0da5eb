use Rattle.std.proofs.Common.{◌≤◌, ◌<◌, ◌-◌, length}
use Rattle.std.specs.List.{AllWithin}
use Rattle.elf_read.proofs.fixed.place_of.Given as goal

abbrev pub invariant-loop-low : goal.invariant-loop-low
invariant-loop-low l =
    record {
      order : l.low ≤ l.high;
      bound : l.high ≤ length l.fixed;
      below : AllWithin (λ s. s.vaddr ≤ l.address) l.fixed 0 l.low;
      above : AllWithin (λ s. l.address < s.vaddr) l.fixed l.high (length l.fixed);
    }

abbrev pub decreases-loop-low : goal.decreases-loop-low
decreases-loop-low l = l.high - l.low
