use Rattle.std.proofs.Common.{◌≤◌, ◌<◌, ◌-◌, ℕ, length, get_or}
use Rattle.elf_read.proofs.strings.next_zero.Given as goal

abbrev pub invariant-loop-low : goal.invariant-loop-low
invariant-loop-low l =
    record {
      order : l.low ≤ l.high;
      bound : l.high ≤ length l.zeros;
      below : (k : ℕ) → k < l.low → get_or l.zeros k 0 < l.from;
      above : (k : ℕ) → l.high ≤ k → k < length l.zeros → l.from ≤ get_or l.zeros k 0;
    }

abbrev pub decreases-loop-low : goal.decreases-loop-low
decreases-loop-low l = l.high - l.low
