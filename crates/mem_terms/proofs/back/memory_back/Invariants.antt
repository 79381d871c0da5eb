use Rattle.std.proofs.Common.{◌≡◌, ℕ, ◌≤◌, length, map, drop}
use Rattle.term_core.specs.Values.{value_of}
use Rattle.term_core.specs.Memory.{bytes_of}
use Rattle.mem_terms.specs.Back.{first_among}
use Rattle.mem_terms.proofs.back.memory_back.Given as goal

abbrev pub invariant-loop-i : goal.invariant-loop-i
invariant-loop-i l = (q : ℕ) → bytes_of l.memory q ≡ first_among (map value_of l.values) q (drop l.i l.loads)
