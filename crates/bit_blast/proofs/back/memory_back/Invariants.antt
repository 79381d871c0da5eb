use Rattle.std.proofs.Common.{◌≡◌, ◌≤◌, ℕ, length, drop, map}
use Rattle.cnf_core.specs.Bits.{valuation}
use Rattle.term_core_spec.specs.Value.{low_bits}
use Rattle.term_core.specs.Memory.{bytes_of}
use Rattle.bit_blast_laws.specs.Back.{first_byte}
use Rattle.bit_blast.specs.Loads.{load_at}
use Rattle.bit_blast.specs.Backs.{AreShort}
use Rattle.bit_blast.proofs.back.memory_back.Given as goal

abbrev pub invariant-backwards : goal.invariant-backwards
invariant-backwards l =
    (l.index ≤ length l.loads)
    × (AreShort (map (load_at l.table) l.loads) → (q : ℕ) → bytes_of l.memory q ≡ low_bits 8 (first_byte (valuation l.values) q (map (load_at l.table) (drop l.index l.loads))))

abbrev pub decreases-backwards : goal.decreases-backwards
decreases-backwards l = l.index
