use Rattle.std.proofs.Common.{◌≡◌, ◌≤◌, ◌%◌, ◌^◌, length, drop}
use Rattle.cnf_core.specs.Bits.{valuation}
use Rattle.bit_blast_laws.specs.Meaning.{number_of}
use Rattle.bit_blast.proofs.back.number_of.Given as goal

abbrev pub invariant-bits : goal.invariant-bits
invariant-bits l = (l.index ≤ length l.bits) × (l.number ≡ number_of (valuation l.values) (drop l.index l.bits) % 2 ^ 64)

abbrev pub decreases-bits : goal.decreases-bits
decreases-bits l = l.index
