use Rattle.cnf_core.specs.Bits.{valuation}
use Rattle.bit_blast_spec.specs.Goal.{loads_of}
use Rattle.term_core.specs.Assignment.{assignment_of}
use Rattle.bit_blast.specs.Backs.{AreShort}
use Rattle.bit_blast.proofs.Restored.{Read}
use Rattle.bit_blast.proofs.back.read_back.Given as goal

abbrev pub invariant-terms : goal.invariant-terms
invariant-terms l = AreShort (loads_of l.blasted.table l.blasted.table) → Read (valuation l.values) l.blasted.table l.index (assignment_of l.assignment)
