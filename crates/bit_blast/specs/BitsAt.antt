-- The bits of the term at an index of a table.
use Rattle.std.specs.Prelude.{ℕ}
use Rattle.term_bank.specs.Nodes.{tree_at}
use Rattle.bit_blast_spec.specs.Circuits.{Bits}
use Rattle.bit_blast_spec.specs.Goal.{Table, bits_in}
use Rattle.bit_blast.specs.Terms.{terms_in}

abbrev pub bits_at : Table → ℕ → Bits
bits_at table index = bits_in table (tree_at (terms_in table) index)
