-- The terms of a table.
use Rattle.std.specs.Prelude.{List, map}
use Rattle.term_core_spec.specs.Term.{Term}
use Rattle.bit_blast_spec.specs.Goal.{Table}

abbrev pub terms_in : Table → List Term
terms_in table = map (λ entry. entry.0) table
