use Rattle.std.proofs.Common.{subst}
use Rattle.term_bank.specs.Nodes.{AreDistinct}
use Rattle.bit_blast_spec.specs.Goal.{Table}
use Rattle.bit_blast.specs.Terms.{terms_in}
use Rattle.bit_blast.proofs.Tables.{table_distinct}
use Rattle.bit_blast.proofs.table.TermTable.is_distinct.Goals as goal

pub returns : goal.returns
returns c = subst (λ (t : Table). AreDistinct (terms_in t)) c.self.view_is (table_distinct c.self.inside.entries.entries c.self.invariant)
