use Rattle.std.proofs.Common.{[], ap, length, arith}
use Rattle.bit_blast.proofs.Tables.{length-entered}
use Rattle.bit_blast.proofs.table.TermTable.len.Goals as goal

pub returns : goal.returns
returns c = omega (arith, length-entered [] c.self.inside.entries.entries, ap length c.self.view_is, c.len.ensures.len)
