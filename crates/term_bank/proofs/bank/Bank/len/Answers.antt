use Rattle.std.proofs.Common.{ap, length, arith, []}
use Rattle.term_bank.proofs.Growth.{length-grown}
use Rattle.term_bank.proofs.bank.Bank.len.Goals as goal

pub returns : goal.returns
returns c = omega (arith, length-grown [] c.self.inside.nodes.keys, ap length c.self.view_is, c.len.ensures.len)
