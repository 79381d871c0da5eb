use Rattle.std.proofs.Common.{subst}
use Rattle.term_bank.specs.Nodes.{AreDistinct}
use Rattle.term_bank.proofs.bank.Bank.are_distinct.Goals as goal

pub returns : goal.returns
returns c = subst AreDistinct c.self.view_is c.self.invariant.distinct
