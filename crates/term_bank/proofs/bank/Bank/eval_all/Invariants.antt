use Rattle.std.proofs.Common.{map}
use Rattle.term_core.specs.Values.{value_of}
use Rattle.term_core.specs.Assignment.{assignment_of}
use Rattle.term_bank.proofs.Values.{AreValues}
use Rattle.term_bank.proofs.bank.Bank.eval_all.Given as goal

abbrev pub invariant-loop-i : goal.invariant-loop-i
invariant-loop-i l = AreValues (assignment_of l.assignment) l.self (map value_of l.values.items) l.i
