use Rattle.term_bank.proofs.Subterms.{IsFound}
use Rattle.term_bank.proofs.count.count_found.Given as goal

abbrev pub invariant-loop-i : goal.invariant-loop-i
invariant-loop-i l = IsFound l.bank l.id l.found.keys l.i
