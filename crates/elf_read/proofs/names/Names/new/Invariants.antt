use Rattle.elf_read.proofs.TreeSteps.{AreNumberedUpto}
use Rattle.elf_read.proofs.names.Names.new.Given as goal

abbrev pub invariant-loop-i : goal.invariant-loop-i
invariant-loop-i l = AreNumberedUpto l.tree l.symbols l.strings l.numbers.items l.nodes l.i
