use Rattle.std.proofs.Common.{◌≤◌, length}
use Rattle.elf_read.specs.NameTree.{AreCollected, values_step}
use Rattle.elf_read.proofs.names.Names.values.Given as goal

abbrev pub invariant-loop-at : goal.invariant-loop-at
invariant-loop-at l =
    record {
      upto : l.at ≤ length l.symbols;
      known : AreCollected l.self.tree l.symbols l.kind values_step l.values l.at;
    }

abbrev pub decreases-loop-at : goal.decreases-loop-at
decreases-loop-at l = l.at
