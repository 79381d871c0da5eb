use Rattle.std.proofs.Common.{◌≤◌, length}
use Rattle.elf_read.specs.NameTree.{AreCollected, size_step}
use Rattle.elf_read.proofs.names.Names.sizes.Given as goal

abbrev pub invariant-loop-at : goal.invariant-loop-at
invariant-loop-at l =
    record {
      upto : l.at ≤ length l.symbols;
      known : AreCollected l.self.tree l.symbols l.kind size_step l.sizes l.at;
    }

abbrev pub decreases-loop-at : goal.decreases-loop-at
decreases-loop-at l = l.at
