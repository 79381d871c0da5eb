use Rattle.std.proofs.Common.{refl, arith}
use Rattle.elf_read.specs.NameTree.{size_step}
use Rattle.elf_read.proofs.SizeSteps.{blank}
use Rattle.elf_read.proofs.NamedSteps.{known_begins, known_written}
use Rattle.elf_read.proofs.names.Names.sizes.Goals as goal

pub loop-at-init : goal.loop-at-init
loop-at-init c = record {
  upto = omega arith;
  known = known_begins c.args.self.now.tree size_step c.args.symbols.now c.args.kind c.new-sizes.result c.new-sizes.ensures.empty;
}

pub loop-at-preserved-in_ok-insert : goal.loop-at-preserved-in_ok-insert
loop-at-preserved-in_ok-insert c = record {
  upto = omega (arith, c.loop-at.invariant.upto);
  known =
      known_written _ size_step c.loop-at.sizes c.insert.new.self _ _ _ _ _ _ blank c.loop-at-test.true c.loop-at.invariant.upto c.requires.long c.requires.nodes c.index.ensures
      c.if-symbols-at.true refl c.in_ok-insert.ensures.updates.0 c.loop-at.invariant.known;
}
