use Rattle.std.proofs.Common.{◌∙◌, ◌-◌, get_or, ap, unwrap_or, arith}
use Rattle.elf_read_spec.specs.declared.SymbolValues.TheVariants.{Absent}
use Rattle.elf_read.specs.NameTree.{values_step, with_first}
use Rattle.elf_read.proofs.SizeSteps.{blank}
use Rattle.elf_read.proofs.NamedSteps.{known_begins, known_written}
use Rattle.elf_read.proofs.names.Names.values.Goals as goal

pub loop-at-init : goal.loop-at-init
loop-at-init c = record {
  upto = omega arith;
  known = known_begins c.args.self.now.tree values_step c.args.symbols.now c.args.kind c.new-values.result c.new-values.ensures.empty;
}

pub loop-at-preserved-in_ok-insert : goal.loop-at-preserved-in_ok-insert
loop-at-preserved-in_ok-insert c = record {
  upto = omega (arith, c.loop-at.invariant.upto);
  known =
      known_written _ values_step c.loop-at.values c.insert.new.self _ _ _ _ _ _ blank c.loop-at-test.true c.loop-at.invariant.upto c.requires.long c.requires.nodes c.index.ensures
      c.if-symbols-at.true
      (c.with_first.ensures
      ∙ ap (λ values. with_first (get_or c.args.symbols.now (c.loop-at.at - 1) blank).value values)
      (c.unwrap_or-later.ensures ∙ ap (λ o. unwrap_or o Absent) (c.copied.ensures ∙ c.get.ensures.value)))
      c.in_ok-insert.ensures.updates.0 c.loop-at.invariant.known;
}
