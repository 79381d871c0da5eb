use Rattle.elf_read.proofs.SizeSteps.{blank}
use Rattle.elf_read.proofs.TreeSteps.{name_at, number_step, numbered}
use Rattle.elf_read.proofs.names.Names.new.Goals as goal

pub loop-i-preserved : goal.loop-i-preserved
loop-i-preserved c =
    rw c.in_ok-push.ensures.items
    (number_step _ _ _ _ _ _ _ _ blank c.loop-i-test.true c.loop-i.invariant
    (c.in_ok-number.ensures c.args.strings.now c.loop-i.invariant.blocks
    (name_at c.args.symbols.now c.args.strings.now c.args.offsets.now c.loop-i.i 0 blank c.requires c.loop-i-test.true)))

pub returns-clause-nodes : goal.returns-clause-nodes
returns-clause-nodes c = numbered _ _ _ _ _ _ c.loop-i.invariant
