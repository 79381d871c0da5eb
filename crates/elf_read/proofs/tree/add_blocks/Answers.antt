use Rattle.std.proofs.Common.{◌≡◌, ◌+◌, ◌-◌, take, drop, ap, arith}
use Rattle.elf_read.proofs.TreeSteps.{blocks_begin, blocks_pass, block_added}
use Rattle.elf_read.proofs.tree.add_blocks.Goals as goal

pub loop-at-init : goal.loop-at-init
loop-at-init c = blocks_begin _ _ _ c.requires.no_names c.requires.no_nodes

pub loop-at-preserved-then-count-lt-BLOCK : goal.loop-at-preserved-then-count-lt-BLOCK
loop-at-preserved-then-count-lt-BLOCK c =
    blocks_pass _ _ _ _ _ _ (omega (arith, c.loop-at-test.true)) c.if-strings-at-eq0.false c.if-count-lt-BLOCK.true c.loop-at.invariant

pub loop-at-preserved : goal.loop-at-preserved
loop-at-preserved c =
    let width : c.loop-at.at - 1 + 64 - (c.loop-at.at - 1) ≡ 64 = omega arith in
    block_added _ _ _ _ _ _ _ _ _ _ c.loop-at-test.true c.if-strings-at-eq0.false c.if-count-lt-BLOCK.false
    (ap (λ n. take n (drop (c.loop-at.at - 1) c.args.strings.now)) width) c.in_ok-node.ensures c.in_ok-insert.ensures.updates.0 c.loop-at.invariant
