use Rattle.std.proofs.Common.{◌≡◌, ◌∙◌, ◌-◌, take, drop, ap, sym, arith}
use Rattle.elf_read.proofs.TreeSteps.{reach_begins, reach_step, reach_ends}
use Rattle.elf_read.proofs.tree.node.Goals as goal

pub loop-at-init : goal.loop-at-init
loop-at-init c = reach_begins c.args.tree.now c.args.name.now

pub returns-in_err-node : goal.returns-in_err-node
returns-in_err-node c =
    let width : c.loop-at.at - (c.loop-at.at - 64) ≡ 64 = omega (arith, c.loop-at-test.true) in
    c.from_residual.ensures
    ∙ sym (reach_ends c.args.tree.now c.args.name.now _ _ _ c.loop-at-test.true c.loop-at.invariant
    (ap (λ n. take n (drop (c.loop-at.at - 64) c.args.name.now)) width) (sym c.in_err-node.ensures))

pub loop-at-preserved : goal.loop-at-preserved
loop-at-preserved c =
    let width : c.loop-at.at - (c.loop-at.at - 64) ≡ 64 = omega (arith, c.loop-at-test.true) in
    reach_step c.args.tree.now c.args.name.now _ _ _ _ c.loop-at-test.true c.loop-at.invariant
    (ap (λ n. take n (drop (c.loop-at.at - 64) c.args.name.now)) width) (sym c.in_ok-node.ensures)
