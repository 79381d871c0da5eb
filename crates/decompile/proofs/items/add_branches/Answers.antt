use Rattle.std.proofs.Common.{◌≡◌, ◌+◌, ◌≤◌, ℕ, List, [], length, take, refl, sym, ap, subst, arith}
use Rattle.std.proofs.lemmas.List.{take_all}
use Rattle.decompile.specs.declared.items.Item.{Item}
use Rattle.decompile.specs.Items.{branch_by, with_branch, AreBranches}
use Rattle.decompile.proofs.Kept.{none_gathered, next_branches}
use Rattle.decompile.proofs.items.add_branches.Goals as goal

pub loop-item-init : goal.loop-item-init
loop-item-init c = subst (AreBranches []) (sym c.requires) none_gathered

pub loop-item-preserved : goal.loop-item-preserved
loop-item-preserved c =
    subst (AreBranches (take (c.loop-item.item-index + 1) c.args.items.now)) (sym c.in_ok-add_branch.ensures)
    (next_branches c.args.items.now c.loop-item.item-index c.item-item.result c.loop-item.branches.keys (branch_by c.item-item.result.flow) c.loop-item-test.true
    c.loop-item.invariant (ap (λ (x : Item). branch_by x.flow) (sym c.item-item.is)))

pub returns : goal.returns
returns c =
    let all : length c.args.items.now ≤ c.loop-item.item-index = omega arith in
    subst (λ (is : List Item). AreBranches is c.loop-item.branches.keys) (take_all c.loop-item.item-index c.args.items.now all) c.loop-item.invariant
