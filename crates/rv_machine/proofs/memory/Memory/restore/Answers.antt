use Rattle.std.proofs.Common.{subst, arith, rules, sym, ap, ◌∙◌, Some, None, ◌≡◌}
use Rattle.std.specs.BTreeMap as tree
use Rattle.std.specs.Ordering.{nat_cmp}
use Rattle.std.specs.FinMap.{insert, remove}
use Rattle.rv_machine.specs.Stores.{put_back}
use Rattle.rv_machine.specs.Cells.{AllCells}
use Rattle.rv_machine.proofs.Cells.{inserted_cells, remove_cells}
use Rattle.rv_machine.proofs.Bytes.{there, goes_through, inserted, removed}
use Rattle.rv_machine.proofs.memory.Memory.restore.Goals as goal

pub returns-in-Some : goal.returns-in-Some
returns-in-Some c =
    let updates = goes_through (tree.Updates nat_cmp c.self.inside.bytes c.insert.new.self c.args.address (Some c.in-Some.byte)) (tree.get nat_cmp c.self.inside.bytes c.args.address ≡ None)
    c.insert.result c.insert.ensures.absent (there c.self.inside.bytes c.args.self.now c.args.address c.self.view_is c.requires) c.insert.ensures.updates in
    inserted c.self.inside.bytes c.insert.new.self c.args.address c.in-Some.byte updates.0
    ∙ ap (λ m. insert m c.args.address c.in-Some.byte) c.self.view_is
    ∙ ap (put_back c.args.self.now c.args.address) (sym c.in-Some.is)

pub returns-in-None : goal.returns-in-None
returns-in-None c =
    removed c.self.inside.bytes c.remove.new.self c.args.address c.remove.ensures.updates.0
    ∙ ap (λ m. remove m c.args.address) c.self.view_is
    ∙ ap (put_back c.args.self.now c.args.address) (sym c.in-None.is)

pub invariant_of-self : goal.invariant_of-self
invariant_of-self c =
    inserted_cells c.self.inside.bytes.entries c.insert.new.self.entries c.args.address c.in-Some.byte c.insert.result (omega arith) (search rules) c.self.invariant c.insert.ensures.entries
    c.insert.ensures.err

pub invariant_of-self-in-None : goal.invariant_of-self-in-None
invariant_of-self-in-None c = subst AllCells (sym c.remove.ensures.entries) (remove_cells _ c.self.inside.bytes.entries c.self.invariant)
