use Rattle.std.proofs.Common.{sym, ap, ◌∙◌, arith}
use Rattle.std.specs.FinMap.{get, insert}
use Rattle.rv_machine.proofs.Cells.{inserted_cells}
use Rattle.rv_machine.proofs.Bytes.{seen, inserted, byte_stored}
use Rattle.rv_machine.proofs.memory.Memory.put.Goals as goal

pub returns-clause-old : goal.returns-clause-old
returns-clause-old c = c.in_ok-insert.ensures.old ∙ sym (seen c.self.inside.bytes c.args.address) ∙ ap (λ m. get m c.args.address) c.self.view_is

pub returns-clause-ok : goal.returns-clause-ok
returns-clause-ok c =
    inserted c.self.inside.bytes c.insert.new.self c.args.address c.args.byte c.in_ok-insert.ensures.updates.0
    ∙ ap (λ m. insert m c.args.address c.args.byte) c.self.view_is
    ∙ byte_stored c.args.self.now c.args.address c.args.byte (omega arith)

pub invariant_of-self-2 : goal.invariant_of-self-2
invariant_of-self-2 c =
    inserted_cells c.self.inside.bytes.entries c.insert.new.self.entries c.args.address c.args.byte c.insert.result (omega arith) (omega arith) c.self.invariant c.insert.ensures.entries
    c.insert.ensures.err
