use Rattle.rv_machine.proofs.Cells.{seen_cells}
use Rattle.rv_machine.proofs.memory.Memory.has_cells.Goals as goal

pub returns : goal.returns
returns c = seen_cells c.self.inside.bytes.entries c.args.self.now c.self.view_is c.self.invariant
