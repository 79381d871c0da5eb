use Rattle.std.proofs.Common.{subst}
use Rattle.rv_machine_spec.specs.Machine.{IsMachine}
use Rattle.rv_machine.proofs.machine.Machine.is_machine.Goals as goal

pub returns : goal.returns
returns c =
    subst IsMachine c.self.view_is (record { count = c.self.invariant.0; words = c.self.invariant.1; pc_word = c.self.invariant.2; cells = c.has_cells.ensures })
