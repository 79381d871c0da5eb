use Rattle.std.proofs.Common.{ap, ◌∙◌}
use Rattle.std.specs.FinMap.{insert}
use Rattle.c_run_value.proofs.Entries.{inserted}
use Rattle.c_run_value.proofs.memory.Memory.put.Goals as goal

pub returns-clause-ok : goal.returns-clause-ok
returns-clause-ok c =
    inserted c.self.inside.bytes c.insert.new.self c.args.address c.args.byte c.in_ok-insert.ensures.updates.0
    ∙ ap (λ m. insert m c.args.address c.args.byte) c.self.view_is
