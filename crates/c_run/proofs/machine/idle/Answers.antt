use Rattle.std.proofs.Common.{refl}
use Rattle.c_run.proofs.machine.idle.Goals as goal

pub returns : goal.returns
returns c = record { types = refl; locals = c.new.ensures.items; tasks = c.new-2.ensures.items }
