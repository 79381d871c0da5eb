use Rattle.c_run_value.proofs.Entries.{found}
use Rattle.c_run_value.proofs.memory.Memory.byte.Goals as goal

pub returns-in-Some : goal.returns-in-Some
returns-in-Some c = found c.self.inside.bytes _ _ _ c.self.view_is c.in-Some.ensures.value

pub returns-in-None : goal.returns-in-None
returns-in-None c = found c.self.inside.bytes _ _ _ c.self.view_is c.in-None.ensures.value
