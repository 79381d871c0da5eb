use Rattle.std.proofs.Common.{refl}
use Rattle.tv_core.proofs.Ending.{as_status, as_fault}
use Rattle.tv_core.proofs.running.give.Goals as goal

pub returns-in-Ok : goal.returns-in-Ok
returns-in-Ok g c = record { published = as_status _ _ _ _ _ c.status-code.result c.in-Ok.ensures; status = (c.status-code.ensures, refl); kept = tt }

pub returns-in-Err : goal.returns-in-Err
returns-in-Err g c = record { published = as_fault _ _ _ _ c.in-Err.fault c.in-Err.ensures; status = tt; kept = refl }
