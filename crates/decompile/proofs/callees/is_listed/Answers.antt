use Rattle.std.proofs.Common.{refl}
use Rattle.decompile.proofs.Searched.{found_among, missing_among}
use Rattle.decompile.proofs.callees.is_listed.Goals as goal

pub returns-in-Ok : goal.returns-in-Ok
returns-in-Ok c = (λ _. found_among c.args.entries.now c.requires c.args.callee _ c.in-Ok.ensures.position, λ _. refl)

pub returns-in-Err : goal.returns-in-Err
returns-in-Err c = (λ bad. absurd cc, λ among. absurd (missing_among c.args.entries.now c.requires c.args.callee _ c.in-Err.ensures.position among))
