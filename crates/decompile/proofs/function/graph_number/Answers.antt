use Rattle.std.proofs.Common.{sym}
use Rattle.decompile.proofs.Searched.{number_found, number_missing}
use Rattle.decompile.proofs.function.graph_number.Goals as goal

pub returns-in-Ok : goal.returns-in-Ok
returns-in-Ok c = sym (number_found c.args.entries.now c.requires c.args.entry c.in-Ok.index c.in-Ok.ensures.position)

pub returns-in-Err : goal.returns-in-Err
returns-in-Err c = sym (number_missing c.args.entries.now c.requires c.args.entry _ c.in-Err.ensures.position)
