use Rattle.decompile_laws.proofs.Laid.{laid_is}
use Rattle.decompile_laws.proofs.layout.laid_are_code_graphs.Goals as goal

pub returns : goal.returns
returns c = λ image f first items runs_are are by_first numbered. laid_is image f first items runs_are are by_first numbered
