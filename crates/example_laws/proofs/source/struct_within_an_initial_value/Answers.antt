use Rattle.example_laws.proofs.InitialsRead.{struct_within}
use Rattle.example_laws.proofs.source.struct_within_an_initial_value.Goals as goal

pub returns : goal.returns
returns c = struct_within
