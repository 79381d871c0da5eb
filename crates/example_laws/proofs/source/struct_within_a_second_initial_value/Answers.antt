use Rattle.example_laws.proofs.InitialsRead.{struct_within_second}
use Rattle.example_laws.proofs.source.struct_within_a_second_initial_value.Goals as goal

pub returns : goal.returns
returns c = struct_within_second
