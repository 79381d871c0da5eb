use Rattle.example_laws.proofs.InitialsRead.{nothing_within}
use Rattle.example_laws.proofs.source.nothing_within_initial_values.Goals as goal

pub returns : goal.returns
returns c = nothing_within
