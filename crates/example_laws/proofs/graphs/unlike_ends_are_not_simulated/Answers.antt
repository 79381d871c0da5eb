use Rattle.example_laws.proofs.GraphLoops.{endless_source, endless_binary}
use Rattle.example_laws.proofs.graphs.unlike_ends_are_not_simulated.Goals as goal

pub returns : goal.returns
returns c = record { endless_source = endless_source; endless_binary = endless_binary }
