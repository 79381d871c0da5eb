use Rattle.example_laws.proofs.GraphLoops.{failing_agree, failing_binary}
use Rattle.example_laws.proofs.graphs.a_failure_is_excused_by_the_source_alone.Goals as goal

pub returns : goal.returns
returns c = record { excused = failing_agree; refused = failing_binary }
