use Rattle.example_laws.proofs.SumRead.{is_source}
use Rattle.example_laws.proofs.source.add_two_arguments_is_a_source.Goals as goal

pub returns : goal.returns
returns c = is_source
