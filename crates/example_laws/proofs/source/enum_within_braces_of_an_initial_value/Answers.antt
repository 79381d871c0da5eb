use Rattle.example_laws.proofs.InitialsRead.{enum_within_braces}
use Rattle.example_laws.proofs.source.enum_within_braces_of_an_initial_value.Goals as goal

pub returns : goal.returns
returns c = enum_within_braces
