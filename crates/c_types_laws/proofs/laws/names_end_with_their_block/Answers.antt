use Rattle.c_types_laws.proofs.Scopes.{closed-same, hidden-found, hidden-none}
use Rattle.c_types_laws.proofs.laws.names_end_with_their_block.Goals as goal

pub returns : goal.returns
returns c = record { ended = closed-same; hidden = hidden-found; others = hidden-none }
