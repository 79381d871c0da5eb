use Rattle.c_types_laws.proofs.Scopes.{declared-same, declared-other, opened-same}
use Rattle.c_types_laws.proofs.laws.names_mean_their_innermost_declaration.Goals as goal

pub returns : goal.returns
returns c = record { declared = declared-same; others = declared-other; begun = opened-same }
