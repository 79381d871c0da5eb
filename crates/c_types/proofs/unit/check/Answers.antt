use Rattle.std.proofs.Common.{rules}
use Rattle.c_types.proofs.Bodied.{reached_none}
use Rattle.c_types.proofs.unit.check.Goals as goal

-- nothing is declared yet
pub external_declarations-requires : goal.external_declarations-requires
external_declarations-requires c = reached_none _ _ (search rules) (search rules)
