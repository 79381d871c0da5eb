use Rattle.c_run_laws.proofs.Typing.{has_its_type}
use Rattle.c_run_laws.proofs.types.a_value_has_its_type.Goals as goal

pub returns : goal.returns
returns c = has_its_type
