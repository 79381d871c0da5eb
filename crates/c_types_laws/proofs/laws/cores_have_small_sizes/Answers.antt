use Rattle.c_types_laws.proofs.SizedUnits.{typed-sizes}
use Rattle.c_types_laws.proofs.laws.cores_have_small_sizes.Goals as goal

pub returns : goal.returns
returns c = typed-sizes
