use Rattle.c_syntax.specs.Units.{unit_of as tree_of}
use Rattle.c_types.specs.Typed.{typed_of}
use Rattle.row_sources.proofs.units.read_core.Goals as goal

pub returns-in-Ok-clause-typed : goal.returns-in-Ok-clause-typed
returns-in-Ok-clause-typed c = c.cores_of_units_are_typed.ensures (tree_of c.args.tree.now) (typed_of c.in-Ok.unit) c.in-Ok.ensures

pub returns-in-Ok-clause-sizes : goal.returns-in-Ok-clause-sizes
returns-in-Ok-clause-sizes c = c.cores_have_small_sizes.ensures (tree_of c.args.tree.now) (typed_of c.in-Ok.unit) c.in-Ok.ensures
