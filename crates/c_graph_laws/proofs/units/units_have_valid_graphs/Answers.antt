use Rattle.c_types_laws.proofs.Units.{typed-IsTypedUnit}
use Rattle.c_types_laws.proofs.SizedUnits.{typed-sizes}
use Rattle.c_graph_laws.proofs.ValidGraphs.{all_valid}
use Rattle.c_graph_laws.proofs.units.units_have_valid_graphs.Goals as goal

pub returns : goal.returns
returns c = λ unit core where_it_is e placed. all_valid core where_it_is placed (typed-IsTypedUnit unit core e) (typed-sizes unit core e)
