use Rattle.c_types_laws.proofs.Units.{typed-IsTypedUnit}
use Rattle.c_types_laws.proofs.SizedUnits.{typed-sizes}
use Rattle.c_graph_laws.proofs.Together.{together}
use Rattle.c_graph_laws.proofs.units.units_and_graphs_run_together.Goals as goal

pub returns : goal.returns
returns c = λ unit core where_it_is zone name body arguments bytes values e call.
    together core where_it_is zone name body arguments bytes values
    (record { typed = typed-IsTypedUnit unit core e; sizes = typed-sizes unit core e; placed = call.placed; body_is = call.body_is; bodies = call.bodies; alike = call.alike })
