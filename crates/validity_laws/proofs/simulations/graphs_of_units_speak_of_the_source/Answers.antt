use Rattle.validity_laws.proofs.SourceGraphs.{source_is_own}
use Rattle.validity_laws.proofs.simulations.graphs_of_units_speak_of_the_source.Goals as goal

pub returns : goal.returns
returns c = λ unit where_it_is is. source_is_own unit where_it_is is.bodies_typed
