use Rattle.c_graph_laws.proofs.OwnBindings.{no_zone}
use Rattle.c_graph_laws.proofs.keeping.nodes_bind_no_zone.Goals as goal

pub returns : goal.returns
returns c = λ unit where_it_is g n node is. no_zone unit where_it_is g n node is
