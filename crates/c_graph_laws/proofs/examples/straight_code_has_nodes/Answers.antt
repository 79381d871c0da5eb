use Rattle.std.proofs.Common.{refl}
use Rattle.c_graph_spec.specs.Values.{exponent, computed, compared, terms}
use Rattle.c_graph_spec.specs.Guards.{operator_tests, conjoined, tests}
use Rattle.c_graph_spec.specs.Layout.{chain, argument_tests, inputs, has_default, cases_to, selection, case_count, size, groups_size, entry, otherwise, cases_of, nodes, groups_nodes}
use Rattle.c_graph_spec.specs.SourceGraph.{body_number, graph_of, points, groups_points}
use Rattle.c_graph_laws.proofs.examples.straight_code_has_nodes.Goals as goal

pub returns : goal.returns
unfolding exponent computed compared terms operator_tests conjoined tests chain argument_tests inputs has_default cases_to selection case_count size groups_size entry otherwise cases_of nodes groups_nodes body_number graph_of points groups_points
returns c = (refl, refl)
