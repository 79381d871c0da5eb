use Rattle.std.proofs.Common.{length}
use Rattle.c_graph_terms.proofs.access.+runs_test.Given as goal

abbrev pub decreases-runs_test : goal.decreases-runs_test
decreases-runs_test l = length l.runs.now
