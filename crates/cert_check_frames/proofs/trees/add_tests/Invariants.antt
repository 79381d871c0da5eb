use Rattle.std.proofs.Common.{◌≡◌, map, take}
use Rattle.graph_core.specs.Graphs.{boxed_term}
use Rattle.cert_check_frames.specs.Jobs.{tests_at}
use Rattle.cert_check_frames.proofs.trees.add_tests.Given as goal

-- the trees so far
abbrev pub invariant-loop-premise : goal.invariant-loop-premise
invariant-loop-premise l = map boxed_term l.tests.items ≡ tests_at l.bank (take l.premise-index l.premises)
