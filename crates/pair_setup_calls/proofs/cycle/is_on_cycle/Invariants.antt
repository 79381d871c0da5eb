use Rattle.pair_setup_calls.specs.Graph.{graph_of, Calls}
use Rattle.pair_setup_calls.proofs.Cycles.{NoneBelow}
use Rattle.pair_setup_calls.proofs.cycle.is_on_cycle.Given as goal

abbrev pub invariant-loop-last : goal.invariant-loop-last
invariant-loop-last l = NoneBelow (λ t. Calls (graph_of l.graph) t l.node) l.lasts l.last-index
