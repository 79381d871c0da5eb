use Rattle.pair_setup_calls.specs.Graph.{graph_of}
use Rattle.c_types.specs.Typed.{typed_of}
use Rattle.pair_setup_calls.specs.Names.{names_of}
use Rattle.pair_setup_calls.proofs.Bodies.{IsGraphBelow}
use Rattle.pair_setup_calls.proofs.graph.add_all.Given as goal

abbrev pub invariant-loop-caller : goal.invariant-loop-caller
invariant-loop-caller l = IsGraphBelow (typed_of l.unit) (names_of l.unit) (graph_of l.graph.items) l.caller
