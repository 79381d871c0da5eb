use Rattle.std.proofs.Common.{take}
use Rattle.pair_setup_calls.specs.Graph.{graph_of}
use Rattle.c_types.specs.Typed.{typed_of}
use Rattle.pair_setup_calls.specs.Names.{names_of, texts_of}
use Rattle.pair_setup.specs.Names.{ArePassed}
use Rattle.pair_setup.proofs.names.check_names.Given as goal

abbrev pub invariant-loop-i : goal.invariant-loop-i
invariant-loop-i l =
    ArePassed l.image (typed_of l.unit) (names_of l.unit) (graph_of l.survey.graph.items) l.survey.misplaced.items (take l.i (texts_of l.list)) l.seen.keys
