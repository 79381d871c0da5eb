use Rattle.std.proofs.Common.{take}
use Rattle.pair_setup_calls.specs.Graph.{Grows}
use Rattle.pair_setup_calls.specs.Names.{HasNumberAmong, names_of, texts_of}
use Rattle.pair_setup_calls.proofs.graph.add_numbers.Given as goal

abbrev pub invariant-loop-name : goal.invariant-loop-name
invariant-loop-name l = Grows (HasNumberAmong (names_of l.unit) (texts_of (take l.name-index l.names))) l.initial.numbers.items l.numbers.items
