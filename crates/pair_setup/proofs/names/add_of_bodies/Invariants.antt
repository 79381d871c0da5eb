use Rattle.std.proofs.Common.{take}
use Rattle.pair_setup_calls.specs.Graph.{Grows}
use Rattle.c_types.specs.Typed.{typed_of}
use Rattle.pair_setup_calls.specs.Names.{names_of}
use Rattle.pair_setup.specs.Names.{IsUsedMarked}
use Rattle.pair_setup.proofs.names.add_of_bodies.Given as goal

abbrev pub invariant-loop-number : goal.invariant-loop-number
invariant-loop-number l = Grows (IsUsedMarked (typed_of l.unit) (names_of l.unit) l.marks (take l.number-index l.numbers)) l.initial.found.items l.found.items
