use Rattle.std.proofs.Common.{take}
use Rattle.pair_setup_calls.specs.Graph.{Grows}
use Rattle.c_types.specs.Typed.{typed_of}
use Rattle.pair_setup_calls.specs.Names.{names_of}
use Rattle.pair_setup.specs.Names.{IsLacking}
use Rattle.pair_setup.proofs.names.add_all_lacking.Given as goal

abbrev pub invariant-loop-number : goal.invariant-loop-number
invariant-loop-number l = Grows (IsLacking (typed_of l.unit) (names_of l.unit) (take l.number-index l.numbers)) l.initial.found.items l.found.items
