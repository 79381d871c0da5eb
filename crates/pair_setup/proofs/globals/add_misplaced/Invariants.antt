use Rattle.c_types.specs.Typed.{typed_of}
use Rattle.pair_setup_calls.specs.Names.{names_of}
use Rattle.pair_setup.proofs.Marks.{IsMarkedBelow}
use Rattle.pair_setup.proofs.globals.add_misplaced.Given as goal

abbrev pub invariant-loop-number : goal.invariant-loop-number
invariant-loop-number l = IsMarkedBelow l.image (typed_of l.unit) (names_of l.unit) l.found.items l.number
