use Rattle.std.proofs.Common.{take}
use Rattle.c_types.specs.Typed.{typed_of}
use Rattle.pair_setup_calls.specs.Names.{texts_of}
use Rattle.pair_setup.specs.Depths.{AreFunctions}
use Rattle.pair_setup.proofs.reach.add_functions.Given as goal

abbrev pub invariant-loop-i : goal.invariant-loop-i
invariant-loop-i l = AreFunctions l.image (typed_of l.unit) (take l.i (texts_of l.list)) l.functions.items
