use Rattle.pair_setup_calls.proofs.Cycles.{NoneBelow}
use Rattle.c_types.specs.Typed.{typed_of}
use Rattle.pair_setup_calls.specs.Names.{names_of}
use Rattle.pair_setup.specs.Sizes.{IsLargeAt}
use Rattle.pair_setup.proofs.nodes.any_large_source.Given as goal

abbrev pub invariant-loop-number : goal.invariant-loop-number
invariant-loop-number l = NoneBelow (IsLargeAt (typed_of l.unit) (names_of l.unit)) l.numbers l.number-index
