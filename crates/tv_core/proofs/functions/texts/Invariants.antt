use Rattle.std.proofs.Common.{◌≡◌, take}
use Rattle.pair_setup_calls.specs.Names.{texts_of}
use Rattle.tv_core.proofs.functions.texts.Given as goal

abbrev pub invariant-loop-name : goal.invariant-loop-name
invariant-loop-name l = texts_of l.texts.items ≡ take l.name-index l.names
