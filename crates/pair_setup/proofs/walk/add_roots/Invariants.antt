use Rattle.std.proofs.Common.{take}
use Rattle.pair_setup_calls.specs.Graph.{Grows}
use Rattle.pair_setup_calls.specs.Names.{texts_of}
use Rattle.pair_setup.specs.Names.{IsOf}
use Rattle.pair_setup.specs.Walks.{IsEntry}
use Rattle.pair_setup.proofs.walk.add_roots.Given as goal

abbrev pub invariant-loop-name : goal.invariant-loop-name
invariant-loop-name l = Grows (IsOf (IsEntry l.image) (texts_of (take l.name-index l.list))) l.initial.entries.keys l.entries.keys
