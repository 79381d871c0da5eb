use Rattle.pair_setup_calls.specs.Graph.{Grows}
use Rattle.pair_setup_calls.proofs.Growing.{IsAmong}
use Rattle.pair_setup.proofs.code.add_all.Given as goal

abbrev pub invariant-loop-entry : goal.invariant-loop-entry
invariant-loop-entry l = Grows (IsAmong l.added l.entry-index) l.initial.entries.keys l.entries.keys
