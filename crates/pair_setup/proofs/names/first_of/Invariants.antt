use Rattle.pair_setup_calls.proofs.Growing.{IsAmong}
use Rattle.pair_setup.specs.Names.{IsLeast}
use Rattle.pair_setup.proofs.names.first_of.Given as goal

abbrev pub invariant-loop-number : goal.invariant-loop-number
invariant-loop-number l = IsLeast (IsAmong l.numbers l.number-index) l.first
