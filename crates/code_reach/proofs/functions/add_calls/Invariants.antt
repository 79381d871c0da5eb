use Rattle.code_reach.specs.Growth.{Grows, FromFirst}
use Rattle.code_reach.specs.Surveys.{CallsFrom}
use Rattle.code_reach.proofs.functions.add_calls.Given as goal

abbrev pub invariant-loop-address : goal.invariant-loop-address
invariant-loop-address l = Grows (FromFirst (CallsFrom l.image l.entry l.size) l.addresses l.address-index) l.initial.entries.keys l.entries.keys
