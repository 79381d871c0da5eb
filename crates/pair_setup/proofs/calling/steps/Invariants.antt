use Rattle.std.proofs.Common.{◌≡◌, map, take}
use Rattle.pair_setup.specs.Calling.{step_of}
use Rattle.pair_setup.proofs.calling.steps.Given as goal

abbrev pub invariant-loop-word : goal.invariant-loop-word
invariant-loop-word l = l.steps.items ≡ map (step_of l.image l.entry l.size) (take l.word-index l.words)
