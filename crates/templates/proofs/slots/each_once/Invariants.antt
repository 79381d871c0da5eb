use Rattle.std.proofs.Common.{◌≡◌, ◌++◌, [], drop}
use Rattle.templates_spec.specs.Templates.{each_once}
use Rattle.templates.proofs.slots.each_once.Given as goal

abbrev pub invariant-loop-number : goal.invariant-loop-number
invariant-loop-number l = l.once.items ++ each_once l.once.items (drop l.number-index l.numbers) ≡ each_once [] l.numbers
