use Rattle.bit_blast.specs.Tasks.{steps_of}
use Rattle.bit_blast.proofs.Traversing.{Traverses}
use Rattle.bit_blast.specs.Steps.{weights}
use Rattle.bit_blast.proofs.traversal.traversal.Given as goal

abbrev pub invariant-tasks : goal.invariant-tasks
invariant-tasks l = Traverses l.bank l.goal l.initial.traversal.gates l.traversal l.traversal.tasks.items

abbrev pub decreases-tasks : goal.decreases-tasks
decreases-tasks l = weights (steps_of l.bank l.traversal.tasks.items)
