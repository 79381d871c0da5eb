use Rattle.std.proofs.Common.{ℕ, List}
use Rattle.term_core_spec.specs.Term.{Term}
use Rattle.term_bank.specs.Nodes.{Extends}
use Rattle.mem_terms.specs.Walk.{total_weight, IsWalk, IsSomeWalk}
use Rattle.mem_terms.proofs.Turns.{IsTurned}
use Rattle.mem_terms.proofs.walk.Walk.run.Given as goal

abbrev pub invariant-loop-task : goal.invariant-loop-task
invariant-loop-task l =
    IsTurned l.fn.bank l.fn.self.done.items l.fn.self.loads.items l.fn.self.tasks.items l.bank l.self.done.items l.self.loads.items l.self.tasks.items

abbrev pub decreases-loop-task : goal.decreases-loop-task
decreases-loop-task l = total_weight l.self.tasks.items
