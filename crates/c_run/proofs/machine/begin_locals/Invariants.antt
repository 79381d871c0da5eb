use Rattle.c_run.proofs.Entering.{Begun}
use Rattle.c_run.proofs.machine.begin_locals.Given as goal

abbrev pub invariant-loop-number : goal.invariant-loop-number
invariant-loop-number l = Begun l.fn.locals.items l.types l.arguments l.number l.locals.items
