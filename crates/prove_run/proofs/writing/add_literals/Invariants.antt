use Rattle.std.proofs.Common.{take}
use Rattle.prove_run.specs.Written.{AddsLiterals}
use Rattle.prove_run.proofs.writing.add_literals.Given as goal

-- the literals so far are added
abbrev pub invariant-loop-index : goal.invariant-loop-index
invariant-loop-index l = AddsLiterals l.fn.written.items l.written.items (take l.index l.literals)
