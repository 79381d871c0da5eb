use Rattle.std.proofs.Common.{take}
use Rattle.prove_run.specs.Written.{AddsLines, parts_of}
use Rattle.prove_run.proofs.writing.add_parts.Given as goal

-- the parts so far are added
abbrev pub invariant-loop-index : goal.invariant-loop-index
invariant-loop-index l = AddsLines l.fn.cert l.cert (parts_of (take l.index l.listed) (take l.index l.found))
