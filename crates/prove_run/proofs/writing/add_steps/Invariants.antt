use Rattle.std.proofs.Common.{map, take}
use Rattle.cert_text_spec.specs.Lines.{LogStep}
use Rattle.prove_run.specs.Written.{AddsLines}
use Rattle.prove_run.proofs.writing.add_steps.Given as goal

-- the steps so far are added
abbrev pub invariant-loop-index : goal.invariant-loop-index
invariant-loop-index l = AddsLines l.fn.cert l.cert (map LogStep (take l.index l.log))
