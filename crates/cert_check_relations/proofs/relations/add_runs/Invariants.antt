use Rattle.std.proofs.Common.{◌≡◌, ◌++◌, drop}
use Rattle.memory_spec.specs.Viewed.{runs_of}
use Rattle.proof_tree.specs.Frames.{terms_of}
use Rattle.cert_check_relations.specs.Lines.{zone_lines}
use Rattle.cert_check_relations.proofs.relations.add_runs.Given as goal

-- what is left to add completes the whole
abbrev pub invariant-loop-index : goal.invariant-loop-index
invariant-loop-index l =
    terms_of l.lines.items ++ zone_lines l.stack (runs_of (drop l.index l.runs)) ≡ terms_of l.fn.lines.items ++ zone_lines l.stack (runs_of l.runs)
