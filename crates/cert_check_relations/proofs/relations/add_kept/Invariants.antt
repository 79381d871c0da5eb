use Rattle.std.proofs.Common.{◌≡◌, ◌++◌, drop}
use Rattle.proof_tree.specs.Frames.{terms_of}
use Rattle.cert_check_relations.specs.Lines.{kept_lines}
use Rattle.cert_check_relations.proofs.relations.add_kept.Given as goal

-- what is left to add completes the whole
abbrev pub invariant-loop-index : goal.invariant-loop-index
invariant-loop-index l = terms_of l.lines.items ++ kept_lines (drop l.index l.registers) ≡ terms_of l.fn.lines.items ++ kept_lines l.registers
