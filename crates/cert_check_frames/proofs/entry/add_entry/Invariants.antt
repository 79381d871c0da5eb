use Rattle.std.proofs.Common.{◌≡◌, ◌++◌, map, take}
use Rattle.proof_tree.specs.Frames.{premise_of, terms_of}
use Rattle.cert_check_frames.proofs.entry.add_entry.Given as goal

-- the lines so far are added
abbrev pub invariant-loop-line : goal.invariant-loop-line
invariant-loop-line l = map premise_of l.premises.items ≡ map premise_of l.fn.premises.items ++ terms_of (take l.line-index l.lines)
