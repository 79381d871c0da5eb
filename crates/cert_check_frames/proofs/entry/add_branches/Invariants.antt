use Rattle.std.proofs.Common.{◌≡◌, ◌++◌, map, take}
use Rattle.graph_core.specs.Graphs.{boxed_term}
use Rattle.proof_tree.specs.Frames.{premise_of}
use Rattle.cert_check_frames.specs.Jobs.{premises_with}
use Rattle.cert_check_frames.proofs.entry.add_branches.Given as goal

-- the branches so far are added
abbrev pub invariant-loop-index : goal.invariant-loop-index
invariant-loop-index l =
    map premise_of l.premises.items ≡ map premise_of l.fn.premises.items ++ premises_with (take l.index l.branches) (map boxed_term (take l.index l.tests))
