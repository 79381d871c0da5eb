use Rattle.std.proofs.Common.{◌≡◌, map, take}
use Rattle.graph_core.specs.Graphs.{boxed_term}
use Rattle.cert_check_jobs.specs.Cuts.{lines_at}
use Rattle.cert_check_jobs.proofs.frames.add_trees.Given as goal

-- the trees so far
abbrev pub invariant-loop-index : goal.invariant-loop-index
invariant-loop-index l = map boxed_term l.trees.items ≡ lines_at l.bank (take l.index l.ids)
