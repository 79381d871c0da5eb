use Rattle.std.proofs.Common.{◌<◌, length}
use Rattle.proof_rows.proofs.loads.add_words.Given as goal

abbrev pub invariant-loop-level : goal.invariant-loop-level
invariant-loop-level l = (l.memory < length l.graph.trees) × (l.word < length l.graph.trees)
