use Rattle.std.proofs.Common.{take}
use Rattle.std.specs.Prelude.{Contains}
use Rattle.proof_tree.specs.Ahead.{Grows}
use Rattle.sim_rules.proofs.search.add_all.Given as goal

abbrev pub invariant-loop-i : goal.invariant-loop-i
invariant-loop-i l = Grows (λ k. Contains (take l.i l.nodes) k) l.fn.found.keys l.found.keys
