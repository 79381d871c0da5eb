use Rattle.std.proofs.Common.{ℕ, ◌<◌}
use Rattle.term_bank.specs.Nodes.{tree_at}
use Rattle.path_cond.specs.Bound.{KeepsListed}
use Rattle.sim_calls.specs.Listed.{Lists}
use Rattle.sim_calls.proofs.listing.add_bank.Given as goal

-- the variables of the terms so far
abbrev pub invariant-loop-id : goal.invariant-loop-id
invariant-loop-id l = record {
  listed : (j : ℕ) → j < l.id → Lists l.variables.keys (tree_at l.bank j);
  kept : KeepsListed l.fn.variables.keys l.variables.keys;
}
