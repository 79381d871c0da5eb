use Rattle.std.proofs.Common.{◌≡◌, ℕ, ◌<◌, Some}
use Rattle.std.specs.Prelude.{slice_get}
use Rattle.term_core_spec.specs.Term.{Term}
use Rattle.path_cond.specs.Bound.{KeepsListed}
use Rattle.proof_tree.specs.Frames.{terms_of}
use Rattle.sim_calls.specs.Listed.{Lists}
use Rattle.sim_calls.proofs.listing.add_lines.Given as goal

-- the variables of the lines so far
abbrev pub invariant-loop-i : goal.invariant-loop-i
invariant-loop-i l = record {
  listed : (k : ℕ) (line : Term) → k < l.i → slice_get (terms_of l.lines) k ≡ Some line → Lists l.variables.keys line;
  kept : KeepsListed l.fn.variables.keys l.variables.keys;
}
