use Rattle.std.proofs.Common.{◌≡◌, ◌<◌, ℕ, Some}
use Rattle.std.specs.Prelude.{slice_get}
use Rattle.term_core_spec.specs.Term.{Term}
use Rattle.proof_tree_spec.specs.Scope.{IsLine}
use Rattle.proof_tree.specs.Frames.{terms_of}
use Rattle.proof_tree.specs.Scope.{setting_of}
use Rattle.sim_rules_terms.proofs.scope.first_bad.Given as goal

-- the lines so far are lines
abbrev pub invariant-loop-index : goal.invariant-loop-index
invariant-loop-index l = (k : ℕ) (line : Term) → k < l.index → slice_get (terms_of l.lines) k ≡ Some line → IsLine (setting_of l.setting) l.path line
