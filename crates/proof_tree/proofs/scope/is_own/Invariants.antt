use Rattle.std.proofs.Common.{ℕ, ◌<◌, get_or}
use Rattle.proof_tree.specs.declared.scope.Body.{Body}
use Rattle.proof_tree.specs.Scope.{body_of, Owns}
use Rattle.proof_tree.proofs.scope.is_own.Given as goal

-- none of the bodies so far has it
abbrev pub invariant-loop-body : goal.invariant-loop-body
invariant-loop-body l = (k : ℕ) (d : Body) → k < l.body-index → Owns l.path l.v (body_of (get_or l.bodies k d)) → ⊥
