use Rattle.std.proofs.Common.{◌≡◌, true, false, arith}
use Rattle.proof_tree.specs.Proofs.{proof_of}
use Rattle.proof_tree.proofs.Nested.{some_nesting}
use Rattle.proof_tree.proofs.proof.+nests_within.Goals as goal

never : false ≡ true → ⊥
never e = cc

pub returns-then-room-eq0 : goal.returns-then-room-eq0
returns-then-room-eq0 t c = (
  λ bad. absurd (never bad),
  λ small. let some = some_nesting (proof_of c.args.proof.now) in let none = c.if-room-eq0.true in absurd (omega arith),
)
