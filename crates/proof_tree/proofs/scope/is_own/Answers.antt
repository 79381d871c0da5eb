use Rattle.std.proofs.Common.{refl}
use Rattle.std.proofs.lemmas.Bool.{both_ways}
use Rattle.proof_tree.specs.Scope.{body_of, Owns}
use Rattle.proof_tree.proofs.Somewhere.{some_at, nowhere}
use Rattle.proof_tree.proofs.scope.is_own.Goals as goal

pub returns-then-owns : goal.returns-then-owns
returns-then-owns c = (
  (λ is. some_at (Owns c.args.path.now c.args.v) body_of c.args.bodies.now c.loop-body.body-index c.body-item.result c.loop-body-test.true c.body-item.is
      (c.owns.ensures.0 c.if-owns.true)),
  (λ some. refl),
)

pub returns : goal.returns
returns c = (
  (λ bad. absurd (both_ways _ refl bad)),
  (λ some. absurd (nowhere (Owns c.args.path.now c.args.v) body_of c.args.bodies.now c.loop-body.body-index c.loop-body-test.false c.loop-body.invariant some)),
)
