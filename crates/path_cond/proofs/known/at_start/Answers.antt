use Rattle.std.proofs.Common.{◌∙◌, arith}
use Rattle.path_cond.proofs.known.at_start.Goals as goal

pub returns-clause-full : goal.returns-clause-full
returns-clause-full c = λ count full. (
  c.in_ok-condition.ensures.within,
  λ k less.
      let at = full k less in
      let longer = c.add.ensures.longer in
      (at.0, c.in_ok-state.ensures k ∙ at.1, omega (arith, at.2)),
)
