use Rattle.std.proofs.Common.{◌∙◌, ◌∷◌, [], ◌++◌, List, ap}
use Rattle.prove_run.specs.declared.trail.Trail.{Trail}
use Rattle.prove_run.proofs.Listing.{pushed_failure}
use Rattle.prove_run.proofs.trails.add_unproved.Goals as goal

pub returns-4 : goal.returns-4
returns-4 c =
    pushed_failure c.args.unproved.now.items _ _ c.args.name.now c.args.trail c.in-Ok-attempt-3.ensures.items c.in-Ok-attempt.ensures.items
    (c.in-Ok-attempt-2.ensures.items ∙ ap (λ (l : List Trail). l ++ c.args.trail ∷ []) c.new-trails.ensures.items)
