use Rattle.std.proofs.Common.{◌∙◌, ◌++◌, List, ap, refl}
use Rattle.prove_run.specs.declared.trails.Unproved.{Unproved}
use Rattle.prove_run.specs.Trails.{failures_in, failures_of}
use Rattle.prove_run.proofs.Listing.{same_failures}
use Rattle.prove_run.proofs.trails.Trails.of.Goals as goal

pub returns-2 : goal.returns-2
returns-2 c = λ functions are. (
  refl,
  c.in-Ok-attempt.ensures
      ∙ ap (λ (l : List Unproved). failures_of l ++ failures_in c.args.listed.now c.args.found.items) c.new-unproved.ensures.items
      ∙ same_failures c.args.listed.now functions c.args.found.items are,
)
