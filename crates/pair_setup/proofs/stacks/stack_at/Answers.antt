use Rattle.std.proofs.Common.{sym, subst}
use Rattle.std.specs.Prelude.{nat_eq, IfSome}
use Rattle.indexmap.specs.IndexMap.{get}
use Rattle.code_reach_spec.specs.Code.{IsStack}
use Rattle.pair_setup.specs.Calling.{AreSteps}
use Rattle.pair_setup.specs.Stacks.{IsTotal}
use Rattle.pair_setup.proofs.Totals.{if-some, total-stack}
use Rattle.pair_setup.proofs.stacks.stack_at.Goals as goal

pub returns-in-Some : goal.returns-in-Some
returns-in-Some c =
    let are : AreSteps c.args.image.now c.args.entry c.as_slice.result.now =
    subst (AreSteps c.args.image.now c.args.entry) (sym c.as_slice.ensures.value)
    (subst (λ o. IfSome o (λ steps. AreSteps c.args.image.now c.args.entry steps.items)) c.in-Some.is c.in-Ok-attempt.ensures) in
    if-some c.total.result (IsTotal (get nat_eq c.args.known.now) c.as_slice.result.now) (IsStack c.args.image.now c.args.entry)
    (λ stack t. total-stack c.args.image.now c.args.entry c.as_slice.result.now are (get nat_eq c.args.known.now) stack c.requires t) c.total.ensures
