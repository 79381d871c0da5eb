use Rattle.std.proofs.Common.{List, take, get_or, None, sym, subst, arith}
use Rattle.pair_setup.specs.declared.calling.Step.{Step}
use Rattle.std.specs.Prelude.{nat_eq}
use Rattle.std.proofs.lemmas.List.{take_more, take_all}
use Rattle.indexmap.specs.IndexMap.{get}
use Rattle.pair_setup.specs.Stacks.{IsTally}
use Rattle.pair_setup.proofs.Totals.{tally-none, tally-more}
use Rattle.pair_setup.proofs.stacks.tallied.Goals as goal

pub loop-step-init : goal.loop-step-init
loop-step-init c = tally-none (get nat_eq c.args.known.now)

pub loop-step-preserved : goal.loop-step-preserved
loop-step-preserved c =
    let steps = c.args.steps.now in
    let i = c.loop-step.step-index in
    let nothing : Step = record { opening = 0; callee = None } in
    subst (λ (l : List Step). IsTally (get nat_eq c.args.known.now) l c.in_ok-more.more) (sym (take_more steps i nothing c.loop-step-test.true))
    (tally-more (get nat_eq c.args.known.now) (take i steps) (get_or steps i nothing) c.loop-step.tally c.in_ok-more.more c.loop-step.invariant c.in_ok-more.ensures)

pub returns : goal.returns
returns c =
    subst (λ (l : List Step). IsTally (get nat_eq c.args.known.now) l c.loop-step.tally) (take_all c.loop-step.step-index c.args.steps.now (omega arith)) c.loop-step.invariant
