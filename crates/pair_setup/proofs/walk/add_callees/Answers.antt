use Rattle.std.proofs.Common.{List, take, get_or, None, sym, subst, arith}
use Rattle.pair_setup.specs.declared.calling.Step.{Step}
use Rattle.std.proofs.lemmas.List.{take_more, take_all}
use Rattle.pair_setup_calls.specs.Graph.{Grows}
use Rattle.pair_setup.specs.Names.{IsOf}
use Rattle.pair_setup.specs.Walks.{IsCalled}
use Rattle.pair_setup.proofs.Added.{of-none, of-more}
use Rattle.pair_setup.proofs.walk.add_callees.Goals as goal

pub loop-step-init : goal.loop-step-init
loop-step-init c = of-none IsCalled c.args.entries.now.keys

pub loop-step-preserved : goal.loop-step-preserved
loop-step-preserved c =
    let steps = c.args.steps.now in
    let i = c.loop-step.step-index in
    let nothing : Step = record { opening = 0; callee = None } in
    subst (λ (l : List Step). Grows (IsOf IsCalled l) c.args.entries.now.keys c.add_callee.new.entries.keys) (sym (take_more steps i nothing c.loop-step-test.true))
    (of-more IsCalled (take i steps) (get_or steps i nothing) c.args.entries.now.keys c.loop-step.entries.keys c.add_callee.new.entries.keys c.loop-step.invariant
    c.in-Ok-attempt.ensures)

pub returns : goal.returns
returns c =
    subst (λ (l : List Step). Grows (IsOf IsCalled l) c.args.entries.now.keys c.loop-step.entries.keys) (take_all c.loop-step.step-index c.args.steps.now (omega arith))
    c.loop-step.invariant
