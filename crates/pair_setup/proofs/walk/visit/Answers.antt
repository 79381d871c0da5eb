use Rattle.std.proofs.Common.{List, sym, subst, true≢false}
use Rattle.std.specs.Prelude.{IfSome}
use Rattle.pair_setup.specs.Calling.{AreSteps}
use Rattle.pair_setup.specs.declared.calling.Step.{Step}
use Rattle.pair_setup_calls.specs.Graph.{Grows}
use Rattle.pair_setup.specs.Names.{IsOf}
use Rattle.pair_setup.specs.Walks.{IsCalled}
use Rattle.pair_setup.proofs.walk.visit.Goals as goal

pub returns-in-Ok-attempt-2 : goal.returns-in-Ok-attempt-2
returns-in-Ok-attempt-2 c = λ _. record {
  steps = c.in-Some.steps.items;
  are = subst (λ o. IfSome o (λ steps. AreSteps c.args.image.now c.args.entry steps.items)) c.in-Some.is c.in-Ok-attempt.ensures;
  grows = subst (λ (l : List Step). Grows (IsOf IsCalled l) c.args.entries.now.keys c.add_callees.new.entries.keys) c.as_slice.ensures.value c.in-Ok-attempt-2.ensures;
}

pub returns-in-None : goal.returns-in-None
returns-in-None c = λ no. absurd (true≢false (sym no))
