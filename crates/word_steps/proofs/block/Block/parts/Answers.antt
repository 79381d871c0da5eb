use Rattle.std.proofs.Common.{subst}
use Rattle.memory_spec.specs.Viewed.{runs_of}
use Rattle.word_steps_spec.specs.Lines as lines
use Rattle.word_steps.specs.Outcomes.{Tries}
use Rattle.word_steps.specs.Views.{fact_at, with_all_places}
use Rattle.word_steps.proofs.Taken.{no_fact, says_something, says_nothing}
use Rattle.word_steps.proofs.block.Block.parts.Goals as goal

pub try_arguments-requires-clause-index : goal.try_arguments-requires-clause-index
try_arguments-requires-clause-index c =
    c.in-Some.ensures.1

pub returns-then-allocated-clause-line : goal.returns-then-allocated-clause-line
unfolding lines.applied
returns-then-allocated-clause-line c =
    says_something c.args.bank.now c.args.self.now c.args.fact (λ f s. with_all_places (runs_of c.args.runs.now) f s) c.in-Some.index c.in-Some.ensures c.try_arguments.new.bank c.try_arguments.new.self (subst (Tries c.args.bank.now c.try_arguments.new.bank c.args.self.now c.try_arguments.new.self (λ s. with_all_places (runs_of c.args.runs.now) (fact_at c.in-Some.index c.args.fact.holds) s)) c.if-allocated.true c.in-Ok-allocated.ensures.tries)

pub returns-else-allocated-clause-line : goal.returns-else-allocated-clause-line
unfolding lines.applied
returns-else-allocated-clause-line c =
    says_nothing c.args.bank.now c.args.self.now c.args.fact (λ f s. with_all_places (runs_of c.args.runs.now) f s) c.in-Some.index c.in-Some.ensures c.try_arguments.new.bank c.try_arguments.new.self (subst (Tries c.args.bank.now c.try_arguments.new.bank c.args.self.now c.try_arguments.new.self (λ s. with_all_places (runs_of c.args.runs.now) (fact_at c.in-Some.index c.args.fact.holds) s)) c.if-allocated.false c.in-Ok-allocated.ensures.tries)

pub returns-in-None-clause-line : goal.returns-in-None-clause-line
unfolding lines.applied
returns-in-None-clause-line c =
    no_fact c.args.bank.now c.args.self.now c.args.fact (λ f s. with_all_places (runs_of c.args.runs.now) f s) c.in-None.ensures
