use Rattle.std.proofs.Common.{subst}
use Rattle.memory_spec.specs.Viewed.{runs_of}
use Rattle.word_steps.specs.Outcomes.{AreFacts}
use Rattle.word_steps.proofs.Joining.{no_case, no_facts_case, two_left, id_below}
use Rattle.word_steps.proofs.block.Block.case.Goals as goal

pub returns-then-not-are_facts-clause-left : goal.returns-then-not-are_facts-clause-left
returns-then-not-are_facts-clause-left c =
    no_facts_case (runs_of c.args.runs.now) c.args.bank.now c.args.bank.now c.args.self.now c.args.kept.now c.args.number (subst (AreFacts c.args.self.now c.args.kept.now) c.if-not-are_facts.true c.are_facts.ensures)

pub returns-in-Ok-allocated-clause-left : goal.returns-in-Ok-allocated-clause-left
returns-in-Ok-allocated-clause-left c =
    let ids = c.in-Ok-allocated.field-0 in
    let goals = c.in-Ok-allocated.ensures.goals in (
      id_below c.case_goals.new.bank ids.0 _ goals.first_holds,
      id_below c.case_goals.new.bank ids.1 _ goals.second_holds,
      two_left (runs_of c.args.runs.now) c.args.bank.now c.case_goals.new.bank c.args.self.now c.args.kept.now c.args.number c.in-Some.index ids.0 ids.1 c.requires (subst (AreFacts c.args.self.now c.args.kept.now) c.if-not-are_facts.false c.are_facts.ensures) c.in-Some.ensures goals,
    )

pub returns-in-None-clause-left : goal.returns-in-None-clause-left
returns-in-None-clause-left c =
    no_case (runs_of c.args.runs.now) c.args.bank.now c.args.bank.now c.args.self.now c.args.kept.now c.args.number c.requires c.in-None.ensures
