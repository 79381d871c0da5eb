use Rattle.std.proofs.Common.{subst}
use Rattle.memory_spec.specs.Viewed.{runs_of}
use Rattle.word_steps_spec.specs.Numbers.{reading}
use Rattle.word_steps.specs.Views.{numbers_of, reading_of}
use Rattle.word_steps.specs.Outcomes.{AreFacts}
use Rattle.std.proofs.Common.{map}
use Rattle.word_steps.proofs.Joining.{nothing_kept, one_left, goal_is, id_below}
use Rattle.word_steps.proofs.block.Block.keep.Goals as goal

pub returns-then-not-are_facts-clause-left : goal.returns-then-not-are_facts-clause-left
returns-then-not-are_facts-clause-left c =
    nothing_kept (runs_of c.args.runs.now) c.args.bank.now c.args.bank.now c.args.self.now c.args.kept.now (subst (AreFacts c.args.self.now c.args.kept.now) c.if-not-are_facts.true c.are_facts.ensures)

pub returns-3-clause-left : goal.returns-3-clause-left
returns-3-clause-left c =
    let ts = map (reading (runs_of c.args.runs.now) (numbers_of c.args.bank.now c.args.self.now.numbers.items)) (map reading_of c.args.kept.now) in (
      id_below c.not_all.new.bank c.in-Ok-allocated-goal.field-0 _ c.in-Ok-allocated-goal.ensures.form,
      one_left (runs_of c.args.runs.now) c.args.bank.now c.not_all.new.bank c.args.self.now c.args.kept.now c.in-Ok-allocated-goal.field-0 (subst (AreFacts c.args.self.now c.args.kept.now) c.if-not-are_facts.false c.are_facts.ensures)
          (goal_is (runs_of c.args.runs.now) c.conjunction.new.bank c.not_all.new.bank ts c.in-Ok-allocated.field-0 c.in-Ok-allocated-goal.field-0 c.in-Ok-allocated.ensures.form c.in-Ok-allocated-goal.ensures.form),
    )
