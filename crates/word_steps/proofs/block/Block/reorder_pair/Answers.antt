use Rattle.std.proofs.Common.{subst}
use Rattle.memory_spec.specs.Viewed.{runs_of}
use Rattle.word_steps.specs.Views.{merged_by_order}
use Rattle.word_steps.specs.Outcomes.{TriesOne}
use Rattle.word_steps.proofs.block.Block.reorder_pair.Goals as goal

pub returns-then-allocated-clause-line : goal.returns-then-allocated-clause-line
returns-then-allocated-clause-line c =
    subst (TriesOne c.args.bank.now c.merge_by_order.new.bank c.args.self.now c.merge_by_order.new.self (merged_by_order (runs_of c.args.runs.now) c.args.pair.first c.args.pair.second)) c.if-allocated.true c.in-Ok-allocated.ensures.tries

pub returns-2-clause-line : goal.returns-2-clause-line
returns-2-clause-line c =
    subst (TriesOne c.args.bank.now c.merge_by_order.new.bank c.args.self.now c.merge_by_order.new.self (merged_by_order (runs_of c.args.runs.now) c.args.pair.first c.args.pair.second)) c.if-allocated.false c.in-Ok-allocated.ensures.tries
