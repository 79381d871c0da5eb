use Rattle.std.proofs.Common.{subst}
use Rattle.memory_spec.specs.Viewed.{runs_of}
use Rattle.word_steps.specs.Views.{merged_by_fact}
use Rattle.word_steps.specs.Outcomes.{TriesOne}
use Rattle.word_steps.proofs.Merged.{no_fact, is_taken, is_refused}
use Rattle.word_steps.proofs.block.Block.same_pair.Goals as goal

pub merge_by_fact-requires-clause-index : goal.merge_by_fact-requires-clause-index
merge_by_fact-requires-clause-index c =
    c.in-Some.ensures.1

pub merge_by_fact-requires-clause-number : goal.merge_by_fact-requires-clause-number
merge_by_fact-requires-clause-number c =
    c.in-Some.ensures.0

pub returns-then-allocated-clause-line : goal.returns-then-allocated-clause-line
returns-then-allocated-clause-line c =
    is_taken (runs_of c.args.runs.now) c.args.bank.now c.merge_by_fact.new.bank c.args.self.now c.merge_by_fact.new.self c.args.pair.first c.args.pair.second c.args.fact c.in-Some.index c.in-Some.ensures (subst (TriesOne c.args.bank.now c.merge_by_fact.new.bank c.args.self.now c.merge_by_fact.new.self (merged_by_fact (runs_of c.args.runs.now) c.args.pair.first c.args.pair.second c.args.fact)) c.if-allocated.true c.in-Ok-allocated.ensures.tries)

pub returns-else-allocated-clause-line : goal.returns-else-allocated-clause-line
returns-else-allocated-clause-line c =
    is_refused (runs_of c.args.runs.now) c.args.bank.now c.merge_by_fact.new.bank c.args.self.now c.merge_by_fact.new.self c.args.pair.first c.args.pair.second c.args.fact c.in-Some.index c.in-Some.ensures (subst (TriesOne c.args.bank.now c.merge_by_fact.new.bank c.args.self.now c.merge_by_fact.new.self (merged_by_fact (runs_of c.args.runs.now) c.args.pair.first c.args.pair.second c.args.fact)) c.if-allocated.false c.in-Ok-allocated.ensures.tries)

pub returns-in-None-clause-line : goal.returns-in-None-clause-line
returns-in-None-clause-line c =
    no_fact (runs_of c.args.runs.now) c.args.bank.now c.args.bank.now c.args.self.now c.args.self.now c.args.pair.first c.args.pair.second c.args.fact c.in-None.ensures
