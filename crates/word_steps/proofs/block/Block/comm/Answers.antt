use Rattle.memory_spec.specs.Viewed.{runs_of}
use Rattle.word_steps.specs.Views.{merged_by_order}
use Rattle.word_steps.proofs.Merged.{takes_as}
use Rattle.word_steps.proofs.Reordered.{unordered, pair_goes}
use Rattle.word_steps.proofs.block.Block.comm.Goals as goal

pub reorder_pair-requires-clause-first : goal.reorder_pair-requires-clause-first
reorder_pair-requires-clause-first c = c.in-Some.ensures.2

pub reorder_pair-requires-clause-second : goal.reorder_pair-requires-clause-second
reorder_pair-requires-clause-second c = c.in-Some.ensures.3

pub returns-in-Some-clause-line : goal.returns-in-Some-clause-line
returns-in-Some-clause-line c =
    takes_as (merged_by_order (runs_of c.args.runs.now) c.in-Some.pair.first c.in-Some.pair.second) _ c.args.bank.now c.reorder_pair.new.bank c.args.self.now c.reorder_pair.new.self c.reorder_pair.result
    (pair_goes (runs_of c.args.runs.now) c.args.bank.now c.args.self.now c.requires.block c.args.first c.args.second c.in-Some.pair c.in-Some.ensures) c.reorder_pair.ensures.line

pub returns-in-None-clause-line : goal.returns-in-None-clause-line
returns-in-None-clause-line c =
    unordered (runs_of c.args.runs.now) c.args.bank.now c.args.self.now c.requires.block c.args.first c.args.second c.in-None.ensures
