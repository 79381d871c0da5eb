use Rattle.memory_spec.specs.Viewed.{runs_of}
use Rattle.word_steps.specs.Views.{merged_if_fact}
use Rattle.word_steps.proofs.Merged.{unpaired, pair_goes, takes_as}
use Rattle.word_steps.proofs.block.Block.same.Goals as goal

pub same_pair-requires-clause-first : goal.same_pair-requires-clause-first
same_pair-requires-clause-first c =
    c.in-Some.ensures.2

pub same_pair-requires-clause-second : goal.same_pair-requires-clause-second
same_pair-requires-clause-second c =
    c.in-Some.ensures.3

pub returns-in-Some-clause-line : goal.returns-in-Some-clause-line
returns-in-Some-clause-line c =
    takes_as (merged_if_fact (runs_of c.args.runs.now) c.in-Some.pair.first c.in-Some.pair.second c.args.fact) _ c.args.bank.now c.same_pair.new.bank c.args.self.now c.same_pair.new.self c.same_pair.result
    (pair_goes (runs_of c.args.runs.now) c.args.bank.now c.args.self.now c.requires c.args.first c.args.second c.args.fact c.in-Some.pair c.in-Some.ensures) c.same_pair.ensures.line

pub returns-in-None-clause-line : goal.returns-in-None-clause-line
returns-in-None-clause-line c =
    unpaired (runs_of c.args.runs.now) c.args.bank.now c.args.self.now c.requires c.args.first c.args.second c.args.fact c.in-None.ensures
