use Rattle.std.proofs.Common.{suc}
use Rattle.std.proofs.lemmas.Result.{on_ok_weaker}
use Rattle.memory_spec.specs.Viewed.{runs_of}
use Rattle.word_steps_spec.specs.Numbers as spec
use Rattle.word_steps.specs.Views.{fact_at, noted_fact}
use Rattle.word_steps.proofs.Later.{becomes_then}
use Rattle.word_steps.proofs.block.Block.add_fact.Goals as goal

pub returns-clause-becomes : goal.returns-clause-becomes
returns-clause-becomes c =
    on_ok_weaker c.renew_at.result
    (becomes_then c.args.bank.now c.args.bank.now c.renew_at.new.bank c.args.self.now c.note_fact.new.self c.renew_at.new.self (noted_fact (fact_at c.args.index c.args.holds))
    (spec.renew (runs_of c.args.runs.now) (suc c.args.index)) (c.note_fact.ensures.becomes c.args.bank.now c.requires.block))
    c.renew_at.ensures.becomes
