use Rattle.std.proofs.Common.{sym, ap, ◌∙◌}
use Rattle.std.specs.Prelude.{option_map}
use Rattle.memory_spec.specs.Viewed.{runs_of}
use Rattle.word_steps.specs.Views.{fact_at}
use Rattle.word_steps.proofs.Later.{block_later}
use Rattle.word_steps.proofs.Arguing.{no_value, a_value}
use Rattle.word_steps.proofs.block.Block.add_argument.Goals as goal

pub add_fact-requires-clause-block : goal.add_fact-requires-clause-block
add_fact-requires-clause-block c =
    block_later c.args.bank.now c.argument_value.new.bank c.args.self.now c.argument_value.ensures.extends c.requires.block

pub returns-in-None-clause-tries : goal.returns-in-None-clause-tries
returns-in-None-clause-tries c =
    no_value (runs_of c.args.runs.now) c.args.bank.now c.args.self.now c.requires.block c.args.index c.requires.index c.args.holds c.args.place c.args.other c.argument_value.new.bank c.argument_value.ensures.extends (ap (option_map (fact_at c.args.other)) (sym c.in-None.is) ∙ c.in-Ok-attempt.ensures.value)

pub returns-in-Ok-attempt-2-clause-tries : goal.returns-in-Ok-attempt-2-clause-tries
returns-in-Ok-attempt-2-clause-tries c =
    a_value (runs_of c.args.runs.now) c.args.bank.now c.args.self.now c.requires.block c.args.index c.requires.index c.args.holds c.args.place c.args.other c.argument_value.new.bank c.add_fact.new.bank c.add_fact.new.self c.in-Some.value c.argument_value.ensures.extends
    (ap (option_map (fact_at c.args.other)) (sym c.in-Some.is) ∙ c.in-Ok-attempt.ensures.value) c.in-Ok-attempt-2.ensures.becomes
