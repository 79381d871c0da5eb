use Rattle.std.proofs.Common.{suc, ap, ◌∙◌}
use Rattle.std.proofs.lemmas.Result.{IfOk-weaker}
use Rattle.memory_spec.specs.Viewed.{runs_of}
use Rattle.term_bank.specs.Subterms.{arguments_of}
use Rattle.word_steps_spec.specs.Lines as lines
use Rattle.word_steps.specs.declared.number.Number.{Number}
use Rattle.word_steps.specs.Outcomes.{Tries}
use Rattle.word_steps.specs.Views.{place_of, numbers_of, fact_at, with_said}
use Rattle.term_norm.proofs.Growth.{extends_same}
use Rattle.word_steps.proofs.Arguing.{no_argument, other_within, said_is, tries_as}
use Rattle.word_steps.proofs.block.Block.try_argument.Goals as goal

pub add_argument-requires-clause-other : goal.add_argument-requires-clause-other
add_argument-requires-clause-other c =
    other_within (runs_of c.args.runs.now) c.args.bank.now c.args.self.now c.requires.block c.args.index c.requires.index c.args.holds c.args.place c.in-Some.other (c.in-Some.ensures ∙ ap (λ (m : Number). place_of (arguments_of m.operation) c.args.place) c.number.ensures)

pub returns-in-None-clause-tries : goal.returns-in-None-clause-tries
returns-in-None-clause-tries c =
    no_argument (runs_of c.args.runs.now) c.args.bank.now c.args.self.now c.requires.block c.args.index c.requires.index c.args.holds c.args.place c.args.bank.now (extends_same c.args.bank.now)
    (c.in-None.ensures ∙ ap (λ (m : Number). place_of (arguments_of m.operation) c.args.place) c.number.ensures)

pub returns-in-Some-clause-tries : goal.returns-in-Some-clause-tries
returns-in-Some-clause-tries c =
    let one = with_said (runs_of c.args.runs.now) (numbers_of c.args.bank.now c.args.self.now.numbers.items) (fact_at c.args.index c.args.holds) c.args.place (suc c.in-Some.other) in
    let line = lines.with_argument_fact (runs_of c.args.runs.now) (fact_at c.args.index c.args.holds) c.args.place in
    IfOk-weaker c.add_argument.result (Tries c.args.bank.now c.add_argument.new.bank c.args.self.now c.add_argument.new.self one) (Tries c.args.bank.now c.add_argument.new.bank c.args.self.now c.add_argument.new.self line)
    (λ found. tries_as c.args.bank.now c.add_argument.new.bank c.args.self.now c.add_argument.new.self one line found
    (said_is (runs_of c.args.runs.now) c.args.bank.now c.args.self.now c.requires.block c.args.index c.requires.index c.args.holds c.args.place c.in-Some.other (c.in-Some.ensures ∙ ap (λ (m : Number). place_of (arguments_of m.operation) c.args.place) c.number.ensures)))
    c.add_argument.ensures.tries
