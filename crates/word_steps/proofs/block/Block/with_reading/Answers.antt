use Rattle.std.proofs.Common.{subst}
use Rattle.std.specs.Prelude.{IfOk, option_map}
use Rattle.memory_spec.specs.Viewed.{runs_of}
use Rattle.term_bank.specs.Nodes.{tree_at, Holds}
use Rattle.term_norm.proofs.Growth.{read, within, extends_through}
use Rattle.word_steps_spec.specs.Numbers.{reading}
use Rattle.word_steps.specs.Views.{and_with, numbers_of, reading_of}
use Rattle.word_steps.proofs.Joining.{below_later, same_later}
use Rattle.word_steps.proofs.block.Block.with_reading.Goals as goal

pub with_term-requires-clause-term : goal.with_term-requires-clause-term
with_term-requires-clause-term c =
    within c.read.new.bank c.in-Ok-attempt.field-0 _ c.in-Ok-attempt.ensures.form

pub with_term-requires-clause-all : goal.with_term-requires-clause-all
with_term-requires-clause-all c =
    below_later c.args.bank.now c.read.new.bank c.args.all c.read.ensures.extends c.requires.all

pub returns-2-clause-form : goal.returns-2-clause-form
returns-2-clause-form c =
    subst (λ o. IfOk c.with_term.result (λ id. Holds c.with_term.new.bank id (and_with o (reading (runs_of c.args.runs.now) (numbers_of c.args.bank.now c.args.self.now.numbers.items) (reading_of c.args.reading))))) (same_later c.args.bank.now c.read.new.bank c.args.all c.read.ensures.extends c.requires.all)
    (subst (λ t. IfOk c.with_term.result (λ id. Holds c.with_term.new.bank id (and_with (option_map (tree_at c.read.new.bank) c.args.all) t)))
    (read c.read.new.bank c.in-Ok-attempt.field-0 _ c.in-Ok-attempt.ensures.form) c.with_term.ensures.form)

pub returns-2-clause-extends : goal.returns-2-clause-extends
returns-2-clause-extends c =
    extends_through c.args.bank.now c.read.new.bank c.with_term.new.bank c.read.ensures.extends c.with_term.ensures.extends
