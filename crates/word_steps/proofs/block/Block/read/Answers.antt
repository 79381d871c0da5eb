use Rattle.std.proofs.Common.{◌∙◌, sym, ap, subst}
use Rattle.std.specs.Prelude.{IfOk}
use Rattle.memory_spec.specs.Viewed.{runs_of}
use Rattle.term_bank.specs.Nodes.{Holds}
use Rattle.term_norm.proofs.Growth.{read, within, extends_through}
use Rattle.word_steps_spec.specs.Numbers.{signed}
use Rattle.word_steps.specs.Views.{numbers_of, read_number}
use Rattle.word_steps.proofs.block.Block.read.Goals as goal

pub signed-requires : goal.signed-requires
signed-requires c =
    within c.read_number.new.bank c.in-Ok-attempt.field-0 _ c.in-Ok-attempt.ensures.form

pub returns-2-clause-form : goal.returns-2-clause-form
returns-2-clause-form c =
    subst (λ t. IfOk c.signed.result (λ id. Holds c.signed.new.bank id (signed c.args.reading.fact.holds t)))
    (read c.read_number.new.bank c.in-Ok-attempt.field-0 _ c.in-Ok-attempt.ensures.form ∙ ap (read_number (runs_of c.args.runs.now) (numbers_of c.args.bank.now c.args.self.now.numbers.items) c.args.reading.as_made) (sym c.requires.number))
    c.signed.ensures.form

pub returns-2-clause-extends : goal.returns-2-clause-extends
returns-2-clause-extends c =
    extends_through c.args.bank.now c.read_number.new.bank c.signed.new.bank c.read_number.ensures.extends c.signed.ensures.extends
