use Rattle.std.proofs.Common.{◌∙◌, ap, subst}
use Rattle.std.specs.Prelude.{IfOk}
use Rattle.memory_spec.specs.Viewed.{runs_of}
use Rattle.term_core_spec.specs.Term.{not_term}
use Rattle.term_norm_spec.specs.Normal.{normal}
use Rattle.term_bank.specs.Nodes.{Holds}
use Rattle.term_norm.proofs.Growth.{read, within, extends_through}
use Rattle.word_steps.proofs.goals.not_all.Goals as goal

pub add-requires : goal.add-requires
add-requires c =
    within c.or_true.new.bank c.in-Ok-attempt.field-0 _ c.in-Ok-attempt.ensures.form

pub returns-2-clause-extends : goal.returns-2-clause-extends
returns-2-clause-extends c =
    extends_through c.args.bank.now c.or_true.new.bank c.add.new.self c.or_true.ensures.extends c.add.ensures.extends

pub returns-3-clause-form : goal.returns-3-clause-form
returns-3-clause-form c =
    subst (λ t. IfOk c.normal.result (λ id. Holds c.normal.new.bank id (normal (runs_of c.args.runs.now) t)))
    (read c.add.new.self c.in-Ok-attempt-opposite.field-0 _ c.in-Ok-attempt-opposite.ensures.id ∙ ap not_term (read c.or_true.new.bank c.in-Ok-attempt.field-0 _ c.in-Ok-attempt.ensures.form))
    c.normal.ensures.form

pub returns-3-clause-extends : goal.returns-3-clause-extends
returns-3-clause-extends c =
    extends_through c.args.bank.now c.add.new.self c.normal.new.bank (extends_through c.args.bank.now c.or_true.new.bank c.add.new.self c.or_true.ensures.extends c.add.ensures.extends) c.normal.ensures.extends
