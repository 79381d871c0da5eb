use Rattle.std.proofs.Common.{◌∙◌, ap}
use Rattle.std.specs.Prelude.{not}
use Rattle.memory_spec.specs.Viewed.{runs_of}
use Rattle.term_core_spec.specs.Term.{truth}
use Rattle.term_core_spec.specs.Same.{same_term}
use Rattle.term_norm.proofs.Growth.{read, within}
use Rattle.word_steps.proofs.Later.{block_later}
use Rattle.word_steps.proofs.Arguing.{refuted_is}
use Rattle.word_steps.proofs.block.Block.is_refuted_by.Goals as goal

pub form_with-requires-clause-block : goal.form_with-requires-clause-block
form_with-requires-clause-block c =
    block_later c.args.bank.now c.add.new.self c.args.self.now c.add.ensures.extends c.requires.block

pub is_truth-requires : goal.is_truth-requires
is_truth-requires c =
    within c.form_with.new.bank c.in-Ok-attempt-form.field-0 _ c.in-Ok-attempt-form.ensures.form

pub returns-3-clause-test : goal.returns-3-clause-test
returns-3-clause-test c =
    c.is_truth.ensures
    ∙ ap (λ t. same_term t (truth (not c.args.holds)))
    (read c.form_with.new.bank c.in-Ok-attempt-form.field-0 _ c.in-Ok-attempt-form.ensures.form
    ∙ refuted_is (runs_of c.args.runs.now) c.args.bank.now c.args.self.now c.requires.block c.args.index c.requires.index c.args.holds c.add.new.self c.args.place
    c.in-Ok-attempt.field-0 c.args.value c.add.ensures.extends (read c.add.new.self c.in-Ok-attempt.field-0 _ c.in-Ok-attempt.ensures.id))
