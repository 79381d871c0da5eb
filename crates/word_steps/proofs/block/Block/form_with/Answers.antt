use Rattle.std.proofs.Common.{◌∙◌, length, sym, ap, subst}
use Rattle.memory_spec.specs.Viewed.{runs_of}
use Rattle.term_norm_spec.specs.Normal.{normal}
use Rattle.term_norm.proofs.Growth.{read}
use Rattle.term_bank.specs.Nodes.{IsNode, Holds, build}
use Rattle.word_steps.specs.declared.number.Number.{Number}
use Rattle.word_steps.specs.Views.{node_over, now_in}
use Rattle.word_steps.proofs.Renewals.{nows_within}
use Rattle.word_steps.proofs.block.Block.form_with.Goals as goal

pub add-requires : goal.add-requires
add-requires c =
    subst (IsNode (length c.args.bank.now)) (sym (c.over_nows-node.ensures ∙ ap (λ (m : Number). node_over (now_in c.args.self.now.numbers.items c.args.at c.args.id) m.operation) c.number.ensures))
    (nows_within (runs_of c.args.runs.now) c.args.bank.now c.args.self.now c.requires.block c.args.index c.requires.index c.args.at c.args.id c.requires.id)

pub returns-3-clause-form : goal.returns-3-clause-form
returns-3-clause-form c =
    let made = read c.add.new.self c.in-Ok-attempt.field-0 _ c.in-Ok-attempt.ensures.id ∙ ap (build c.args.bank.now) (c.over_nows-node.ensures ∙ ap (λ (m : Number). node_over (now_in c.args.self.now.numbers.items c.args.at c.args.id) m.operation) c.number.ensures) in
    subst (λ t. Holds c.normal.new.bank c.in-Ok-attempt-form.field-0 (normal (runs_of c.args.runs.now) t)) made c.in-Ok-attempt-form.ensures.form
