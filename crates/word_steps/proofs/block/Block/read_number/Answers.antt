use Rattle.std.proofs.Common.{suc, ◌∙◌, sym, ap, subst, Some}
use Rattle.std.specs.Prelude.{IfOk}
use Rattle.memory_spec.specs.Viewed.{runs_of}
use Rattle.term_bank.specs.Nodes.{Holds}
use Rattle.term_bank.proofs.Growth.{held}
use Rattle.word_steps_spec.specs.Numbers as spec
use Rattle.word_steps.specs.declared.number.Number.{Number}
use Rattle.word_steps.specs.Views.{no_number, number_in, numbers_of, read_number}
use Rattle.word_steps.proofs.Later.{number_at_is}
use Rattle.word_steps.proofs.Renewals.{rebuilt_is}
use Rattle.word_steps.proofs.block.Block.read_number.Goals as goal

pub returns-then-as_made-clause-form : goal.returns-then-as_made-clause-form
returns-then-as_made-clause-form c =
    let items = c.args.self.now.numbers.items in
    let n = number_in items c.args.index in
    subst (λ b. Holds c.args.bank.now c.number-number.result.term (read_number (runs_of c.args.runs.now) (numbers_of c.args.bank.now items) b (suc c.args.index))) (sym c.if-as_made.true)
    (subst (λ (m : Number). Holds c.args.bank.now m.term (spec.term_at (numbers_of c.args.bank.now items) (suc c.args.index))) (sym c.number-number.ensures)
    (held c.args.bank.now n.term ((c.requires.block.numbers c.args.index no_number c.requires.index).term)
    ∙ ap Some (sym (ap (λ (m : spec.Number). m.term) (number_at_is c.args.bank.now items c.args.index c.requires.index)))))

pub returns-clause-form : goal.returns-clause-form
returns-clause-form c =
    subst (λ b. IfOk c.form_with.result (λ id. Holds c.form_with.new.bank id (read_number (runs_of c.args.runs.now) (numbers_of c.args.bank.now c.args.self.now.numbers.items) b (suc c.args.index)))) (sym c.if-as_made.false)
    (subst (λ t. IfOk c.form_with.result (λ id. Holds c.form_with.new.bank id t)) (rebuilt_is (runs_of c.args.runs.now) c.args.bank.now c.args.self.now c.requires.block c.args.index c.requires.index c.number-number.result.now) c.form_with.ensures.form)
