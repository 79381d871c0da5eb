use Rattle.std.proofs.Common.{◌≡◌, None, sym, ap, ◌∙◌, subst}
use Rattle.std.specs.Prelude.{IfOk}
use Rattle.memory_spec.specs.Viewed.{runs_of}
use Rattle.term_bank.specs.Nodes.{Holds}
use Rattle.word_steps.specs.declared.number.Number.{Number}
use Rattle.word_steps.specs.Views.{number_in}
use Rattle.word_steps.proofs.Renewals.{is_other, merged_other, merged_rebuilt}
use Rattle.word_steps.proofs.block.Block.merged_or_rebuilt.Goals as goal

pub other_term-requires-clause-other : goal.other_term-requires-clause-other
other_term-requires-clause-other c =
    is_other (runs_of c.args.runs.now) c.args.bank.now c.args.self.now c.requires.block c.args.index c.requires.index c.in-Some.other
    (ap (λ (m : Number). m.marks.merged) (sym c.requires.number) ∙ c.in-Some.is)

pub returns-in-Some-clause-form : goal.returns-in-Some-clause-form
returns-in-Some-clause-form c =
    subst (λ t. IfOk c.other_term.result (λ id. Holds c.other_term.new.bank id t))
    (merged_other (runs_of c.args.runs.now) c.args.bank.now c.args.self.now c.requires.block c.args.index c.requires.index c.in-Some.other
    (ap (λ (m : Number). m.marks.merged) (sym c.requires.number) ∙ c.in-Some.is)) c.other_term.ensures.other

pub returns-in-None-clause-form : goal.returns-in-None-clause-form
returns-in-None-clause-form c =
    let items = c.args.self.now.numbers.items in
    let known = ap (λ (m : Number). m.marks.merged) c.requires.number in
    let none = c.in-None.is in
    let e : (number_in items c.args.index).marks.merged ≡ None = cc in
    subst (λ t. IfOk c.form_with.result (λ id. Holds c.form_with.new.bank id t))
    (merged_rebuilt (runs_of c.args.runs.now) c.args.bank.now c.args.self.now c.requires.block c.args.index c.requires.index c.args.number.now e) c.form_with.ensures.form
