use Rattle.std.proofs.Common.{refl, ap, set, ◌∙◌}
use Rattle.word_steps.specs.declared.number.Marks.{Marks}
use Rattle.word_steps.specs.declared.number.Number.{Number}
use Rattle.word_steps.specs.Views.{with_truth}
use Rattle.std.proofs.lemmas.List.{length-set}
use Rattle.word_steps.proofs.Noted.{fact_becomes}
use Rattle.word_steps.proofs.block.Block.note_fact.Goals as goal

pub returns-clause-becomes : goal.returns-clause-becomes
returns-clause-becomes c =
    let items = c.args.self.now.numbers.items in
    λ trees is.
    fact_becomes trees c.args.self.now _ c.args.index c.args.holds c.requires
    (ap (λ (m : Marks). set items c.args.index (record (c.number-number.result) { marks = m })) c.with_truth-number.ensures
    ∙ ap (λ (n : Number). set items c.args.index (record n { marks = with_truth n.marks c.args.holds })) c.number-number.ensures)
    refl refl refl is

pub returns-clause-count : goal.returns-clause-count
returns-clause-count c = length-set c.args.self.now.numbers.items c.args.index _
