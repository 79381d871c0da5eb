use Rattle.std.proofs.Common.{sym, ◌∙◌}
use Rattle.word_steps_rules.proofs.Equalities.{sides_found, no_sides}
use Rattle.word_steps_rules.proofs.words.sides_at.Goals as goal

pub returns-then-are_words : goal.returns-then-are_words
returns-then-are_words c =
    sides_found c.args.bank.now c.args.id c.in-Some.equality c.in-Some.ensures (sym c.are_words.ensures ∙ c.if-are_words.true)

pub returns-else-are_words : goal.returns-else-are_words
returns-else-are_words c =
    no_sides c.args.bank.now c.args.id c.in-Some.equality c.in-Some.ensures (sym c.are_words.ensures ∙ c.if-are_words.false)
