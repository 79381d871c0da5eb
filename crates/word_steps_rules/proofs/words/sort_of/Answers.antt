use Rattle.std.proofs.Common.{None, ◌∙◌}
use Rattle.std.proofs.lemmas.Option.{get_or_from_slice_get}
use Rattle.word_steps_rules.proofs.words.sort_of.Goals as goal

pub returns : goal.returns
returns c =
    c.sort_at.ensures ∙ get_or_from_slice_get c.args.sorts.now c.args.id _ None (c.requires.sorts.each c.args.id c.requires.within)
