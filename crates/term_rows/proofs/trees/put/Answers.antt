use Rattle.std.proofs.Common.{◌∙◌, sym}
use Rattle.term_rows.proofs.States.{below_chosen}
use Rattle.term_rows.proofs.trees.put.Goals as goal

pub returns-in_ok-insert : goal.returns-in_ok-insert
returns-in_ok-insert c v i e =
    below_chosen _ c.args.size c.args.id i _ c.requires.id (c.requires.state v i) (sym (c.in_ok-insert.ensures.updates.0 v) ∙ e)
