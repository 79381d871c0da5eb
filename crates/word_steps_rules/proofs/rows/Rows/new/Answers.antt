use Rattle.word_steps_rules.proofs.Filled.{no_table}
use Rattle.word_steps_rules.proofs.rows.Rows.new.Goals as goal

pub returns : goal.returns
returns c = λ trees. no_table trees _ c.new.ensures.empty c.new-2.ensures.items
