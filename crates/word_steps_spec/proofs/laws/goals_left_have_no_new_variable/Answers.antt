use Rattle.word_steps_spec.proofs.OldVariables.{old_after_block}
use Rattle.word_steps_spec.proofs.laws.goals_left_have_no_new_variable.Goals as goal

pub returns : goal.returns
returns c = old_after_block
