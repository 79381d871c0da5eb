use Rattle.word_steps_spec.proofs.Lines.{line_holds}
use Rattle.word_steps_spec.proofs.laws.lines_keep_the_invariant.Goals as goal

pub returns : goal.returns
returns c = line_holds
