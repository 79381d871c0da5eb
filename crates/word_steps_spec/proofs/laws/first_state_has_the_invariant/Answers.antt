use Rattle.word_steps_spec.proofs.Starting.{start_holds}
use Rattle.word_steps_spec.proofs.laws.first_state_has_the_invariant.Goals as goal

pub returns : goal.returns
returns c = start_holds
