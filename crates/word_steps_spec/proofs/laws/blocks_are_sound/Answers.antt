use Rattle.word_steps_spec.proofs.Left.{block_is_enough}
use Rattle.word_steps_spec.proofs.laws.blocks_are_sound.Goals as goal

pub returns : goal.returns
returns c = block_is_enough
