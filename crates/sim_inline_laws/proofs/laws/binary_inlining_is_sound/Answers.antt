use Rattle.sim_inline_laws.proofs.Binary.{binary_sound}
use Rattle.sim_inline_laws.proofs.laws.binary_inlining_is_sound.Goals as goal

pub returns : goal.returns
returns c = binary_sound
