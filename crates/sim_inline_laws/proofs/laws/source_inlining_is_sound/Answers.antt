use Rattle.sim_inline_laws.proofs.Source.{source_sound}
use Rattle.sim_inline_laws.proofs.laws.source_inlining_is_sound.Goals as goal

pub returns : goal.returns
returns c = source_sound
