use Rattle.sim_inline_laws.proofs.Chained.{bytes_kept}
use Rattle.sim_inline_laws.proofs.laws.fixed_bytes_are_kept.Goals as goal

pub returns : goal.returns
returns c = bytes_kept
