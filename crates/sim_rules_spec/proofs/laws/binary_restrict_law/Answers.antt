use Rattle.sim_rules_spec.proofs.Restrict.{binary_restrict_is_sound}
use Rattle.sim_rules_spec.proofs.laws.binary_restrict_law.Goals as goal

pub returns : goal.returns
returns c = λ convention f o bound terms proper opens counts are valid simulated.
    binary_restrict_is_sound convention f o bound terms proper opens counts valid are simulated
