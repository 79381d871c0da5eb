use Rattle.std.proofs.Common.{ℕ, ap}
use Rattle.std.specs.Prelude.{◌==◌}
use Rattle.std.proofs.lemmas.Nat.Bits.{shr_and_one}
use Rattle.word_steps_rules.proofs.plan.has_bit.Goals as goal

pub returns : goal.returns
returns c = ap (λ (b : ℕ). b == 1) (shr_and_one c.args.number c.args.place)
