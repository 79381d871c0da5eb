use Rattle.word_steps_spec.proofs.RingHolds.{polynomial_number}
use Rattle.word_steps_spec.proofs.laws.polynomials_have_the_value.Goals as goal

pub returns : goal.returns
returns c = polynomial_number
