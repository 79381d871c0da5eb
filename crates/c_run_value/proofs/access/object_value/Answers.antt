use Rattle.c_run_value.proofs.Steps.{bits_fit}
use Rattle.c_run_value.proofs.access.object_value.Goals as goal

pub of_bits-requires-clause-below : goal.of_bits-requires-clause-below
of_bits-requires-clause-below c = bits_fit c.in-Some.size c.args.of.width c.bytes_at.result c.in-Some.ensures.is c.bytes_at.ensures.below
