use Rattle.std.proofs.Common.{refl}
use Rattle.c_types_spec.specs.Values.{converted}
use Rattle.example_laws.proofs.ClaimCall.{meets}
use Rattle.example_laws.proofs.claim.a_call_of_add_two_arguments_meets_the_convention.Goals as goal

pub returns : goal.returns
unfolding converted
returns c = record { types = (refl, (refl, tt)); meets = meets }
