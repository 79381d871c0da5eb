use Rattle.std.proofs.Common.{zero, suc, pos, Some, refl}
use Rattle.c_types_spec.specs.Values.{converted, arithmetic_value}
use Rattle.c_run_spec.specs.Evaluation.{local_value, operated, value}
use Rattle.c_run_spec.specs.Execution.{does}
use Rattle.c_run_spec.specs.Calls.{runs, c_run}
use Rattle.validity_spec.specs.Claim.{BreaksNoGuard}
use Rattle.example_laws.specs.AddTwoArgumentsCalled.{run}
use Rattle.example_laws.proofs.claim.a_run_of_add_two_arguments_returns.Goals as goal

no_guard : BreaksNoGuard run
unfolding converted arithmetic_value local_value operated value does runs c_run
no_guard zero guard offset e = absurd (cc)
no_guard (suc n) guard offset e = absurd (cc)

pub returns : goal.returns
unfolding converted arithmetic_value local_value operated value does runs c_run
returns c = record { guards = no_guard; back = (1, Some (pos 12), _, refl) }
