use Rattle.std.proofs.Common.{refl}
use Rattle.c_types_spec.specs.Values.{converted, arithmetic_value}
use Rattle.c_run_spec.specs.Evaluation.{local_value, operated, value}
use Rattle.c_run_spec.specs.Execution.{does}
use Rattle.c_run_spec.specs.Calls.{runs, c_run}
use Rattle.example_laws.proofs.source.add_two_arguments_wraps.Goals as goal

pub returns : goal.returns
unfolding converted arithmetic_value local_value operated value does runs c_run
returns c = λ memory globals zone is_fixed. refl
