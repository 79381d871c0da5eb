use Rattle.std.proofs.Common.{refl}
use Rattle.c_types_spec.specs.Values.{converted, arithmetic_value, comparison_value}
use Rattle.c_run_spec.specs.Accesses.{some_byte, read_guard, write_guard, bytes_at, with_bytes, object_value, stored}
use Rattle.c_run_spec.specs.Evaluation.{local_value, operated, moved, within, aligned, value, values}
use Rattle.c_run_spec.specs.Execution.{rounds, labelled, does, does_group}
use Rattle.c_run_spec.specs.Calls.{runs, c_run}
use Rattle.c_run_laws.proofs.examples.a_loop_sums.Goals as goal

pub returns : goal.returns
unfolding converted arithmetic_value comparison_value some_byte read_guard write_guard bytes_at with_bytes object_value stored local_value operated moved within aligned value values rounds labelled does does_group runs c_run
returns c = λ memory. (refl, refl)
