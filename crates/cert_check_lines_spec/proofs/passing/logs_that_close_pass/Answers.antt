use Rattle.cert_check_lines_spec.proofs.Stepping.{closing_passes}
use Rattle.cert_check_lines_spec.proofs.passing.logs_that_close_pass.Goals as goal

pub returns : goal.returns
returns c = λ p at goal jobs log closes. closing_passes p at goal jobs log closes
