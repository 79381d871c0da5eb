use Rattle.cert_check_lines_spec.proofs.Showing.{passed_is_shown}
use Rattle.cert_check_lines_spec.proofs.passing.what_passes_is_shown.Goals as goal

pub returns : goal.returns
returns c = λ p at origin f lines passed. passed_is_shown p at origin f lines passed
