use Rattle.cert_check_lines_spec.proofs.Accepting.{accepted_is_shown}
use Rattle.cert_check_lines_spec.proofs.passing.what_is_accepted_is_shown.Goals as goal

pub returns : goal.returns
returns c = accepted_is_shown
