use Rattle.cert_check_lines_spec.proofs.Going.{going_is_accepted}
use Rattle.cert_check_lines_spec.proofs.passing.what_goes_on_is_accepted.Goals as goal

pub returns : goal.returns
returns c = going_is_accepted
