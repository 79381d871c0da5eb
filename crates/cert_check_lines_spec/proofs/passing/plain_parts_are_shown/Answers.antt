use Rattle.cert_check_lines_spec.proofs.Accepting.{plain_is_shown}
use Rattle.cert_check_lines_spec.proofs.passing.plain_parts_are_shown.Goals as goal

pub returns : goal.returns
returns c = plain_is_shown
