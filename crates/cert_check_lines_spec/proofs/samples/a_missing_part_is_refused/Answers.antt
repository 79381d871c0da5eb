use Rattle.cert_check_lines_spec.proofs.Refused.{refused_missing}
use Rattle.cert_check_lines_spec.proofs.samples.a_missing_part_is_refused.Goals as goal

pub returns : goal.returns
returns c = refused_missing
