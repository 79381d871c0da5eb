use Rattle.cert_check_lines_spec.proofs.Refused.{refused_point}
use Rattle.cert_check_lines_spec.proofs.samples.a_missing_point_is_refused.Goals as goal

pub returns : goal.returns
returns c = refused_point
