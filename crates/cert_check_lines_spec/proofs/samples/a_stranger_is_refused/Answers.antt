use Rattle.cert_check_lines_spec.proofs.Refused.{refused_stranger}
use Rattle.cert_check_lines_spec.proofs.samples.a_stranger_is_refused.Goals as goal

pub returns : goal.returns
returns c = refused_stranger
