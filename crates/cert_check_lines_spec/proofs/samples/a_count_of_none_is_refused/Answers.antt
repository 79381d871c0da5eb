use Rattle.cert_check_lines_spec.proofs.Refused.{refused_count}
use Rattle.cert_check_lines_spec.proofs.samples.a_count_of_none_is_refused.Goals as goal

pub returns : goal.returns
returns c = refused_count
