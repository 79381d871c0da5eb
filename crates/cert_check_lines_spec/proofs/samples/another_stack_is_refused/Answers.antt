use Rattle.cert_check_lines_spec.proofs.Refused.{refused_stack}
use Rattle.cert_check_lines_spec.proofs.samples.another_stack_is_refused.Goals as goal

pub returns : goal.returns
returns c = refused_stack
