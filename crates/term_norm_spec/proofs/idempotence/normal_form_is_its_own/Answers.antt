use Rattle.term_norm_spec.proofs.Settled.{normal_again}
use Rattle.term_norm_spec.proofs.idempotence.normal_form_is_its_own.Goals as goal

pub returns : goal.returns
returns c = normal_again
