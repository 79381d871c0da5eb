use Rattle.cert_text_laws.proofs.Worked.{sample_read}
use Rattle.cert_text_laws.proofs.sample_is_read.Goals as goal

pub returns : goal.returns
returns c = sample_read
