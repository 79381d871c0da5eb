use Rattle.cert_text.proofs.Inverses.{reads_written}
use Rattle.cert_text.proofs.laws.reads_what_it_writes.Goals as goal

pub returns : goal.returns
returns c = reads_written
