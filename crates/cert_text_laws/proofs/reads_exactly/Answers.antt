use Rattle.cert_text_laws.proofs.Certificates.{found, only, refused_at, never_limited}
use Rattle.cert_text_laws.proofs.reads_exactly.Goals as goal

pub returns : goal.returns
returns c = record { found = found; only = only; refused = refused_at; unlimited = never_limited }
