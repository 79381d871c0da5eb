use Rattle.cert_text_laws.specs.Lines.{read_certificate}
use Rattle.cert_text_laws.proofs.Certificates.{only, same_lines}
use Rattle.cert_text_laws.proofs.has_one_certificate.Goals as goal

pub returns : goal.returns
returns c = λ text one two a b. same_lines one two (read_certificate text) (only text one a) (only text two b)
