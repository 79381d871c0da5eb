use Rattle.std.specs.Prelude.{◌-◌}
use Rattle.std.proofs.Common.{◌≡◌, ◌∙◌, length, arith, ap, refl}
use Rattle.cert_text_laws.proofs.Certificates.{found, refused_at}
use Rattle.cert_text.specs.Certificates.{certificate_of}
use Rattle.attempt.specs.declared.refusal.Refusal.TheVariants.{Fault}
use Rattle.cert_text_parse.specs.declared.stopped.TextFault.{TextFault}
use Rattle.cert_text_parse.specs.declared.stopped.TextFault.TheVariants.{Wrong}
use Rattle.cert_text.proofs.reading.read.Goals as goal

pub returns-in-Ok : goal.returns-in-Ok
returns-in-Ok c = found c.args.bytes.now (certificate_of c.read_whole.new.cert) c.in-Ok.ensures

only_wrong : (fault : TextFault) → fault ≡ Wrong
only_wrong Wrong = refl

pub returns-2 : goal.returns-2
returns-2 c =
    let h = rw (c.in-Err-Fault-Wrong.field-0-is ∙ ap Fault (only_wrong c.in-Err-Fault-Wrong.field-0-0)) at c.in-Err-Fault-Wrong.ensures in
    refused_at c.args.bytes.now c.read_whole.new.cursor.rest.now h.0 (length c.args.bytes.now - length c.read_whole.new.cursor.rest.now) (omega (arith, h.1))
