-- Reading and writing undo each other.
use Rattle.std.proofs.Common.{Result, Ok, Err, refl, sym}
use Rattle.cert_text_spec.specs.Certificates.{IsCertificate}
use Rattle.cert_text_laws.proofs.Certificates.{only, same_lines}
use Rattle.cert_text_laws.specs.Lines.{read_certificate}
use Rattle.cert_text.specs.declared.certificates.Cert.{Cert}
use Rattle.attempt.specs.declared.refusal.Refusal.{Refusal}
use Rattle.attempt.specs.declared.refusal.Refusal.TheVariants.{Fault, NoMemory}
use Rattle.cert_text.specs.declared.certificates.ReadFault.{ReadFault}
use Rattle.cert_text.specs.declared.certificates.ReadFault.TheVariants.{Refused}
use Rattle.cert_text.specs.Certificates.{certificate_of, text_of, IsRead}
use Rattle.cert_text.specs.Laws.{SameLines, ReadsWhatItWrites, WritesWhatItReads}

pub reads_written : ReadsWhatItWrites
reads_written cert lines result read = by_result result read
  where
    is : IsCertificate (text_of (certificate_of cert)) (certificate_of cert)
    is = record { derives = lines; cut = refl }

    by_result : (result : Result Cert (Refusal ReadFault)) → IsRead (text_of (certificate_of cert)) result → SameLines cert result
    by_result (Ok again) h =
        same_lines (certificate_of again) (certificate_of cert) (read_certificate (text_of (certificate_of cert)))
        (only (text_of (certificate_of cert)) (certificate_of again) h) (only (text_of (certificate_of cert)) (certificate_of cert) is)
    by_result (Err NoMemory) h = refl
    by_result (Err (Fault (Refused offset))) h = absurd (h.none (certificate_of cert) is)

pub writes_read : WritesWhatItReads
writes_read bytes cert c = sym c.cut
