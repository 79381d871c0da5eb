-- Reading and writing undo each other.
use Rattle.std.specs.Prelude.{◌≡◌, ℕ, List, ◌∷◌, [], Ok, Err, Result}
use Rattle.cert_text_spec.specs.Lines as spec
use Rattle.cert_text_spec.specs.Derivation.{Derives}
use Rattle.cert_text_spec.specs.Certificates.{AHeader, Fits, after}
use Rattle.cert_text.specs.declared.certificates.Cert.{Cert}
use Rattle.cert_text.specs.Certificates.{certificate_of, text_of, IsRead}
use Rattle.attempt.specs.declared.refusal.Refusal.{Refusal}
use Rattle.attempt.specs.declared.refusal.Refusal.TheVariants.{NoMemory}
use Rattle.cert_text.specs.declared.certificates.ReadFault.{ReadFault}

-- lines that are expected one after the other
abbrev pub AreLines : List spec.Line → Type 0
AreLines lines = Derives Fits after (AHeader ∷ []) lines

-- the spelling of a certificate is read, as the same lines
abbrev pub SameLines : Cert → Result Cert (Refusal ReadFault) → Type 0
SameLines cert (Ok again) = certificate_of again ≡ certificate_of cert
SameLines cert (Err e) = e ≡ NoMemory

abbrev pub ReadsWhatItWrites : Type 0
ReadsWhatItWrites = (cert : Cert) → AreLines (certificate_of cert) → (result : Result Cert (Refusal ReadFault)) → IsRead (text_of (certificate_of cert)) result → SameLines cert result

-- the spelling of what is read are the bytes
abbrev pub WritesWhatItReads : Type 0
WritesWhatItReads = (bytes : List ℕ) (cert : Cert) → IsRead bytes (Ok cert) → text_of (certificate_of cert) ≡ bytes
