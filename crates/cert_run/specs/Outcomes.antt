-- The verdict on the bytes of a certificate, as the program answers it.
use Rattle.std.specs.Prelude.{ℕ, List, Err}
use Rattle.cert_text_spec.specs.Certificates.{IsCertificate}
use Rattle.cert_text.specs.declared.certificates.Cert.{Cert}
use Rattle.attempt.specs.declared.refusal.Refusal.TheVariants.{Fault}
use Rattle.cert_text.specs.declared.certificates.ReadFault.{ReadFault}
use Rattle.cert_check.specs.declared.fault.CheckFault.{CheckFault}
use Rattle.cert_text.specs.Certificates.{certificate_of, IsRead}
use Rattle.cert_check_frames.specs.declared.listed.Listed.{Listed}
use Rattle.cert_check_frames.specs.Listed.{AreListed}
use Rattle.cert_check.specs.Outcomes.{IsVerdictOf}
use Rattle.cert_check_spec.specs.Verdict as spec
use Rattle.cert_run_spec.specs.Verdict as verdict
use Rattle.cert_run_spec.specs.Verdict.{IsOutcome}
use Rattle.cert_run.specs.declared.outcome.Outcome.{Outcome}
use Rattle.cert_run.specs.declared.outcome.Outcome.TheVariants.{Unread, Broken, Above, Proof}

abbrev pub outcome_of : Outcome → verdict.Outcome
outcome_of (Unread offset) = verdict.Unread offset
outcome_of (Broken function offset rule) = verdict.Broken function offset rule
outcome_of (Above quantity) = verdict.Above quantity
outcome_of Proof = verdict.Proof

-- the verdict on the bytes, of the functions that are listed so
abbrev pub IsOutcomeOf : List Listed → (bytes : List ℕ) → Outcome → Type 0
IsOutcomeOf codes bytes o = (listed : List spec.Listed) → AreListed codes listed → IsOutcome listed bytes (outcome_of o)

-- on those of a certificate
abbrev pub IsOutcomeOn : List Listed → Cert → Outcome → Type 0
IsOutcomeOn codes cert o = (bytes : List ℕ) → IsCertificate bytes (certificate_of cert) → IsOutcomeOf codes bytes o

-- where the check of a certificate has this fault
abbrev pub IsFaultOf : List Listed → Cert → CheckFault → Outcome → Type 0
IsFaultOf codes cert fault o =
    (bytes : List ℕ) → IsCertificate bytes (certificate_of cert) → (listed : List spec.Listed) → AreListed codes listed → IsVerdictOf codes cert listed (Err (Fault fault))
    → IsOutcome listed bytes (outcome_of o)

-- where reading has this fault
abbrev pub IsUnreadOf : ReadFault → Outcome → Type 0
IsUnreadOf fault o = (bytes : List ℕ) → IsRead bytes (Err (Fault fault)) → (listed : List spec.Listed) → IsOutcome listed bytes (outcome_of o)
