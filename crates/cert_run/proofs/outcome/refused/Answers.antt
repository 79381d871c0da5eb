use Rattle.std.proofs.Common.{◌≡◌, ℕ, refl}
use Rattle.cert_text.specs.declared.certificates.ReadFault.{ReadFault}
use Rattle.cert_text.specs.declared.certificates.ReadFault.TheVariants.{Refused}
use Rattle.cert_run_spec.specs.Verdict.{unread}
use Rattle.cert_run.proofs.outcome.refused.Goals as goal

one_fault : (fault : ReadFault) → (offset : ℕ) × (fault ≡ Refused offset)
one_fault (Refused offset) = (offset, refl)

pub returns : goal.returns
returns c = let known = one_fault c.args.fault in rw known.1 (λ bytes fault listed. unread known.0 fault)
