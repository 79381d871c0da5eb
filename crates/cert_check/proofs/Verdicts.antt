-- A fault at a line, with its offset, as the verdict.
use Rattle.std.proofs.Common.{◌≡◌, ℕ, List, Ok, Err, sym, subst}
use Rattle.cert_text.specs.declared.certificates.Cert.{Cert}
use Rattle.cert_text.specs.Certificates.{certificate_of}
use Rattle.cert_check_spec.specs.Verdict as spec
use Rattle.cert_check_lines_spec.specs.Known.{IsFault}
use Rattle.attempt.specs.declared.refusal.Refusal.{Refusal}
use Rattle.attempt.specs.declared.refusal.Refusal.TheVariants.{Fault, NoMemory}
use Rattle.cert_check.specs.declared.fault.Placed.{Placed}
use Rattle.cert_check.specs.declared.fault.CheckFault.{CheckFault}
use Rattle.cert_check.specs.declared.fault.CheckFault.TheVariants.{NotProof, Limit}
use Rattle.cert_check_frames.specs.declared.listed.Listed.{Listed}
use Rattle.cert_check.specs.Outcomes.{offset_of, IsFaultAt, IsChecked, IsPlaced, IsVerdictOf, IsVerdict}

placed_verdict : (codes : List Listed) (cert : Cert) (listed : List spec.Listed) (broken : Placed) (result : Refusal CheckFault) → IsPlaced cert broken result
    → IsFaultAt codes cert listed broken.place broken.fault → IsVerdictOf codes cert listed (Err result)
placed_verdict codes cert listed broken (Fault (NotProof function offset rule)) is at =
    let here = subst (IsFaultAt codes cert listed broken.place) is.0 at in
    (here.0, here.1, subst (λ (n : ℕ). IsFault listed (certificate_of cert) n here.0 rule) (sym is.1) here.2)
placed_verdict codes cert listed broken (Fault (Limit quantity)) is at = (offset_of cert broken.place, subst (IsFaultAt codes cert listed broken.place) is at)
placed_verdict codes cert listed broken NoMemory is at = tt

module _ (codes others : List Listed) (cert : Cert) (same : others ≡ codes) where
  pub whole_verdict : IsChecked others cert (Ok (tt {0})) → IsVerdict codes cert (Ok (tt {0}))
  whole_verdict checked = subst (λ (list : List Listed). IsChecked list cert (Ok (tt {0}))) same checked

  pub fault_verdict : (broken : Placed) (result : Refusal CheckFault) → IsPlaced cert broken result → IsChecked others cert (Err (Fault broken)) → IsVerdict codes cert (Err result)
  fault_verdict broken result is checked =
      let here = subst (λ (list : List Listed). IsChecked list cert (Err (Fault broken))) same checked in
      λ listed are. placed_verdict codes cert listed broken result is (here.1 listed are)
