-- The verdict where the check of a certificate has a fault.
use Rattle.std.proofs.Common.{◌≡◌, ◌∙◌, ℕ, List, Some, None, sym, ap, subst}
use Rattle.std.specs.Borrow.{Bor}
use Rattle.std.proofs.lemmas.Option.{same_Some}
use Rattle.cert_check_spec.specs.declared.RuleWord.{RuleWord}
use Rattle.tv_limits.specs.declared.Quantity.{Quantity}
use Rattle.cert_text.specs.declared.certificates.Cert.{Cert}
use Rattle.cert_text.specs.Certificates.{certificate_of}
use Rattle.cert_check_frames.specs.declared.listed.Listed.{Listed}
use Rattle.cert_check.specs.declared.fault.Named.{Named}
use Rattle.cert_check.specs.declared.fault.CheckFault.TheVariants.{NotProof, Limit}
use Rattle.cert_check.specs.Outcomes.{HasName, name_in}
use Rattle.cert_run_spec.specs.Verdict as verdict
use Rattle.cert_run_spec.specs.Verdict.{IsOutcome, broken, above}
use Rattle.cert_run.specs.Outcomes.{IsFaultOf, outcome_of}
use Rattle.cert_run.specs.declared.outcome.Outcome.{Outcome}
use Rattle.cert_run.specs.declared.outcome.Outcome.TheVariants.{Above}

module _ (codes : List Listed) (cert : Cert) (function : Named) (offset : ℕ) (rule : RuleWord) where
  pub named_fault : (name : Bor (List ℕ)) (o : Outcome) → HasName (name_in codes cert.lines.items function) (Some name)
      → outcome_of o ≡ verdict.Broken name.now offset rule → IsFaultOf codes cert (NotProof function offset rule) o
  named_fault name o has same bytes is listed are fault =
      let names : name.now ≡ fault.0 = same_Some name.now fault.0 (has ∙ fault.1) in
      subst (IsOutcome listed bytes) (sym (same ∙ ap (λ (n : List ℕ). verdict.Broken n offset rule) names))
      (broken (certificate_of cert) fault.0 offset rule is fault.2)

  pub nameless_fault : (o : Outcome) → HasName (name_in codes cert.lines.items function) None → IsFaultOf codes cert (NotProof function offset rule) o
  nameless_fault o has bytes is listed are fault =
      let none : None ≡ Some fault.0 = has ∙ fault.1 in
      absurd (cc)

pub limit_fault : (codes : List Listed) (cert : Cert) (quantity : Quantity) → IsFaultOf codes cert (Limit quantity) (Above quantity)
limit_fault codes cert quantity bytes is listed are fault = above (certificate_of cert) fault.0 quantity is fault.1
