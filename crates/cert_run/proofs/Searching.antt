-- What is found, one function after the other, and the two ways to answer it.
use Rattle.std.proofs.Common.{◌≡◌, ◌∙◌, ◌+◌, ◌<◌, ◌≤◌, ℕ, Bool, List, [], ◌∷◌, ◌++◌, length, get_or, take, inl, inr, sym, ap, subst}
use Rattle.std.specs.Prelude.{All, IfOk, Err, None, Ok, Result, Some, Vec, map}
use Rattle.std.specs.Global.{Global}
use Rattle.std.specs.declared.alloc.AllocError.{AllocError}
use Rattle.std.proofs.lemmas.List.{take_more, map-append}
use Rattle.cert_text.specs.declared.certificates.Cert.{Cert}
use Rattle.cert_text.specs.Certificates.{certificate_of, text_of}
use Rattle.cert_check_spec.specs.Verdict.{Listed}
use Rattle.prove_run_spec.specs.Trails as spec
use Rattle.prove_run_spec.specs.Written.{failures, proof_lines}
use Rattle.prove_run.specs.declared.trail.Found.{Found}
use Rattle.prove_run.specs.Found.{found_of}
use Rattle.prove_run.specs.Trails.{failures_of, over_in, unproved_in}
use Rattle.tv_limits.specs.declared.TheConstants.{MAX_CERTIFICATE_BYTES}
use Rattle.cert_run_spec.specs.Written.{text_by, HasSmallHints}
use Rattle.cert_run.specs.Searches.{IsSearch, is_proved}
use Rattle.cert_run.specs.declared.finding.Search.{Search}

-- one more function after those so far
pub more_valid : (found : List Found) (i : ℕ) (one : Found) (old new : List Bool) (valid : Bool) → i < length found → one ≡ get_or found i one
    → old ≡ map is_proved (map found_of (take i found)) → valid ≡ is_proved (found_of one) → new ≡ old ++ valid ∷ []
    → new ≡ map is_proved (map found_of (take (i + 1) found))
more_valid found i one old new valid inside is so_far here added =
    let more : map is_proved (map found_of (take (i + 1) found)) ≡ map is_proved (map found_of (take i found)) ++ is_proved (found_of one) ∷ [] =
    ap (λ (xs : List Found). map is_proved (map found_of xs)) (take_more found i one inside ∙ ap (λ (x : Found). take i found ++ x ∷ []) (sym is))
    ∙ (ap (map is_proved) (map-append found_of (take i found) (one ∷ [])) ∙ map-append is_proved (map found_of (take i found)) (found_of one ∷ [])) in
    added ∙ (ap (λ (xs : List Bool). xs ++ valid ∷ []) so_far ∙ (ap (λ (v : Bool). map is_proved (map found_of (take i found)) ++ v ∷ []) here ∙ sym more))

module _ (listed : List Listed) (found : List spec.Found) (cert : Cert) (small : All HasSmallHints found) (lines : certificate_of cert ≡ proof_lines listed found) where
  text_is : (text : List ℕ) → text ≡ text_of (certificate_of cert) → text ≡ text_by listed found
  text_is text same = same ∙ ap text_of lines

  is_within : (s : Search) (text : Vec ℕ Global) → text.items ≡ text_of (certificate_of cert) → length text.items ≤ MAX_CERTIFICATE_BYTES
      → s.valid.items ≡ map is_proved found → s.certificate ≡ Some text → (over_in s.trails ≡ None) × (failures_of (unproved_in s.trails) ≡ failures listed found)
      → IsSearch listed found s
  is_within s text same short valid certificate trails = record {
    valid = valid;
    small = small;
    rest = inl (record {
      short = subst (λ (t : List ℕ). length t ≤ MAX_CERTIFICATE_BYTES) (text_is text.items same) short;
      text = text;
      certificate_is = certificate;
      text_is = text_is text.items same;
      failures_are = trails.1;
      none_over = trails.0;
    });
  }

  pub all_within : (r : Result Search AllocError) (text : Vec ℕ Global) (valid : Vec Bool Global) → text.items ≡ text_of (certificate_of cert)
      → length text.items ≤ MAX_CERTIFICATE_BYTES → valid.items ≡ map is_proved found
      → IfOk r (λ s. (over_in s.trails ≡ None) × (failures_of (unproved_in s.trails) ≡ failures listed found))
      → IfOk r (λ s. s.certificate ≡ Some text) → IfOk r (λ s. s.valid ≡ valid) → IfOk r (IsSearch listed found)
  all_within (Ok s) text valid same short are trails certificate valid_is =
      is_within s text same short (ap (λ (v : Vec Bool Global). v.items) valid_is ∙ are) certificate trails
  all_within (Err error) text valid same short are trails certificate valid_is = tt

  pub is_over : (s : Search) (text : List ℕ) → text ≡ text_of (certificate_of cert) → MAX_CERTIFICATE_BYTES < length text
      → s.valid.items ≡ map is_proved found → over_in s.trails ≡ Some cert → unproved_in s.trails ≡ [] → s.certificate ≡ None → IsSearch listed found s
  is_over s text same long valid over none certificate = record {
    valid = valid;
    small = small;
    rest = inr (record {
      long = subst (λ (t : List ℕ). MAX_CERTIFICATE_BYTES < length t) (text_is text same) long;
      cert = cert;
      over_is = over;
      lines_are = lines;
      none_unproved = none;
      no_certificate = certificate;
    });
  }
