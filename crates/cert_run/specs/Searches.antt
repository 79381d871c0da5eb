-- What a search finds of functions, as the program answers it.
use Rattle.std.specs.Prelude.{◌≡◌, ◌<◌, ◌≤◌, ◌⊎◌, Bool, true, false, ℕ, List, [], length, map, All, Vec, Some, None}
use Rattle.std.specs.Global.{Global}
use Rattle.cert_text.specs.declared.certificates.Cert.{Cert}
use Rattle.cert_text.specs.Certificates.{certificate_of}
use Rattle.cert_check_frames.specs.declared.listed.Listed.{Listed as CodeListed}
use Rattle.cert_check_frames.specs.Listed.{AreListed}
use Rattle.cert_check_spec.specs.Verdict.{Listed}
use Rattle.cert_run_spec.specs.Written.{text_by, HasSmallHints}
use Rattle.prove_run_spec.specs.Proofs.{HasTruths}
use Rattle.prove_run_spec.specs.Trails.{Found, Proved, Unproved, AreFound}
use Rattle.prove_run_spec.specs.Written.{failures, proof_lines}
use Rattle.prove_run.specs.Trails.{unproved_in, over_in, failures_of}
use Rattle.tv_limits.specs.declared.TheConstants.{MAX_CERTIFICATE_BYTES}
use Rattle.cert_run.specs.declared.finding.Search.{Search}

abbrev pub is_proved : Found → Bool
is_proved (Proved logs) = true
is_proved (Unproved trail) = false

-- the certificate is within its maximum, and each unproved function has its trail
pub record IsWithin (listed : List Listed) (found : List Found) (s : Search) : Type 0 where
  pub short : length (text_by listed found) ≤ MAX_CERTIFICATE_BYTES
  pub text : Vec ℕ Global
  pub certificate_is : s.certificate ≡ Some text
  pub text_is : text.items ≡ text_by listed found
  pub failures_are : failures_of (unproved_in s.trails) ≡ failures listed found
  pub none_over : over_in s.trails ≡ None

-- it is longer, and is what the trails hold
pub record IsOver (listed : List Listed) (found : List Found) (s : Search) : Type 0 where
  pub long : MAX_CERTIFICATE_BYTES < length (text_by listed found)
  pub cert : Cert
  pub over_is : over_in s.trails ≡ Some cert
  pub lines_are : certificate_of cert ≡ proof_lines listed found
  pub none_unproved : unproved_in s.trails ≡ []
  pub no_certificate : s.certificate ≡ None

-- what was found of the functions, of which a certificate can be written
pub record IsSearch (listed : List Listed) (found : List Found) (s : Search) : Type 0 where
  pub valid : s.valid.items ≡ map is_proved found
  pub small : All HasSmallHints found
  pub rest : IsWithin listed found s ⊎ IsOver listed found s

-- of functions that are listed so, whose obligations are truth values
abbrev pub Searches : List CodeListed → Search → Type 0
Searches codes s =
    (listed : List Listed) → AreListed codes listed → All HasTruths listed → (found : List Found) × AreFound listed found × IsSearch listed found s
