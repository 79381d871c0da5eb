-- What is decided of two files: the verdict, and what is written and handed out beside its report.
use Rattle.std.specs.Prelude.{ℕ, true, false, if◌then◌else◌, List, [], ◌∷◌, Option, Some, None}
use Rattle.cert_text_spec.specs.Lines.{Line}
use Rattle.tv_limits.specs.declared.Quantity.TheVariants.{Certificate}
use Rattle.report_text_spec.specs.Verdict.{Verdict, TooLarge, Judged, Judgement}
use Rattle.cert_check_spec.specs.Verdict.{Listed}
use Rattle.prove_run_spec.specs.Trails.{Found, Proved, Unproved}
use Rattle.prove_run_spec.specs.Written.{Failure, failures, proof_lines}
use Rattle.cert_run_spec.specs.Written.{text_by}

-- the names of the unproved functions, each with its trails, in the order of the list; or the certificate that is too large
-- to be written
pub record Trails : Type 0 where
  pub failures : List Failure
  pub over : Option (List Line)

abbrev pub no_trails : Trails
no_trails = record { failures = []; over = None }

-- the verdict; the text of the certificate that is written, if one is; and the trails that are handed out
pub record Decision : Type 0 where
  pub verdict : Verdict
  pub certificate : Option (List ℕ)
  pub trails : Trails

-- a verdict and nothing else
abbrev pub plain : Verdict → Decision
plain verdict = record { verdict = verdict; certificate = None; trails = no_trails }

-- ---- of what a search found

-- the judgement on a function: valid, with its stack, where a proof of it was found
abbrev pub judgement_of : Listed → Found → Judgement
judgement_of f (Proved logs) = record { name = f.name; valid = true; stack = f.stack }
judgement_of f (Unproved trail) = record { name = f.name; valid = false; stack = 0 }

unfoldable pub judgements_of : List Listed → List Found → List Judgement
judgements_of [] found = []
judgements_of (f ∷ listed) [] = []
judgements_of (f ∷ listed) (one ∷ found) = judgement_of f one ∷ judgements_of listed found

-- the name of the first function that isn't called valid
unfoldable pub first_unproved : List Judgement → Option (List ℕ)
first_unproved [] = None
first_unproved (j ∷ judgements) = if j.valid then first_unproved judgements else Some j.name

-- where this text is within its maximum: each function is judged, the certificate is written, and each unproved function
-- has its trail
abbrev pub judged_by : List Listed → List Found → Decision
judged_by listed found = record {
  verdict = Judged (judgements_of listed found);
  certificate = Some (text_by listed found);
  trails = record { failures = failures listed found; over = None };
}

-- where it is longer: the certificate is handed out, and nothing is written
abbrev pub over_by : List Listed → List Found → Decision
over_by listed found = record {
  verdict = TooLarge Certificate;
  certificate = None;
  trails = record { failures = []; over = Some (proof_lines listed found) };
}
