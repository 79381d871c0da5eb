-- What the program decides, as the definitions have it.
use Rattle.std.specs.Prelude.{◌≡◌, Vec, List, ℕ, Option, option_map, Result, Ok, Err}
use Rattle.std.specs.Global.{Global}
use Rattle.std.specs.declared.alloc.AllocError.{AllocError}
use Rattle.cert_text.specs.Certificates.{certificate_of}
use Rattle.report_text.specs.Verdicts.{verdict_of}
use Rattle.report_text.specs.declared.verdicts.Verdict.{Verdict as CodeVerdict}
use Rattle.prove_run.specs.declared.trails.Trails.{Trails as CodeTrails}
use Rattle.prove_run.specs.Trails.{unproved_in, over_in, failures_of}
use Rattle.attempt.specs.declared.refusal.Refusal.{Refusal}
use Rattle.attempt.specs.declared.refusal.Refusal.TheVariants.{NoMemory}
use Rattle.tv_base.specs.declared.faults.OutsideFault.{OutsideFault}
use Rattle.tv_core_spec.specs.Decisions.{Decision, Trails, plain}
use Rattle.tv_core.specs.declared.decision.Decision.{Decision as CodeDecision}

abbrev pub trails_of : CodeTrails → Trails
trails_of trails = record { failures = failures_of (unproved_in trails); over = option_map certificate_of (over_in trails) }

abbrev pub text_in : Option (Vec ℕ Global) → Option (List ℕ)
text_in text = option_map (λ (t : Vec ℕ Global). t.items) text

abbrev pub decision_of : CodeDecision → Decision
decision_of d = record {
  verdict = verdict_of d.verdict;
  certificate = text_in d.certificate;
  trails = trails_of d.trails;
}

-- the same decision, or out of memory
abbrev pub IsFromMemory : Result CodeDecision AllocError → Result CodeDecision (Refusal OutsideFault) → Type 0
IsFromMemory (Ok decision) result = result ≡ Ok decision
IsFromMemory (Err error) result = result ≡ Err NoMemory

-- this verdict and nothing else
abbrev pub IsPlain : CodeVerdict → CodeDecision → Type 0
IsPlain verdict decision = decision_of decision ≡ plain (verdict_of verdict)

-- the same, or the same fault
abbrev pub IsPlainly : Result CodeVerdict (Refusal OutsideFault) → Result CodeDecision (Refusal OutsideFault) → Type 0
IsPlainly (Err fault) result = result ≡ Err fault
IsPlainly (Ok verdict) (Ok decision) = IsPlain verdict decision
IsPlainly (Ok verdict) (Err fault) = ⊥

-- the same, or out of memory
abbrev pub IsPlainFromMemory : Result CodeVerdict AllocError → Result CodeDecision (Refusal OutsideFault) → Type 0
IsPlainFromMemory (Err error) result = result ≡ Err NoMemory
IsPlainFromMemory (Ok verdict) (Ok decision) = IsPlain verdict decision
IsPlainFromMemory (Ok verdict) (Err fault) = ⊥
