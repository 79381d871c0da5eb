-- Decisions that are a verdict and nothing else.
use Rattle.std.proofs.Common.{◌≡◌, [], None, Ok, Err, refl, sym, ap, subst}
use Rattle.std.specs.Prelude.{Result, IfOk, OnErr, IsErrOf, option_map}
use Rattle.std.specs.declared.alloc.AllocError.{AllocError}
use Rattle.cert_text.specs.Certificates.{certificate_of}
use Rattle.report_text.specs.Verdicts.{verdict_of}
use Rattle.report_text.specs.declared.verdicts.Verdict.{Verdict as CodeVerdict}
use Rattle.prove_run.specs.declared.trails.Trails.{Trails as CodeTrails}
use Rattle.prove_run.specs.Trails.{unproved_in, over_in, failures_of}
use Rattle.attempt.specs.declared.refusal.Refusal.{Refusal}
use Rattle.attempt.specs.declared.refusal.Refusal.TheVariants.{NoMemory}
use Rattle.tv_base.specs.declared.faults.OutsideFault.{OutsideFault}
use Rattle.tv_core_spec.specs.Decisions.{Decision, no_trails, plain}
use Rattle.tv_core.specs.Decisions.{decision_of, trails_of, IsFromMemory, IsPlainly, IsPlainFromMemory}
use Rattle.tv_core.specs.declared.decision.Decision.{Decision as CodeDecision}

-- no function is unproved, and no certificate is too large
pub no_trails_of : (trails : CodeTrails) → unproved_in trails ≡ [] → over_in trails ≡ None → trails_of trails ≡ no_trails
no_trails_of trails unproved over = λ i. record { failures = failures_of (unproved i); over = option_map certificate_of (over i) }

-- ---- what holds of the verdict alone holds of the decision

pub plainly_ok : (P : Decision → Type 0) (answer : Result CodeVerdict (Refusal OutsideFault)) (r : Result CodeDecision (Refusal OutsideFault)) → IsPlainly answer r
    → IfOk answer (λ v. P (plain (verdict_of v))) → IfOk r (λ d. P (decision_of d))
plainly_ok P (Ok verdict) (Ok decision) is h = subst P (sym is) h
plainly_ok P (Ok verdict) (Err fault) is h = absurd is
plainly_ok P (Err fault) r is h = subst (λ x. IfOk x (λ d. P (decision_of d))) (sym is) tt

pub plainly_memory : (answer : Result CodeVerdict (Refusal OutsideFault)) (r : Result CodeDecision (Refusal OutsideFault)) → IsPlainly answer r → OnErr answer (IsErrOf answer NoMemory)
    → OnErr r (IsErrOf r NoMemory)
plainly_memory (Ok verdict) (Ok decision) is h = tt
plainly_memory (Ok verdict) (Err fault) is h = absurd is
plainly_memory (Err fault) r is h = let same : fault ≡ NoMemory = cc in subst (λ x. OnErr x (IsErrOf x NoMemory)) (sym is) (ap Err same)

-- ---- calls that fail only out of memory

pub plain_memory_ok : (P : Decision → Type 0) (answer : Result CodeVerdict AllocError) (r : Result CodeDecision (Refusal OutsideFault)) → IsPlainFromMemory answer r
    → IfOk answer (λ v. P (plain (verdict_of v))) → IfOk r (λ d. P (decision_of d))
plain_memory_ok P (Ok verdict) (Ok decision) is h = subst P (sym is) h
plain_memory_ok P (Ok verdict) (Err fault) is h = absurd is
plain_memory_ok P (Err error) r is h = subst (λ x. IfOk x (λ d. P (decision_of d))) (sym is) tt

pub plain_only_memory : (answer : Result CodeVerdict AllocError) (r : Result CodeDecision (Refusal OutsideFault)) → IsPlainFromMemory answer r → OnErr r (IsErrOf r NoMemory)
plain_only_memory (Ok verdict) (Ok decision) is = tt
plain_only_memory (Ok verdict) (Err fault) is = absurd is
plain_only_memory (Err error) r is = subst (λ x. OnErr x (IsErrOf x NoMemory)) (sym is) refl

pub ok_from_memory : (P : CodeDecision → Type 0) (answer : Result CodeDecision AllocError) (r : Result CodeDecision (Refusal OutsideFault)) → IsFromMemory answer r → IfOk answer P → IfOk r P
ok_from_memory P (Ok decision) r e h = subst (λ x. IfOk x P) (sym e) h
ok_from_memory P (Err error) r e h = subst (λ x. IfOk x P) (sym e) tt

pub only_memory : (answer : Result CodeDecision AllocError) (r : Result CodeDecision (Refusal OutsideFault)) → IsFromMemory answer r → OnErr r (IsErrOf r NoMemory)
only_memory (Ok decision) r e = subst (λ x. OnErr x (IsErrOf x NoMemory)) (sym e) tt
only_memory (Err error) r e = subst (λ x. OnErr x (IsErrOf x NoMemory)) (sym e) refl
