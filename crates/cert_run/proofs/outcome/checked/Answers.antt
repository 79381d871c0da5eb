use Rattle.std.proofs.Common.{Err, subst}
use Rattle.std.proofs.lemmas.Result.{IfOk-weaker}
use Rattle.attempt.specs.declared.refusal.Refusal.{Refusal}
use Rattle.cert_check.specs.declared.fault.CheckFault.{CheckFault}
use Rattle.cert_check.specs.Outcomes.{IsVerdictOf}
use Rattle.cert_text.specs.Certificates.{certificate_of}
use Rattle.cert_run_spec.specs.Verdict.{proof}
use Rattle.cert_run.proofs.outcome.checked.Goals as goal

pub returns-in-Ok : goal.returns-in-Ok
returns-in-Ok c = λ bytes is listed are. proof (certificate_of c.args.cert.now) is (c.in-Ok.ensures listed are)

pub returns-in-Err-Fault : goal.returns-in-Err-Fault
returns-in-Err-Fault c =
    IfOk-weaker c.faulty.result _ _ (λ o of bytes is listed are. of bytes is listed are
    (subst (λ (error : Refusal CheckFault). IsVerdictOf c.args.listed.now c.args.cert.now listed (Err error)) c.in-Err-Fault.field-0-is (c.in-Err-Fault.ensures listed are)))
    c.faulty.ensures
