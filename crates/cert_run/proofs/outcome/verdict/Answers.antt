use Rattle.std.proofs.Common.{Err, subst}
use Rattle.std.proofs.lemmas.Result.{IfOk-weaker}
use Rattle.attempt.specs.declared.refusal.Refusal.{Refusal}
use Rattle.cert_text.specs.declared.certificates.ReadFault.{ReadFault}
use Rattle.cert_text.specs.Certificates.{IsRead}
use Rattle.cert_run.proofs.outcome.verdict.Goals as goal

pub checked-requires : goal.checked-requires
checked-requires c = c.in-Ok.ensures.derives

pub returns-in-Ok : goal.returns-in-Ok
returns-in-Ok c = IfOk-weaker c.checked.result _ _ (λ o on. on c.args.bytes.now c.in-Ok.ensures) c.checked.ensures

pub returns-in-Err-Fault : goal.returns-in-Err-Fault
returns-in-Err-Fault c = λ listed are.
    c.refused.ensures c.args.bytes.now
    (rw c.in-Err-Fault.field-0-is (subst (λ (error : Refusal ReadFault). IsRead c.args.bytes.now (Err error)) c.in-Err-Fault.field-0-is c.in-Err-Fault.ensures)) listed
