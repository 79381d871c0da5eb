use Rattle.std.proofs.Common.{subst}
use Rattle.std.specs.Prelude.{Err}
use Rattle.cert_check.specs.Outcomes.{IsChecked}
use Rattle.cert_check.proofs.Verdicts.{whole_verdict, fault_verdict}
use Rattle.cert_check.proofs.certificate.check.Goals as goal

pub returns-in-Ok : goal.returns-in-Ok
returns-in-Ok c = whole_verdict c.args.listed.now c.new-checker.result.listed.now c.args.cert.now c.new-checker.ensures.listed c.in-Ok.ensures

pub returns-in-Err-Fault : goal.returns-in-Err-Fault
returns-in-Err-Fault c =
    fault_verdict c.args.listed.now c.new-checker.result.listed.now c.args.cert.now c.new-checker.ensures.listed c.in-Err-Fault.at c.placed.result c.placed.ensures
    (subst (λ e. IsChecked c.new-checker.result.listed.now c.args.cert.now (Err e)) c.in-Err-Fault.field-0-is c.in-Err-Fault.ensures)
