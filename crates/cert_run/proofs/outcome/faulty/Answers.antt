use Rattle.std.proofs.Common.{sym, subst}
use Rattle.std.specs.Prelude.{IfOk}
use Rattle.std.proofs.lemmas.Result.{IfOk-weaker}
use Rattle.cert_check.specs.declared.fault.CheckFault.{CheckFault}
use Rattle.cert_run.specs.Outcomes.{IsFaultOf}
use Rattle.cert_run.specs.declared.outcome.Outcome.TheVariants.{Above}
use Rattle.cert_run.proofs.Certified.{named_fault, nameless_fault, limit_fault}
use Rattle.cert_run.proofs.outcome.faulty.Goals as goal

pub returns-in-Some : goal.returns-in-Some
returns-in-Some c =
    subst (λ (fault : CheckFault). IfOk c.broken.result (IsFaultOf c.args.listed.now c.args.cert.now fault)) (sym c.in-NotProof.is)
    (IfOk-weaker c.broken.result _ _ (λ o same. named_fault c.args.listed.now c.args.cert.now c.in-NotProof.function c.in-NotProof.offset c.in-NotProof.rule c.in-Some.name o c.in-Some.ensures same)
    c.broken.ensures)

pub returns-in-None : goal.returns-in-None
returns-in-None c =
    subst (λ (fault : CheckFault). IfOk c.broken-in-None.result (IsFaultOf c.args.listed.now c.args.cert.now fault)) (sym c.in-NotProof.is)
    (IfOk-weaker c.broken-in-None.result _ _ (λ o same. nameless_fault c.args.listed.now c.args.cert.now c.in-NotProof.function c.in-NotProof.offset c.in-NotProof.rule o c.in-None.ensures)
    c.broken-in-None.ensures)

pub returns-in-Limit : goal.returns-in-Limit
returns-in-Limit c =
    subst (λ (fault : CheckFault). IsFaultOf c.args.listed.now c.args.cert.now fault (Above c.in-Limit.quantity)) (sym c.in-Limit.is)
    (limit_fault c.args.listed.now c.args.cert.now c.in-Limit.quantity)
