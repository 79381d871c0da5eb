use Rattle.std.proofs.Common.{ℕ, List, refl, sym, subst}
use Rattle.std.proofs.lemmas.Result.{IfOk-weaker}
use Rattle.c_types.specs.Typed.{typed_of}
use Rattle.pair_setup_calls.specs.Names.{texts_of}
use Rattle.pair_setup.specs.Answers.{pairs_of}
use Rattle.report_text.specs.Verdicts.{verdict_of}
use Rattle.tv_limits.specs.declared.TheConstants.{MAX_CERTIFICATE_BYTES}
use Rattle.tv_core.specs.Files.{AreOf}
use Rattle.tv_core_spec.specs.Decisions.{Decision, plain}
use Rattle.tv_core.specs.Decisions.{decision_of}
use Rattle.tv_core.specs.Listed.{IsCertificateVerdict, IsCertificateDecision}
use Rattle.tv_core.proofs.Desks.{begins, ended_keeps, same_fault}
use Rattle.tv_core.proofs.Plain.{plain_memory_ok, plain_only_memory}
use Rattle.tv_core.proofs.functions.check_all.Goals as goal

pub returns-in-Ok : goal.returns-in-Ok
returns-in-Ok g c =
    let pairs = pairs_of (texts_of c.args.list.now) c.args.pairs.now in
    let bytes = c.as_slice.result.now in
    let files = (g.D.Desk.state c.args.desk.now).files in
    let name = c.args.name.now in
    let read = c.in-Ok.ensures.reads in
    let kept = c.in-Ok.ensures.kept in
    let of = subst (AreOf files name MAX_CERTIFICATE_BYTES) (sym c.as_slice.ensures.value) read.bytes in
    let image = c.args.image.now in
    let unit = typed_of c.args.unit.now in
    let answer = c.check_bytes.result in
    let r = c.plain_from_memory.result in
    let from = c.plain_from_memory.ensures in
    let Holds : Decision → Type 0 = λ d. IsCertificateDecision image unit pairs bytes d in
    record {
      judged = IfOk-weaker r (λ d. Holds (decision_of d))
          (λ d. (bs : List ℕ) × AreOf files name MAX_CERTIFICATE_BYTES bs × IsCertificateDecision image unit pairs bs (decision_of d))
          (λ d h. (bytes, of, h))
          (plain_memory_ok Holds answer r from
          (IfOk-weaker answer (λ v. IsCertificateVerdict image unit pairs bytes (verdict_of v)) (λ v. Holds (plain (verdict_of v))) (λ v h. (refl, h)) c.check_bytes.ensures));
      begins = begins name MAX_CERTIFICATE_BYTES _ _ _ read;
      kept = ended_keeps _ _ r kept.same_files kept.unfailing (plain_only_memory answer r from);
    }

pub returns-in-Err : goal.returns-in-Err
returns-in-Err g c = record {
  judged = tt;
  begins = begins c.args.name.now MAX_CERTIFICATE_BYTES _ _ _ c.in-Err.ensures.reads;
  kept = same_fault _ _ c.in-Err.fault c.in-Err.ensures.kept;
}
