use Rattle.std.proofs.Common.{refl, inl, inr, arith}
use Rattle.std.proofs.lemmas.Result.{IfOk-weaker}
use Rattle.c_types.specs.Typed.{typed_of}
use Rattle.pair_setup_calls.specs.Names.{texts_of}
use Rattle.pair_setup.specs.Answers.{pairs_of}
use Rattle.report_text.specs.Verdicts.{verdict_of}
use Rattle.tv_core.specs.Listed.{IsCertificateVerdict, IsOfOutcome}
use Rattle.tv_core.proofs.Paired.{enough}
use Rattle.tv_core.proofs.Judged.{certificate_checked}
use Rattle.tv_core.proofs.functions.check_bytes.Goals as goal

pub returns-then-certificate-gt-MAX_CERTIFICATE_BYTES : goal.returns-then-certificate-gt-MAX_CERTIFICATE_BYTES
returns-then-certificate-gt-MAX_CERTIFICATE_BYTES c = inl (omega arith, refl)

pub certificate_verdict-requires : goal.certificate_verdict-requires
certificate_verdict-requires c =
    enough c.args.image.now (typed_of c.args.unit.now) c.args.list.now c.args.pairs.now c.as_slice.result.now c.as_slice.ensures.value c.requires.pairs_are.paired

pub returns-2 : goal.returns-2
returns-2 c =
    let image = c.args.image.now in
    let unit = typed_of c.args.unit.now in
    let list = texts_of c.args.list.now in
    let pairs = pairs_of list c.args.pairs.now in
    let functions = c.as_slice.result.now in
    let bytes = c.args.certificate.now in
    let o = c.in-Ok-attempt.field-0 in
    IfOk-weaker c.certificate_verdict.result (IsOfOutcome list functions o) (λ verdict. IsCertificateVerdict image unit pairs bytes (verdict_of verdict))
    (λ verdict h. inr (
      omega arith,
      certificate_checked image unit list c.args.pairs.now functions c.as_slice.ensures.value c.requires.pairs_are.paired bytes o (verdict_of verdict)
          c.in-Ok-attempt.ensures h,
    )) c.certificate_verdict.ensures
