use Rattle.c_types.specs.Typed.{typed_of}
use Rattle.pair_setup_calls.specs.Names.{texts_of}
use Rattle.std.proofs.lemmas.Result.{IfOk-weaker}
use Rattle.report_text.specs.Verdicts.{verdict_of}
use Rattle.tv_words.specs.Jobs.{job_of}
use Rattle.tv_core_spec.specs.Decisions.{plain}
use Rattle.tv_core.specs.Listed.{AnswersList, IsRefusal}
use Rattle.tv_core.proofs.Paired.{not_empty}
use Rattle.tv_core.proofs.Judged.{refused_list}
use Rattle.tv_core.proofs.Lists.{judged_here, judged_paired}
use Rattle.tv_core.proofs.Plain.{plain_memory_ok, plain_only_memory}
use Rattle.tv_core.proofs.functions.judge_list.Goals as goal

pub judge_paired-requires-clause-run : goal.judge_paired-requires-clause-run
judge_paired-requires-clause-run g c =
    record { read = c.requires.read; typed = c.requires.typed; sizes = c.requires.sizes; pairs_are = c.in-Ok.ensures.pairs }

pub judge_paired-requires-clause-some : goal.judge_paired-requires-clause-some
judge_paired-requires-clause-some g c = not_empty c.args.list.now c.in-Ok.ensures.pairs.paired.some

pub returns-in-Ok : goal.returns-in-Ok
returns-in-Ok g c =
    judged_paired c.args.image.now (typed_of c.args.unit.now) (job_of c.args.job.now) (texts_of c.args.list.now) c.in-Ok.pairs _ _ c.judge_paired.result
    c.requires.few c.in-Ok.ensures.pairs.paired c.judge_paired.ensures

pub returns-in-Err : goal.returns-in-Err
returns-in-Err g c =
    let image = c.args.image.now in
    let unit = typed_of c.args.unit.now in
    let command = job_of c.args.job.now in
    let list = texts_of c.args.list.now in
    let files = (g.D.Desk.state c.args.desk.now).files in
    let answer = c.refused.result in
    let r = c.plain_from_memory.result in
    let from = c.plain_from_memory.ensures in
    judged_here image unit command list _ r
    (plain_memory_ok (AnswersList files image unit command list) answer r from
    (IfOk-weaker answer (λ v. IsRefusal image unit list (verdict_of v)) (λ v. AnswersList files image unit command list (plain (verdict_of v)))
    (λ v h. refused_list files image unit command list (verdict_of v) c.requires.few h) c.refused.ensures))
    (plain_only_memory answer r from)
