use Rattle.std.proofs.Common.{refl}
use Rattle.tv_words.specs.Jobs.{job_of}
use Rattle.tv_core.proofs.Desks.{ended_keeps}
use Rattle.tv_core.proofs.Judging.{of_file, reads_nothing, refused_by_any}
use Rattle.tv_core.proofs.Plain.{plainly_memory}
use Rattle.tv_core.proofs.judge.judge.Goals as goal

pub judge_source-requires : goal.judge_source-requires
judge_source-requires g c = c.image_is_read.ensures c.in-Ok.ensures.accepted

pub returns-in-Ok : goal.returns-in-Ok
returns-in-Ok g c =
    let by = c.judge_source.ensures in
    record {
      judged = of_file c.in-Ok.image _ c.args.elf.now c.args.source.now (job_of c.args.job.now) c.judge_source.result c.in-Ok.ensures.accepted by.judged;
      reads = by.reads c.args.elf.now c.in-Ok.ensures.accepted;
      kept = by.kept;
    }

pub returns-in-Err : goal.returns-in-Err
returns-in-Err g c =
    let elf = c.args.elf.now in
    let source = c.args.source.now in
    let command = job_of c.args.job.now in
    record {
      judged = refused_by_any _ elf source command c.refused_elf.result c.plainly.result c.plainly.ensures
          (λ task. c.refused_elf.ensures.exact elf source task c.in-Err.ensures.refused)
          (λ task. c.refused_elf.ensures.sound elf source task);
      reads = reads_nothing elf source command _ _ refl refl;
      kept = ended_keeps _ _ c.plainly.result refl refl (plainly_memory c.refused_elf.result c.plainly.result c.plainly.ensures c.refused_elf.ensures.memory);
    }
