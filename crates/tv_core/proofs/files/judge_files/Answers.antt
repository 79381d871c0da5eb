use Rattle.std.proofs.Common.{sym, subst}
use Rattle.std.specs.Prelude.{IfOk}
use Rattle.tv_words.specs.Jobs.{job_of}
use Rattle.tv_core.specs.Tasks.{asked_of}
use Rattle.tv_limits.specs.declared.TheConstants.{MAX_ELF_BYTES}
use Rattle.tv_core.specs.Decisions.{decision_of}
use Rattle.tv_core.specs.Files.{AreOf, JudgesFiles}
use Rattle.tv_core.proofs.Desks.{then_keeps, same_fault}
use Rattle.tv_core.proofs.FilesRead.{renamed, reads_elf, then_source}
use Rattle.tv_core.proofs.files.judge_files.Goals as goal

pub judge_with_elf-requires : goal.judge_with_elf-requires
judge_with_elf-requires g c =
    let job = asked_of (job_of c.args.job.now) in
    let read = renamed _ _ _ _ _ _ c.elf_name.ensures c.in-Ok.ensures.reads in
    subst (λ files. AreOf files job.elf MAX_ELF_BYTES c.as_slice.result.now) (sym c.in-Ok.ensures.kept.same_files)
    (subst (AreOf (g.D.Desk.state c.args.desk.now).files job.elf MAX_ELF_BYTES) (sym c.as_slice.ensures.value) read.bytes)

pub returns-in-Ok : goal.returns-in-Ok
returns-in-Ok g c =
    let command = job_of c.args.job.now in
    let read = renamed _ _ _ _ _ _ c.elf_name.ensures c.in-Ok.ensures.reads in
    let kept = c.in-Ok.ensures.kept in
    record {
      judged = subst (λ files. IfOk c.judge_with_elf.result (λ d. JudgesFiles files command (decision_of d))) kept.same_files c.judge_with_elf.ensures.judged;
      reads = then_source command _ _ _ kept.same_files c.as_slice.result.now
          (subst (AreOf (g.D.Desk.state c.args.desk.now).files (asked_of command).elf MAX_ELF_BYTES) (sym c.as_slice.ensures.value) read.bytes)
          read.taken read.opened c.judge_with_elf.ensures.reads;
      kept = then_keeps _ _ c.judge_with_elf.result _ kept.same_files kept.unfailing c.judge_with_elf.ensures.kept;
    }

pub returns-in-Err : goal.returns-in-Err
returns-in-Err g c = record {
  judged = tt;
  reads = reads_elf (job_of c.args.job.now) _ _ _ (renamed _ _ _ _ _ _ c.elf_name.ensures c.in-Err.ensures.reads);
  kept = same_fault _ _ c.in-Err.fault c.in-Err.ensures.kept;
}
