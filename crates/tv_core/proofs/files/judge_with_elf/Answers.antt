use Rattle.std.proofs.Common.{refl, sym, subst, inl, inr, arith}
use Rattle.std.specs.Prelude.{IfOk}
use Rattle.std.proofs.lemmas.Result.{IfOk-weaker}
use Rattle.tv_words.specs.Jobs.{job_of}
use Rattle.tv_core.specs.Tasks.{asked_of}
use Rattle.tv_limits.specs.declared.TheConstants.{MAX_C_BYTES}
use Rattle.tv_core.specs.Decisions.{decision_of}
use Rattle.tv_core.specs.Files.{AreOf, JudgesWith, JudgesFiles}
use Rattle.tv_core.proofs.Desks.{ended_keeps, then_keeps, same_fault}
use Rattle.tv_core.proofs.FilesRead.{elf_too_large, elf_of_command, renamed, source_too_large, judged_files, reads_source, then_certificate}
use Rattle.tv_core.proofs.files.judge_with_elf.Goals as goal

pub returns-then-elf-gt-MAX_ELF_BYTES : goal.returns-then-elf-gt-MAX_ELF_BYTES
returns-then-elf-gt-MAX_ELF_BYTES g c =
    let command = job_of c.args.job.now in
    record {
      judged = subst (JudgesFiles (g.D.Desk.state c.args.desk.now).files command) (sym c.plain.ensures)
          (elf_too_large _ command c.args.elf.now c.requires (omega arith), elf_of_command command);
      reads = record { taken = inl (inl refl); opened = inl refl };
      kept = ended_keeps _ _ _ refl refl tt;
    }

pub returns-then-len-gt-MAX_C_BYTES : goal.returns-then-len-gt-MAX_C_BYTES
returns-then-len-gt-MAX_C_BYTES g c =
    let files = (g.D.Desk.state c.args.desk.now).files in
    let command = job_of c.args.job.now in
    let read = renamed _ _ _ _ _ _ c.source_name.ensures c.in-Ok.ensures.reads in
    let kept = c.in-Ok.ensures.kept in
    record {
      judged = subst (JudgesFiles files command) (sym c.plain-then-len-gt-MAX_C_BYTES.ensures) (source_too_large files command c.args.elf.now c.in-Ok.source.items c.requires (omega arith) read.bytes (omega arith));
      reads = record { taken = inl read.taken; opened = inr (omega arith, inl read.opened) };
      kept = then_keeps _ _ _ (g.D.Desk.state c.read_file.new.desk) kept.same_files kept.unfailing (ended_keeps _ _ _ refl refl tt);
    }

pub returns-else-len-gt-MAX_C_BYTES : goal.returns-else-len-gt-MAX_C_BYTES
returns-else-len-gt-MAX_C_BYTES g c =
    let files = (g.D.Desk.state c.args.desk.now).files in
    let command = job_of c.args.job.now in
    let elf = c.args.elf.now in
    let read = renamed _ _ _ _ _ _ c.source_name.ensures c.in-Ok.ensures.reads in
    let source = c.as_slice.result.now in
    let kept = c.in-Ok.ensures.kept in
    let source_of = subst (AreOf files (asked_of command).source MAX_C_BYTES) (sym c.as_slice.ensures.value) read.bytes in
    record {
      judged = IfOk-weaker c.judge.result (λ d. JudgesWith files elf source command (decision_of d)) (λ d. JudgesFiles files command (decision_of d))
          (λ d h. judged_files files command elf source c.requires (omega arith) source_of (decision_of d) (omega arith) h)
          (subst (λ fs. IfOk c.judge.result (λ d. JudgesWith fs elf source command (decision_of d))) kept.same_files c.judge.ensures.judged);
      reads = then_certificate command _ _ _ kept.same_files elf source c.requires (omega arith) source_of (omega arith) read.taken read.opened c.judge.ensures.reads;
      kept = then_keeps _ _ c.judge.result _ kept.same_files kept.unfailing c.judge.ensures.kept;
    }

pub returns-in-Err : goal.returns-in-Err
returns-in-Err g c = record {
  judged = tt;
  reads = reads_source (job_of c.args.job.now) c.args.elf.now _ _ _ (renamed _ _ _ _ _ _ c.source_name.ensures c.in-Err.ensures.reads) (omega arith);
  kept = same_fault _ _ c.in-Err.fault c.in-Err.ensures.kept;
}
