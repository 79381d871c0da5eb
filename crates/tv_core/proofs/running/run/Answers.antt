use Rattle.std.proofs.Common.{◌≡◌, ◌∙◌, Err, map, inl, ap, refl}
use Rattle.std.specs.Prelude.{string_bytes}
use Rattle.tv_core.specs.Decisions.{trails_of}
use Rattle.tv_core.proofs.Ending.{ends_valid, ends_unproved, ends_as_decided, ends_by_usage, not_cut, hands_out, ends_failed, ends_without_memory, not_begun}
use Rattle.tv_core.proofs.Plain.{no_trails_of}
use Rattle.attempt.specs.declared.refusal.Refusal.TheVariants.{Fault}
use Rattle.tv_base.specs.declared.faults.OutsideFault.{OutsideFault}
use Rattle.tv_base.specs.declared.faults.OutsideFault.TheVariants.{Failed}
use Rattle.tv_core.proofs.running.run.Goals as goal

only_failed : (fault : OutsideFault) → fault ≡ Failed
only_failed Failed = refl

pub returns-in-Ok-run_job : goal.returns-in-Ok-run_job
returns-in-Ok-run_job g c =
    let words = map string_bytes c.args.words.now in
    let files = (g.D.Desk.state c.args.desk.now).files in
    let code = c.in-Ok-run_job.code in
    let trails = trails_of c.run_job.new.trails in
    let ran = c.in-Ok-run_job.ensures words c.in-Ok.ensures in
    let ends = ran.ended in
    record {
      valid = ends_valid words files _ _ trails c.proved_is_checked.ensures code ends;
      unproved = ends_unproved words files _ _ trails c.unproved_is_missing.ensures code ends;
      ended = λ four five. ends;
      usage = λ four five. ends_by_usage words files _ _ trails code ends;
      decided = λ four five. ends_as_decided words files _ _ trails c.one_verdict.ensures code ends;
      handed_out = hands_out words files _ _ trails code ends;
      part = not_cut words files _ _ trails code ends;
      store_part = ran.store_part;
      taken = ran.taken;
      opened = ran.opened;
      safely = record {
        fault = λ four. not_cut words files _ _ trails code ends (inl four);
        counts = λ other. ran.unfailing;
        store_first = ran.store_first;
        same_files = ran.same_files;
      };
    }

pub returns-in-Err-Fault-Failed : goal.returns-in-Err-Fault-Failed
returns-in-Err-Fault-Failed g c =
    ends_failed _ _ _ _ _ c.run_job.result (c.run_job.ensures (map string_bytes c.args.words.now) c.in-Ok.ensures) (no_trails_of c.new.result c.new.ensures.unproved c.new.ensures.over)
    (c.in-Err-Fault-Failed.is ∙ ap Err (c.in-Err-Fault-Failed.field-0-is ∙ ap Fault (only_failed c.in-Err-Fault-Failed.field-0-0)))

pub returns-in-Ok : goal.returns-in-Ok
returns-in-Ok g c =
    ends_without_memory _ _ _ _ _ c.run_job.result (c.run_job.ensures (map string_bytes c.args.words.now) c.in-Ok.ensures) (no_trails_of c.new.result c.new.ensures.unproved c.new.ensures.over)
    (c.in-Err-NoMemory.is ∙ ap Err c.in-Err-NoMemory.field-0-is)

pub returns : goal.returns
returns g c = ends_without_memory _ _ _ _ _ _ (not_begun _ _ _) (no_trails_of c.new.result c.new.ensures.unproved c.new.ensures.over) refl
