use Rattle.std.proofs.Common.{List, ℕ, refl, sym, ap, subst, inl, inr}
use Rattle.std.specs.Prelude.{option_map}
use Rattle.tv_words.specs.Jobs.{job_of}
use Rattle.tv_core.specs.Decisions.{decision_of}
use Rattle.tv_core.specs.Ends.{AskFor, IsOutcome, commanded, usage_error}
use Rattle.tv_core.proofs.Desks.{same_fault}
use Rattle.tv_core.proofs.Ending.{gave}
use Rattle.tv_core.proofs.running.run_job.Goals as goal

pub returns-in-Ok : goal.returns-in-Ok
returns-in-Ok g c = λ words asked.
    let files = (g.D.Desk.state c.args.desk.now).files in
    let command = job_of c.in-Some.job in
    let by = subst (AskFor words) (ap (option_map job_of) c.in-Some.is) asked in
    let decision = decision_of c.in-Ok.decision in
    let judged = c.in-Ok.ensures.judged in
    let reads = c.in-Ok.ensures.reads in
    let kept = c.in-Ok.ensures.kept in
    let outcome = subst (λ (name : List ℕ). IsOutcome words files name decision) (sym c.name_of.ensures) (commanded command decision by judged.1 judged.0) in
    gave words _ _ _ _ c.give.result _ decision outcome (inr (command, by, reads.taken), inr (command, by, reads.opened)) kept.same_files kept.unfailing
    c.give.ensures.published c.give.ensures.status c.give.ensures.kept

pub returns-in-Err : goal.returns-in-Err
returns-in-Err g c = λ words asked.
    let command = job_of c.in-Some.job in
    let by = subst (AskFor words) (ap (option_map job_of) c.in-Some.is) asked in
    let reads = c.in-Err.ensures.reads in
    let desk = same_fault _ _ c.in-Err.fault c.in-Err.ensures.kept in
    record {
      ended = tt;
      trails_kept = refl;
      part = inl refl;
      store_part = inl refl;
      store_first = inl refl;
      taken = inr (command, by, reads.taken);
      opened = inr (command, by, reads.opened);
      same_files = desk.same_files;
      failed = λ e. inl (desk.cause.failed e);
      unfailing = tt;
      no_memory = λ e. (desk.no_memory e, (refl, refl));
    }

pub returns-in-None : goal.returns-in-None
returns-in-None g c = λ words asked.
    let files = (g.D.Desk.state c.args.desk.now).files in
    let none = usage_error (subst (AskFor words) (ap (option_map job_of) c.in-None.is) asked) in
    let outcome = subst (IsOutcome words files _) (sym c.plain-decision.ensures) none in
    gave words _ _ _ _ c.give-in-None.result _ _ outcome (inl refl, inl refl) refl refl c.give-in-None.ensures.published c.give-in-None.ensures.status c.give-in-None.ensures.kept
