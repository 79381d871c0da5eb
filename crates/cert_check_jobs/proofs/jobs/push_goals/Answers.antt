use Rattle.std.proofs.Common.{◌∙◌, ◌++◌, ◌-◌, ℕ, List, length, drop, refl, ap, arith}
use Rattle.std.proofs.lemmas.List.{drop_all}
use Rattle.cert_check_jobs.specs.Jobs.{logs_last}
use Rattle.cert_check_frames.proofs.FrameFacts.{last_first, all_last}
use Rattle.cert_check_jobs.proofs.Made.{log_added, no_log}
use Rattle.cert_check_jobs.proofs.jobs.push_goals.Goals as goal

pub loop-index-init : goal.loop-index-init
loop-index-init c = no_log c.args.jobs.now.items (drop (length c.args.goals.now - 0) c.args.goals.now) (drop_all (length c.args.goals.now - 0) c.args.goals.now (omega arith))

pub loop-index-preserved : goal.loop-index-preserved
loop-index-preserved c =
    log_added c.args.jobs.now.items c.loop-index.jobs.items c.push.new.self.items _ _ _ c.loop-index.invariant c.in-Ok-attempt.ensures.items
    (last_first c.args.goals.now c.loop-index.index _ 0 c.loop-index-test.true refl)

pub returns : goal.returns
returns c =
    c.loop-index.invariant
    ∙ ap (λ (l : List ℕ). c.args.jobs.now.items ++ logs_last l) (all_last c.args.goals.now c.loop-index.index c.loop-index-test.false)
