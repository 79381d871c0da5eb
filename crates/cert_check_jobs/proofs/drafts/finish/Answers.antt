use Rattle.std.proofs.lemmas.Result.{on_ok_weaker}
use Rattle.cert_check_jobs.proofs.Made.{is_finished}
use Rattle.cert_check_jobs.proofs.drafts.finish.Goals as goal

pub returns-4 : goal.returns-4
returns-4 c =
    on_ok_weaker c.push_proof-2.result
    (is_finished c.args.draft.now c.args.lines.now c.args.jobs.now.items c.push_proof.new.jobs.items c.push_proof-2.new.jobs.items c.in-Ok-attempt.field-0 c.in-Ok-attempt-before.field-0
    c.in-Ok-attempt.ensures c.in-Ok-attempt-before.ensures c.in-Ok-attempt-2.ensures)
    c.push_proof-2.ensures
