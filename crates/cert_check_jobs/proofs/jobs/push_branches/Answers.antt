use Rattle.std.proofs.lemmas.Result.{on_ok_weaker}
use Rattle.cert_check_jobs.proofs.Made.{has_branches}
use Rattle.cert_check_jobs.proofs.jobs.push_branches.Goals as goal

pub returns-4 : goal.returns-4
returns-4 c =
    on_ok_weaker c.push_proof-2.result
    (has_branches c.args.jobs.now.items c.push_proof.new.jobs.items c.push_proof-2.new.jobs.items c.args.extra.now c.args.test c.in-Ok-attempt.field-0 c.in-Ok-attempt-holds.field-0
    c.in-Ok-attempt.ensures c.in-Ok-attempt-holds.ensures c.in-Ok-attempt-2.ensures)
    c.push_proof-2.ensures
