use Rattle.cert_check_frames.proofs.Made.{premises_made}
use Rattle.cert_check_frames.proofs.entry.premises.Goals as goal

pub returns-3 : goal.returns-3
returns-3 c =
    premises_made c.args.lines.now c.args.branches.now c.args.tests.now c.new-premises.result.items c.add_entry.new.premises.items c.add_branches.new.premises.items c.new-premises.ensures.items
    c.in-Ok-attempt.ensures c.in-Ok-attempt-2.ensures
