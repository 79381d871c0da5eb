use Rattle.cert_check.proofs.Checking.{can_log, log_passes, log_fails}
use Rattle.cert_check.proofs.checker.Checker.log_line.Goals as goal

pub log-requires : goal.log-requires
log-requires c = can_log c.args.self.now c.args.count c.requires

pub returns-in-Ok : goal.returns-in-Ok
returns-in-Ok c = log_passes c.args.self.now c.log.new.walk c.args.count c.args.place c.requires c.in-Ok.log c.in-Ok.ensures

pub returns-in-Err : goal.returns-in-Err
returns-in-Err c = log_fails c.args.self.now c.log.new.walk c.args.count c.args.place c.requires c.in-Err.fault c.placed_at.result c.placed_at.ensures c.in-Err.ensures
