use Rattle.std.specs.Prelude.{◌-◌}
use Rattle.std.proofs.Common.{arith}
use Rattle.cert_text.proofs.Groups.{pushed}
use Rattle.cert_text.proofs.stack.push_expected.Goals as goal

pub returns-in-Ok : goal.returns-in-Ok
returns-in-Ok c = pushed c.args.stack.now.items c.push.new.self.items c.args.expected c.args.count (c.args.count - 1) c.in-Ok.ensures.items (omega arith)
