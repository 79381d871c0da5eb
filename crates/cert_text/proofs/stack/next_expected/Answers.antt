use Rattle.std.proofs.Common.{sym, ◌∙◌}
use Rattle.cert_text.proofs.Groups.{taken, none_left}
use Rattle.cert_text.proofs.stack.next_expected.Goals as goal

pub returns-in-Ok : goal.returns-in-Ok
returns-in-Ok c = taken c.args.stack.now.items c.pop.new.self.items c.push_expected.new.stack.items c.in-Some.group c.in-Some.ensures.items c.in-Ok.ensures

pub returns-in-None : goal.returns-in-None
returns-in-None c = none_left c.args.stack.now.items (sym c.args.stack.now.ok.0 ∙ c.in-None.ensures.cases.0)
