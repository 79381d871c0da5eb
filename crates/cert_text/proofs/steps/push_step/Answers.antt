use Rattle.std.proofs.Common.{rules}
use Rattle.cert_text.proofs.Texts.{step_added}
use Rattle.cert_text.proofs.steps.push_step.Goals as goal

pub returns-6 : goal.returns-6
returns-6 c =
    step_added c.args.out.now.items c.extend_from_slice.new.self.items c.push_literals.new.out.items c.extend_from_slice-2.new.self.items c.push_hints.new.out.items
    c.extend_from_slice-3.new.self.items c.args.literals.now c.args.hints.now (search rules) (search rules) (search rules) (search rules) (search rules)
