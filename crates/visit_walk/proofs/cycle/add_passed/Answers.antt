use Rattle.std.proofs.Common.{sym, ◌∙◌}
use Rattle.visit_walk.proofs.Passing.{adds_open}
use Rattle.visit_walk.proofs.cycle.add_passed.Goals as goal

pub returns-in_ok-insert-in-At : goal.returns-in_ok-insert-in-At
returns-in_ok-insert-in-At c =
    adds_open c.args.marks.now c.in-At.node c.args.to c.args.found.now.keys c.insert.new.self.keys c.in-At.is (sym c.is_closed.ensures ∙ c.if-not-is_closed.true)
    c.in_ok-insert-in-At.ensures.keys
