use Rattle.visit_walk.proofs.Passing.{adds_both}
use Rattle.visit_walk.proofs.cycle.add_passed_from.Goals as goal

pub returns-in_ok-add_passed-in-Two-2 : goal.returns-in_ok-add_passed-in-Two-2
returns-in_ok-add_passed-in-Two-2 c =
    adds_both c.args.marks.now c.in-Two.on_true c.in-Two.on_false c.args.successors c.args.found.now.keys c.add_passed-in-Two.new.found.keys c.add_passed-in-Two-2.new.found.keys
    c.in-Two.is c.in_ok-add_passed-in-Two.ensures c.in_ok-add_passed-in-Two-2.ensures
