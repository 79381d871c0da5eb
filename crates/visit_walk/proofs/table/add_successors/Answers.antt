use Rattle.visit_walk.specs.Tables.{visit_at}
use Rattle.visit_walk.proofs.Exploring.{follow_both, follow_call}
use Rattle.visit_walk.proofs.table.add_successors.Goals as goal

pub returns-in_ok-second-in-Two : goal.returns-in_ok-second-in-Two
returns-in_ok-second-in-Two c =
    follow_both c.args.table.now c.arrive-in-Two.new.table c.arrive-in-Two-2.new.table c.args.marks.now (visit_at c.args.table.now c.args.index) c.args.counts c.in-Two.on_true
    c.in-Two.on_false c.args.successors c.in_ok-first-in-Two.first c.in_ok-second-in-Two.second c.in-Two.is c.requires.counts c.requires.there
    c.in_ok-first-in-Two.ensures c.in_ok-second-in-Two.ensures

pub returns-in-Callee : goal.returns-in-Callee
returns-in-Callee c = follow_call c.args.table.now c.args.marks.now c.args.index c.args.successors c.in-Callee.is c.requires.table c.requires.within
