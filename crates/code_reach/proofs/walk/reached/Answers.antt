use Rattle.code_reach.proofs.Places.{sorted-reached}
use Rattle.code_reach.proofs.walk.reached.Goals as goal

pub returns-clause-reached : goal.returns-clause-reached
returns-clause-reached c =
    sorted-reached c.args.image.now c.args.entry c.args.size c.add_reached.new.reached.keys c.sort.new.self.keys c.in_ok-add_reached.ensures.reached c.sort.ensures.reordered.0
    c.in_ok-sort.ensures.sorted c.sort.ensures.unique
