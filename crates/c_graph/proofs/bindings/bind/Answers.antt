use Rattle.c_graph.proofs.Added.{one_added}
use Rattle.c_graph.proofs.bindings.bind.Goals as goal

pub returns : goal.returns
returns c = λ trees below. one_added trees c.args.bindings.now.items c.push.new.self.items c.args.variable c.args.term below c.in_ok-push.ensures.items
