use Rattle.code_reach.proofs.Acyclic.{depth-acyclic}
use Rattle.code_reach.proofs.stacks.stack.Goals as goal

pub returns-clause-acyclic : goal.returns-clause-acyclic
returns-clause-acyclic c = depth-acyclic c.args.image.now c.args.entry c.in_ok-depth.depth c.in_ok-depth.ensures
