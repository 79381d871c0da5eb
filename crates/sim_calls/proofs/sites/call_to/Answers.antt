use Rattle.std.proofs.Common.{subst}
use Rattle.proof_tree.specs.Frames.{side_of}
use Rattle.sim_calls.specs.Sites.{IsFound}
use Rattle.sim_calls.proofs.sites.call_to.Goals as goal

pub returns-in-None : goal.returns-in-None
returns-in-None c = λ t. subst (IsFound (side_of c.args.run.now) c.args.node) c.in-None.is c.call_at.ensures t.inputs t.outputs t.landing t.call
