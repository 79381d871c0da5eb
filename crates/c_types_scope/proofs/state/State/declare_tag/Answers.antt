use Rattle.c_types_scope.proofs.Declaring.{state-tagged}
use Rattle.c_types_scope.proofs.state.State.declare_tag.Goals as goal

pub returns-in-Ok : goal.returns-in-Ok
returns-in-Ok c = state-tagged c.args.self.now c.declare.new.self c.args.tag.now c.args.meaning c.in-Ok.ensures
