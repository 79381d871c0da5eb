use Rattle.c_types_scope.proofs.Declaring.{state-declared}
use Rattle.c_types_scope.proofs.state.State.declare.Goals as goal

pub returns-in-Ok : goal.returns-in-Ok
returns-in-Ok c = state-declared c.args.self.now c.declare.new.self c.args.name.now c.args.meaning c.in-Ok.ensures
