use Rattle.c_types_scope.proofs.Declaring.{state-declared_in_file}
use Rattle.c_types_scope.proofs.state.State.declare_in_file.Goals as goal

pub returns-in-Ok : goal.returns-in-Ok
returns-in-Ok c = state-declared_in_file c.args.self.now c.declare_in_file.new.self c.args.name.now c.args.meaning c.in-Ok.ensures
