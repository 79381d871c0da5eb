use Rattle.c_types_scope.specs.States.{state_of}
use Rattle.c_types.specs.Typed.{bodies_of}
use Rattle.c_types.proofs.Bodied.{not_yet}
use Rattle.c_types.proofs.unit.external_declaration.Goals as goal

pub push_body-requires : goal.push_body-requires
push_body-requires c =
    not_yet (bodies_of c.args.bodies.now.entries) (state_of c.args.state.now) c.requires _ _ _ c.in-Ok-attempt-base.ensures _ _ _ _ _ c.in-Ok-attempt-made.ensures
