use Rattle.std.proofs.Common.{refl, sym, subst}
use Rattle.c_types.specs.Typed.{typed_of}
use Rattle.pair_setup_calls.specs.Names.{names_of}
use Rattle.pair_setup.specs.Names.{IsDeclaredAt}
use Rattle.pair_setup.specs.Depths.{IsDepthOf, IsSoundFunction}
use Rattle.pair_setup.proofs.Entries.{named-sized}
use Rattle.pair_setup.proofs.Shallow.{declared-number, sound-function}
use Rattle.pair_setup.proofs.reach.listed_function.Goals as goal

pub depth_of-requires-clause-sized : goal.depth_of-requires-clause-sized
depth_of-requires-clause-sized c = named-sized c.args.image.now c.args.name.now c.args.entry c.requires.code.named

pub returns-in-Stack-clause-function : goal.returns-in-Stack-clause-function
returns-in-Stack-clause-function c =
    subst (λ n. IsSoundFunction c.args.image.now (typed_of c.args.unit.now) c.args.name.now (record { entry = c.args.entry; size = n; stack = c.in-Stack.stack })) (sym c.unwrap_or-size.ensures)
    (sound-function c.args.image.now (typed_of c.args.unit.now) c.args.name.now c.args.entry c.requires.code c.size_at.result c.in-Stack.stack c.size_at.ensures
    (named-sized c.args.image.now c.args.name.now c.args.entry c.requires.code.named)
    (subst (IsDepthOf c.args.image.now (typed_of c.args.unit.now) c.args.name.now c.args.entry) c.in-Stack.is (c.in-Ok-attempt.ensures c.args.name.now
    (subst (IsDeclaredAt (typed_of c.args.unit.now) (names_of c.args.unit.now) c.args.name.now) (sym c.unwrap_or-start.ensures)
    (declared-number c.args.image.now (typed_of c.args.unit.now) (names_of c.args.unit.now) c.requires.typed c.args.name.now c.function_number.result c.requires.names c.function_number.ensures)))))

pub returns-in-Fault-clause-fault : goal.returns-in-Fault-clause-fault
returns-in-Fault-clause-fault c = (
  refl,
  subst (IsDepthOf c.args.image.now (typed_of c.args.unit.now) c.args.name.now c.args.entry) c.in-Fault.is (c.in-Ok-attempt.ensures c.args.name.now
      (subst (IsDeclaredAt (typed_of c.args.unit.now) (names_of c.args.unit.now) c.args.name.now) (sym c.unwrap_or-start.ensures)
      (declared-number c.args.image.now (typed_of c.args.unit.now) (names_of c.args.unit.now) c.requires.typed c.args.name.now c.function_number.result c.requires.names c.function_number.ensures))),
)
