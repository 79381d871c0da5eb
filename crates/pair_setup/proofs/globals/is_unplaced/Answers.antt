use Rattle.std.proofs.Common.{Option, subst}
use Rattle.std.specs.Prelude.{◌↔◌, IfOk, IsTrue}
use Rattle.c_types_layout.specs.Structs.{structs_of}
use Rattle.c_types_layout.specs.declared.types.CType.{CType}
use Rattle.pair_setup.specs.Globals.{IsUnplaced}
use Rattle.pair_setup.proofs.globals.is_unplaced.Goals as goal

pub returns-in-Some : goal.returns-in-Some
returns-in-Some c =
    subst (λ (o : Option CType). IfOk c.lacks_place.result (λ found. IsTrue found ↔ IsUnplaced c.args.image.now (structs_of c.args.unit.now.structs.items) c.args.name.now o))
    c.in-Some.ensures c.lacks_place.ensures
