use Rattle.c_syntax.specs.Names.{name_of}
use Rattle.c_types_layout.specs.Structs.{layout_of, structs_of}
use Rattle.c_types_layout.specs.Types.{type_of}
use Rattle.c_types_declaration.proofs.Capped.{is_known}
use Rattle.c_types_declaration.proofs.sizes.member.Goals as goal

pub known_size-size-requires : goal.known_size-size-requires
known_size-size-requires c =
    is_known (structs_of c.args.structs.now) (layout_of c.args.layout.now) (name_of c.args.name) (type_of c.args.of) c.in-Ok-attempt_or_drop.ensures
