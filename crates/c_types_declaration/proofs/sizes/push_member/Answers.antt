use Rattle.std.proofs.Common.{List, map, sym, ◌∙◌, ap}
use Rattle.std.specs.Prelude.{Result, Ok}
use Rattle.c_types_spec.specs.Types as types
use Rattle.c_types_spec.specs.Names.{Fault}
use Rattle.c_types_layout.specs.Structs.{layout_of, member_of}
use Rattle.c_types_declaration.proofs.Capped.{inserted-new, not-there}
use Rattle.c_types_declaration.proofs.sizes.push_member.Goals as goal

pub returns-in-Ok-None : goal.returns-in-Ok-None
unfolding layout_of
returns-in-Ok-None c =
    let old = c.args.layout.now in
    let made : List types.Member → Result types.Layout Fault = λ l. Ok (record { members = l; filled = old.filled; alignment = old.alignment }) in
    ap made (sym (ap (λ l. map member_of l) c.in-Ok-None.ensures.entries
    ∙ inserted-new c.args.name (record { of = c.args.of; distance = c.args.distance }) old.members.entries (sym c.in-Ok-None.ensures.old ∙ c.in-Ok-None.field-0-is)))

pub unreachable-requires : goal.unreachable-requires
unfolding layout_of
unreachable-requires c =
    not-there c.args.name.now c.args.layout.now.members.entries _ c.requires (sym c.in-Ok-Some.ensures.old ∙ c.in-Ok-Some.field-0-is)
