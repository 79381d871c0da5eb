use Rattle.std.proofs.Common.{◌≡◌, subst, ◌∙◌}
use Rattle.std.specs.Prelude.{option_map}
use Rattle.c_types_spec.specs.Units.{global_size}
use Rattle.c_types_layout.specs.Structs.{structs_of}
use Rattle.c_types_layout.specs.Types.{type_of}
use Rattle.c_types.specs.Typed.{global_at, global_of}
use Rattle.c_types.proofs.Lookups.{global-known, global-unknown}
use Rattle.c_types.proofs.typed.Typed.global.Goals as goal

pub returns-in-Some : goal.returns-in-Some
returns-in-Some c =
    let name = c.args.name.now in
    subst (λ l. option_map (λ t. global_of name (global_size (structs_of l) (type_of t.now))) c.object_in.result ≡ global_at (structs_of l) name c.in-Some.meaning.now) c.as_slice.ensures.value c.object_in.ensures
    ∙ global-known (structs_of c.args.self.now.structs.items) c.args.self.now.names.entries name c.in-Some.meaning.now c.in-Some.ensures.distinct c.in-Some.ensures.found

pub returns-in-None : goal.returns-in-None
returns-in-None c = global-unknown (structs_of c.args.self.now.structs.items) c.args.self.now.names.entries c.args.name.now c.in-None.ensures.distinct c.in-None.ensures.found
