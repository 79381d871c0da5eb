use Rattle.std.proofs.Common.{◌∙◌, ap}
use Rattle.std.specs.Prelude.{option_map}
use Rattle.c_types_layout.specs.Structs.{layout_of, placed_of}
use Rattle.c_types_layout.proofs.Members.{looked-up, copied}
use Rattle.c_types_layout.proofs.structs.member_named.Goals as goal

pub returns : goal.returns
unfolding layout_of
returns c =
    copied c.get.result
    ∙ ap (λ found. option_map placed_of found) c.get.ensures.value
    ∙ looked-up c.args.name.now c.args.layout.now.members.entries
