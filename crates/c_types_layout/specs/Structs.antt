-- Structs of the program, and their layouts.
use Rattle.std.specs.Prelude.{ℕ, ◌/◌, Bool, true, false, List, map, Option, Some}
use Rattle.std.specs.Borrow.{Bor}
use Rattle.c_types_spec.specs.declared.TheConstants.{POINTER_WIDTH}
use Rattle.c_types_spec.specs.Types as tree
pub use Rattle.c_types_layout.specs.Extents.{capped}
use Rattle.c_types_layout.specs.declared.types.Base.{Base}
use Rattle.c_types_layout.specs.Types.{base_of, type_of}
use Rattle.c_types_layout.specs.declared.structs.Placed.{Placed}
use Rattle.c_types_layout.specs.declared.structs.Layout.{Layout}
use Rattle.c_types_layout.specs.declared.structs.Definition.{Definition}
use Rattle.c_types_layout.specs.declared.structs.Definition.TheVariants as definition

abbrev pub member_of : Bor (List ℕ) × Placed → tree.Member
member_of entry = record { member = entry.0.now; type = type_of entry.1.of; distance = entry.1.distance }

unfoldable pub layout_of : Layout → tree.Layout
layout_of layout = record { members = map member_of layout.members.entries; filled = layout.filled; alignment = layout.alignment }

abbrev pub definition_of : Definition → tree.Definition
definition_of definition.Undefined = tree.Undefined
definition_of definition.Unfinished = tree.Unfinished
definition_of (definition.Defined layout) = tree.Defined (layout_of layout.value)

abbrev pub structs_of : List Definition → tree.Structs
structs_of structs = map definition_of structs

-- the size and the alignment of what is inside arrays: a pointer, or what a type has innermost
abbrev pub innermost_size : tree.Structs → Base → (is_pointer : Bool) → Option ℕ
innermost_size structs base true = Some (POINTER_WIDTH / 8)
innermost_size structs base false = tree.size_of structs (base_of base)

abbrev pub innermost_alignment : tree.Structs → Base → (is_pointer : Bool) → ℕ
innermost_alignment structs base true = POINTER_WIDTH / 8
innermost_alignment structs base false = tree.alignment_of structs (base_of base)

-- a member's type and its distance
abbrev pub placed_of : Placed → tree.CType × ℕ
placed_of placed = (type_of placed.of, placed.distance)

abbrev pub part_of : tree.Member → tree.CType × ℕ
part_of member = (member.type, member.distance)
