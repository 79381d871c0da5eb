-- Globals that have no place in the executable, by the numbers of their names.
use Rattle.std.specs.Prelude.{◌≡◌, ◌↔◌, ℕ, Bool, true, false, List, get_or, Option, Some, None, Contains}
use Rattle.elf_read_spec.specs.Image.{Image}
use Rattle.c_types_spec.specs.Types.{Structs}
use Rattle.c_types_spec.specs.Units.{global_size}
use Rattle.c_types_spec.specs.Core.{Typed, Global}
use Rattle.c_types_layout.specs.Types.{type_of}
use Rattle.c_types_layout.specs.declared.types.CType.{CType}
use Rattle.c_types_scope.specs.declared.meaning.Meaning.{Meaning}
use Rattle.c_types_scope.specs.declared.meaning.Meaning.TheVariants.{Local, Object, Function, Typedef, Enumerator}
use Rattle.c_types.specs.Typed.{global_of}
use Rattle.pair_setup_calls.specs.Names.{IsNumber}
use Rattle.pair_setup_spec.specs.Faults.{IsPlaced}

-- the type of a global, where a name means one
abbrev pub object_type : Meaning → Option CType
object_type (Object type) = Some type
object_type (Local number type) = None
object_type (Function signature has_body) = None
object_type (Typedef type) = None
object_type (Enumerator value) = None

-- there is a global of this name and type, and it isn't placed
abbrev pub IsUnplaced : Image → Structs → (name : List ℕ) → Option CType → Type 0
IsUnplaced image structs name (Some type) = IsPlaced image (global_of name (global_size structs (type_of type))) → ⊥
IsUnplaced image structs name None = ⊥

-- a global of the name of this number isn't placed
pub record IsMisplacedAt (image : Image) (unit : Typed) (names : List (List ℕ)) (number : ℕ) : Type 0 where
  pub declared : Global
  pub is_declared : Contains unit.globals declared
  pub number_is : IsNumber names number declared.global
  pub misplaced : IsPlaced image declared → ⊥

-- the marked numbers are these
abbrev pub AreMisplaced : Image → Typed → (names : List (List ℕ)) → List Bool → Type 0
AreMisplaced image unit names marks = (number : ℕ) → (get_or marks number false ≡ true) ↔ IsMisplacedAt image unit names number
