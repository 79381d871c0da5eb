-- Declarations of objects.
use Rattle.std.specs.Prelude.{ℕ, ◌+◌, ◌-◌, ◌/◌, ◌||◌, Bool, if◌then◌else◌, List, [], ◌∷◌, Option, Some, None, option_map}
use Rattle.std.specs.Option.{option_map_or}
use Rattle.std.specs.Borrow.{Bor}
use Rattle.c_types_spec.specs.declared.Scalar.{Scalar}
use Rattle.c_types_spec.specs.declared.TheConstants.{POINTER_WIDTH}
use Rattle.c_syntax_spec.specs.Expression.{Name}
use Rattle.c_types_spec.specs.declared.LeftOut.TheVariants as left_out
use Rattle.c_types_spec.specs.declared.TypeFaultKind.{TypeFaultKind}
use Rattle.c_types_spec.specs.declared.TypeFaultKind.TheVariants.{Twice, Mismatch, Incomplete, LeftOut}
use Rattle.c_types_spec.specs.Types as types
use Rattle.c_types_spec.specs.Names as names
use Rattle.c_types_spec.specs.Declarations as rule
use Rattle.c_types_layout.specs.Types.{element_of}
use Rattle.c_types_scope.specs.declared.meaning.Meaning.{Meaning}
use Rattle.c_types_scope.specs.Meanings.{seen_meaning}

abbrev pub seen_in : Option (Option (Bor Meaning)) → Option names.Meaning
seen_in found = option_map (λ m. seen_meaning (option_map (λ x. x.now) m)) found

abbrev pub with_both : (length : Option ℕ) → Option types.CType → Option types.CType → Option types.CType
with_both length (Some a) (Some b) = if types.same_type a b then Some (types.Array length a) else None
with_both length a b = None

-- an array of a length, where the elements of two arrays are of one type
abbrev pub with_length : (length : Option ℕ) → (old type : types.CType) → Option types.CType
with_length length old type = with_both length (element_of old) (element_of type)

-- what is refused of an object; `differs` is whether its type differs from that of an earlier declaration
abbrev pub object_faults : Name → types.CType → (differs : Bool) → names.State → List (Bool × TypeFaultKind)
object_faults name type differs st =
    (rule.is_once (rule.in_file st name), Twice)
    ∷ (types.too_large st.structs type || differs, Mismatch)
    ∷ (types.lacks_element st.structs type || types.is_void type, Incomplete)
    ∷ (types.is_wide type, LeftOut left_out.Word64) ∷ []

-- how many words an argument of a type has
abbrev pub words : types.CType → ℕ
words type = option_map_or (λ (s : Scalar). (s.width + (POINTER_WIDTH - 1)) / POINTER_WIDTH) (types.scalar_of type) 0
