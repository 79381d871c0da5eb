-- Types, their sizes and alignments (ISO C11, 6.2.5, 6.2.8, 6.7.2.1), and the types that operators compute in
-- (6.3.1). An enumeration is its integer type.
use Rattle.std.specs.Prelude.{ℕ, ◌+◌, ◌-◌, ◌*◌, ◌/◌, ◌%◌, max, ◌==◌, ◌&&◌, nat_lt, nat_le, Bool, true, false, not, if◌then◌else◌, List, [], ◌∷◌, ◌++◌, bytes_eq, find, Option, Some, None, option_map, option_and_then, slice_get, is_none}
use Rattle.std.specs.Option.{option_map_or}
use Rattle.c_token_spec.specs.declared.token.NumberType.{NumberType}
use Rattle.c_token_spec.specs.declared.token.NumberType.TheVariants as number
use Rattle.c_syntax_spec.specs.declared.IntegerType.{IntegerType}
use Rattle.c_syntax_spec.specs.declared.IntegerType.TheVariants as integer
use Rattle.c_types_spec.specs.declared.Scalar.{Scalar}
use Rattle.c_types_spec.specs.declared.TheConstants.{INT_WIDTH, POINTER_WIDTH, WIDE_WIDTH, SIZE_LIMIT}

abbrev pub scalar : (is_signed : Bool) → (width : ℕ) → Scalar
scalar is_signed width = record { width = width; is_signed = is_signed }

abbrev pub int : Scalar
int = scalar true INT_WIDTH

abbrev pub unsigned_int : Scalar
unsigned_int = scalar false INT_WIDTH

-- the type of a pointer's value
abbrev pub word : Scalar
word = scalar false POINTER_WIDTH

abbrev pub same_bool : Bool → Bool → Bool
same_bool true b = b
same_bool false b = not b

abbrev pub same_scalar : Scalar → Scalar → Bool
same_scalar a b = (a.width == b.width) && same_bool a.is_signed b.is_signed

pub data CType : Type 0 where
  Void : CType
  Integer : (scalar : Scalar) → CType
  Pointer : (target : CType) → CType
  -- an array, with its length or without
  Array : (length : Option ℕ) → (element : CType) → CType
  -- a struct, by its number in the unit
  Struct : (number : ℕ) → CType

abbrev pub same_length : Option ℕ → Option ℕ → Bool
same_length None None = true
same_length (Some m) (Some n) = m == n
same_length m n = false

-- the types are equal
unfoldable pub same_type : CType → CType → Bool
same_type Void Void = true
same_type (Integer a) (Integer b) = same_scalar a b
same_type (Pointer a) (Pointer b) = same_type a b
same_type (Array m a) (Array n b) = same_length m n && same_type a b
same_type (Struct m) (Struct n) = m == n
same_type a b = false

abbrev pub is_void : CType → Bool
is_void Void = true
is_void type = false

abbrev pub is_struct : CType → Bool
is_struct (Struct number) = true
is_struct type = false

abbrev pub is_array : CType → Bool
is_array (Array length element) = true
is_array type = false

-- it is an array without length
abbrev pub is_open_array : CType → Bool
is_open_array (Array None element) = true
is_open_array type = false

-- the type of its values; `void`, arrays and structs have none
abbrev pub scalar_of : CType → Option Scalar
scalar_of (Integer scalar) = Some scalar
scalar_of (Pointer target) = Some word
scalar_of type = None

-- an integer of 64 bits occurs in it
unfoldable pub is_wide : CType → Bool
is_wide (Integer scalar) = scalar.width == WIDE_WIDTH
is_wide (Pointer target) = is_wide target
is_wide (Array length element) = is_wide element
is_wide type = false

-- 6.7.2p2: plain `char` is unsigned, and `long` is the same type as `int`
abbrev pub integer_scalar : IntegerType → Scalar
integer_scalar integer.Char = scalar false 8
integer_scalar integer.SignedChar = scalar true 8
integer_scalar integer.UnsignedChar = scalar false 8
integer_scalar integer.Short = scalar true 16
integer_scalar integer.UnsignedShort = scalar false 16
integer_scalar integer.Int = int
integer_scalar integer.UnsignedInt = unsigned_int
integer_scalar integer.Long = int
integer_scalar integer.UnsignedLong = unsigned_int
integer_scalar integer.LongLong = scalar true WIDE_WIDTH
integer_scalar integer.UnsignedLongLong = scalar false WIDE_WIDTH

-- 6.4.4.1p5
abbrev pub number_scalar : NumberType → Scalar
number_scalar number.SignedInt = int
number_scalar number.UnsignedInt = unsigned_int
number_scalar number.SignedLongLong = scalar true WIDE_WIDTH
number_scalar number.UnsignedLongLong = scalar false WIDE_WIDTH

-- ---- the types that operators compute in

-- 6.3.1.1p2: the integer promotions. `int` has each value of a narrower type
abbrev pub promoted : Scalar → Scalar
promoted a = if nat_lt a.width INT_WIDTH then int else a

abbrev pub wider : Scalar → Scalar → Scalar
wider a b =
    if nat_lt a.width b.width then b
    else if nat_lt b.width a.width then a
    else scalar (a.is_signed && b.is_signed) a.width

-- 6.3.1.8: the usual arithmetic conversions: after the promotions the wider type, which has each value of a narrower
-- one or is unsigned; of two types of one width the unsigned one
abbrev pub common : Scalar → Scalar → Scalar
common a b = wider (promoted a) (promoted b)

-- ---- structs

-- a member, and its distance from the start of its struct in bytes
pub record Member : Type 0 where
  pub member : List ℕ
  pub type : CType
  pub distance : ℕ

-- the members so far, the size of what they fill, and the greatest of their alignments
pub record Layout : Type 0 where
  pub members : List Member
  pub filled : ℕ
  pub alignment : ℕ

-- what is known of the structs of a unit, by their numbers
pub data Definition : Type 0 where
  -- it was named alone
  Undefined : Definition
  -- its members are being declared
  Unfinished : Definition
  Defined : (layout : Layout) → Definition

abbrev pub Structs : Type 0
Structs = List Definition

-- the least multiple of an alignment from a number on
abbrev pub round_up : (alignment n : ℕ) → ℕ
round_up alignment n = n + (alignment - n % alignment) % alignment

-- 6.7.2.1p17: the end is padded, so that each element of an array of structs is aligned
abbrev pub padded : Layout → ℕ
padded layout = round_up layout.alignment layout.filled

abbrev pub has_members : List Member → Bool
has_members [] = false
has_members (first ∷ rest) = true

-- the layout of a struct that is defined and has members
abbrev pub layout_of_definition : Definition → Option Layout
layout_of_definition (Defined layout) = if has_members layout.members then Some layout else None
layout_of_definition definition = None

abbrev pub struct_layout : Structs → ℕ → Option Layout
struct_layout structs number = option_and_then layout_of_definition (slice_get structs number)

abbrev pub times : Option ℕ → Option ℕ → Option ℕ
times (Some m) (Some n) = Some (m * n)
times m n = None

-- 6.5.3.4: the size of a type in bytes; none where it is incomplete (6.2.5p1)
unfoldable pub size_of : Structs → CType → Option ℕ
size_of structs Void = None
size_of structs (Integer scalar) = Some (scalar.width / 8)
size_of structs (Pointer target) = Some (POINTER_WIDTH / 8)
size_of structs (Array length element) = times length (size_of structs element)
size_of structs (Struct number) = option_map padded (struct_layout structs number)

-- 6.2.8: a scalar is aligned to its size, an array as its element, a struct as its greatest member
unfoldable pub alignment_of : Structs → CType → ℕ
alignment_of structs Void = 1
alignment_of structs (Integer scalar) = scalar.width / 8
alignment_of structs (Pointer target) = POINTER_WIDTH / 8
alignment_of structs (Array length element) = alignment_of structs element
alignment_of structs (Struct number) = option_map_or (λ (layout : Layout). layout.alignment) (struct_layout structs number) 1

abbrev pub empty_layout : Layout
empty_layout = record { members = []; filled = 0; alignment = 1 }

-- 6.7.2.1p15: members in the order of their declarations, each at the first place that is aligned
abbrev pub with_member : Layout → (member : List ℕ) → CType → (size alignment : ℕ) → Layout
with_member layout member type size alignment = record {
  members = layout.members ++ record { member = member; type = type; distance = round_up alignment layout.filled } ∷ [];
  filled = round_up alignment layout.filled + size;
  alignment = max layout.alignment alignment;
}

abbrev pub member_named : Layout → (member : List ℕ) → Option Member
member_named layout name = find (λ (m : Member). bytes_eq m.member name) layout.members

-- ---- what is refused of a type

-- it is an array of what has no size (6.7.6.2p1)
abbrev pub lacks_element : Structs → CType → Bool
lacks_element structs (Array length element) = is_none (size_of structs element)
lacks_element structs type = false

abbrev pub is_large : Option ℕ → Bool
is_large None = false
is_large (Some size) = nat_le SIZE_LIMIT size

-- its size, or that of the elements of an array without length, is over the limit
abbrev pub too_large : Structs → CType → Bool
too_large structs (Array None element) = is_large (size_of structs element)
too_large structs type = is_large (size_of structs type)
