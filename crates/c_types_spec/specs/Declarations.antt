-- The rules of names: what a name, a tag or a constant gives, and what is asked of a name that is declared (ISO C11,
-- 6.5.1, 6.7).
use Rattle.std.specs.Prelude.{ℕ, ◌+◌, ◌-◌, ◌/◌, ℤ, pos, ◌&&◌, ◌||◌, not, nat_lt, Bool, true, false, if◌then◌else◌, List, [], ◌∷◌, Option, Some, None, unwrap_or, Result, Ok, is_some, is_none, slice_get}
use Rattle.std.specs.Option.{option_map_or}
use Rattle.c_token_spec.specs.Words.{entry_of}
use Rattle.c_token_spec.specs.declared.token.NumberType.{NumberType}
use Rattle.c_syntax_spec.specs.Expression.{Name}
use Rattle.c_types_spec.specs.declared.Scalar.{Scalar}
use Rattle.c_types_spec.specs.declared.Standing.TheVariants.{Computed}
use Rattle.c_types_spec.specs.declared.LeftOut.TheVariants as left_out
use Rattle.c_types_spec.specs.declared.TypeFaultKind.{TypeFaultKind}
use Rattle.c_types_spec.specs.declared.TypeFaultKind.TheVariants.{Unknown, Twice, Mismatch, Incomplete, TooManyWords, LeftOut}
use Rattle.c_types_spec.specs.declared.TheConstants.{ARGUMENT_WORDS, POINTER_WIDTH}
use Rattle.c_types_spec.specs.Types.{CType, Integer, Pointer, Array, Struct, Structs, Definition, Undefined, Unfinished, Layout, same_type, is_void, is_struct, is_array, is_wide, scalar_of, size_of, alignment_of, with_member, member_named, padded, is_large, lacks_element, too_large, number_scalar, int, unsigned_int}
use Rattle.c_types_spec.specs.Values.{is_of}
use Rattle.c_types_spec.specs.Core.{GlobalAddress}
use Rattle.c_types_spec.specs.Names.{Signature, Meaning, Local, Object, Function, Typedef, Enumerator, Hidden, Tag, StructTag, EnumTag, HiddenTag, in_scope, in_innermost, State, Fault, Typing, give, fail, bind, ◌>>=◌, ◌>>◌, by, refuse, change, faults_at, check, declare, declare_tag, declared_in_file, mention, new_struct, define_struct, new_local}
use Rattle.c_types_spec.specs.Operands.{Operand, Category, Value, InLocal, InMemory, operand, constant_operand}

-- ---- names in expressions

-- 6.5.1p2, 6.3.2.1p4: a function's name is left out other than in a call
abbrev pub named_by : Option Meaning → Name → Result Operand Fault
named_by (Some (Local number type)) name = Ok (operand (InLocal number) type Computed name.offset)
named_by (Some (Object type)) name = Ok (operand (InMemory (GlobalAddress name.spelling) 0) type Computed name.offset)
named_by (Some (Function signature has_body)) name = fail (LeftOut left_out.FunctionName) name.offset
named_by (Some (Typedef type)) name = fail Unknown name.offset
named_by (Some (Enumerator value)) name = Ok (constant_operand int value name.offset)
named_by (Some Hidden) name = fail Unknown name.offset
named_by None name = fail Unknown name.offset

-- where the name designates a global, it is one more that is named
abbrev pub mentioned : Category → (name : List ℕ) → Typing (Unit {0})
mentioned (InMemory address displacement) name = mention name
mentioned (InLocal local) name = give (tt {0})
mentioned (Value core) name = give (tt {0})

unfoldable pub named : Name → Typing Operand
named name = do
  x ← by (λ st. named_by (in_scope st.names name.spelling) name)
  mentioned x.category name.spelling
  give x

-- an integer of 64 bits is left out
abbrev pub not_wide : CType → (offset : ℕ) → Result CType Fault
not_wide type offset = if is_wide type then fail (LeftOut left_out.Word64) offset else Ok type

-- 6.4.4.1
unfoldable pub number_operand : (value : ℕ) → NumberType → (offset : ℕ) → Result Operand Fault
number_operand value type offset =
    bind (not_wide (Integer (number_scalar type)) offset) (λ _. Ok (constant_operand (number_scalar type) (pos value) offset))

-- ---- types by name

-- 6.7.8
abbrev pub typedef_by : Option Meaning → Name → Result CType Fault
typedef_by (Some (Typedef type)) name = Ok type
typedef_by other name = fail Unknown name.offset

unfoldable pub typedef_named : Name → Typing CType
typedef_named name = by (λ st. typedef_by (in_scope st.names name.spelling) name)

-- 6.7.2.3p8: `struct tag` is the struct of the tag in scope; where there is none it declares it
abbrev pub struct_by : Option Tag → Name → Typing CType
struct_by (Some (StructTag number)) tag = give (Struct number)
struct_by (Some (EnumTag type)) tag = refuse Mismatch tag.offset
struct_by (Some HiddenTag) tag = refuse Unknown tag.offset
struct_by None tag = do
  number ← new_struct Undefined
  declare_tag tag.spelling (StructTag number)
  give (Struct number)

unfoldable pub struct_named : Name → Typing CType
struct_named tag = λ st. struct_by (in_scope st.tags tag.spelling) tag st

-- 6.7.2.3p3: `enum tag` is an enumeration that is declared
abbrev pub enum_by : Option Tag → Name → Result CType Fault
enum_by (Some (EnumTag type)) tag = Ok (Integer type)
enum_by (Some (StructTag number)) tag = fail Mismatch tag.offset
enum_by (Some HiddenTag) tag = fail Unknown tag.offset
enum_by None tag = fail Unknown tag.offset

unfoldable pub enum_named : Name → Typing CType
enum_named tag = by (λ st. enum_by (in_scope st.tags tag.spelling) tag)

abbrev pub is_undefined : Option Definition → Bool
is_undefined (Some Undefined) = true
is_undefined other = false

-- 6.7.2.3p1: the number of a struct whose members follow. The tag may have been named before in the same scope, but
-- its members are declared once
abbrev pub begun_by : Option Tag → Name → Typing ℕ
begun_by (Some (StructTag number)) tag = do
  check tag.offset (λ st. (not (is_undefined (slice_get st.structs number)), Twice) ∷ [])
  define_struct number Unfinished
  give number
begun_by (Some other) tag = refuse Twice tag.offset
begun_by None tag = do
  number ← new_struct Unfinished
  declare_tag tag.spelling (StructTag number)
  give number

unfoldable pub struct_begun : Option Name → Typing ℕ
struct_begun None = new_struct Unfinished
struct_begun (Some tag) = λ st. begun_by (in_innermost st.tags tag.spelling) tag st

-- the tag of an enumeration is new in its scope
unfoldable pub new_tag : Option Name → Typing (Unit {0})
new_tag None = give (tt {0})
new_tag (Some tag) = check tag.offset (λ st. (is_some (in_innermost st.tags tag.spelling), Twice) ∷ [])

-- 6.7.2.2p4: an enumeration is an `int` where a constant is negative, else an `unsigned int`; it is complete after its
-- constants
abbrev pub enum_scalar : (is_negative : Bool) → Scalar
enum_scalar is_negative = if is_negative then int else unsigned_int

abbrev pub tag_declared : Option Name → Tag → Typing (Unit {0})
tag_declared None meaning = give (tt {0})
tag_declared (Some tag) meaning = declare_tag tag.spelling meaning

unfoldable pub enum_finished : Option Name → (is_negative : Bool) → Typing CType
enum_finished tag is_negative = do
  new_tag tag
  tag_declared tag (EnumTag (enum_scalar is_negative))
  give (Integer (enum_scalar is_negative))

-- ---- what is asked of a declared name: of its faults the least is answered

-- the name is declared already in the innermost scope (6.7p3)
abbrev pub is_declared : State → Name → Bool
is_declared st name = is_some (in_innermost st.names name.spelling)

-- 6.7.2.2p2, p3: an enumeration constant is an `int`
unfoldable pub enumerator : Name → (value : ℤ) → Typing (Unit {0})
enumerator name value = do
  check name.offset (λ st. (is_declared st name, Twice) ∷ (not (is_of int value), Mismatch) ∷ [])
  declare name.spelling (Enumerator value)

-- 6.7.2.1p3: a member has a size
abbrev pub member_faults : Structs → Layout → Name → CType → List (Bool × TypeFaultKind)
member_faults structs layout name type =
    (is_some (member_named layout name.spelling), Twice)
    ∷ (too_large structs type, Mismatch)
    ∷ (is_none (size_of structs type), Incomplete)
    ∷ (is_wide type, LeftOut left_out.Word64) ∷ []

-- the struct is not too large with it
abbrev pub layout_fits : Layout → (offset : ℕ) → Result Layout Fault
layout_fits layout offset = if is_large (Some (padded layout)) then fail Mismatch offset else Ok layout

abbrev pub sized_member : Structs → Layout → Name → CType → Option ℕ → Result Layout Fault
sized_member structs layout name type (Some size) = layout_fits (with_member layout name.spelling type size (alignment_of structs type)) name.offset
sized_member structs layout name type None = fail Incomplete name.offset

unfoldable pub member : Structs → Layout → Name → CType → Result Layout Fault
member structs layout name type =
    bind (faults_at name.offset (member_faults structs layout name type)) (λ _. sized_member structs layout name type (size_of structs type))

-- a local or a parameter of a type, in scope by its name, and its number
abbrev pub local_declared : Option Name → CType → Typing ℕ
local_declared None type = new_local type
local_declared (Some name) type = do
  number ← new_local type
  declare name.spelling (Local number type)
  give number

-- 6.7p7: a local has a size; it is a scalar here
abbrev pub local_faults : Name → CType → (is_static : Bool) → State → List (Bool × TypeFaultKind)
local_faults name type is_static st =
    (is_declared st name, Twice)
    ∷ (too_large st.structs type, Mismatch)
    ∷ (is_none (size_of st.structs type), Incomplete)
    ∷ (is_wide type, LeftOut left_out.Word64)
    ∷ (is_struct type, LeftOut left_out.Struct)
    ∷ (is_array type, LeftOut left_out.Array)
    ∷ (is_static, LeftOut left_out.StaticLocal) ∷ []

unfoldable pub local : Name → CType → (is_static : Bool) → Typing ℕ
local name type is_static = do
  check name.offset (local_faults name type is_static)
  local_declared (Some name) type

-- 6.7.6.3p7: a parameter of array type is a pointer
abbrev pub adjusted : CType → CType
adjusted (Array length element) = Pointer element
adjusted type = type

abbrev pub is_declared_parameter : State → Option Name → Bool
is_declared_parameter st None = false
is_declared_parameter st (Some name) = is_declared st name

-- 6.7.6.3p4, 6.9.1p5: of a parameter's type before it is adjusted. A function with a body names each
abbrev pub parameter_faults : Option Name → CType → (has_body : Bool) → State → List (Bool × TypeFaultKind)
parameter_faults name type has_body st =
    (is_declared_parameter st name, Twice)
    ∷ (too_large st.structs type || (has_body && is_none name), Mismatch)
    ∷ (lacks_element st.structs type || is_void type, Incomplete)
    ∷ (is_wide type, LeftOut left_out.Word64)
    ∷ (is_struct type, LeftOut left_out.Struct) ∷ []

-- the offset of a parameter is that of its name, or of its specifiers
abbrev pub name_offset : Option Name → (offset : ℕ) → ℕ
name_offset None offset = offset
name_offset (Some name) offset = name.offset

-- a parameter, and its type
unfoldable pub parameter : Option Name → CType → (has_body : Bool) → (offset : ℕ) → Typing CType
parameter name type has_body offset = do
  check (name_offset name offset) (parameter_faults name type has_body)
  number ← local_declared name (adjusted type)
  give (adjusted type)

-- ---- declarations in the file scope

abbrev pub in_file : State → Name → Option Meaning
in_file st name = entry_of st.names.file name.spelling

abbrev pub declare_in_file : Name → Meaning → Typing (Unit {0})
declare_in_file name meaning = change (λ st. record st { names = declared_in_file name.spelling meaning st.names })

-- 6.7.8
abbrev pub typedef_faults : Name → CType → State → List (Bool × TypeFaultKind)
typedef_faults name type st =
    (is_some (in_file st name), Twice) ∷ (too_large st.structs type, Mismatch) ∷ (lacks_element st.structs type, Incomplete) ∷ []

unfoldable pub typedef : Name → CType → Typing (Unit {0})
typedef name type = do
  check name.offset (typedef_faults name type)
  declare_in_file name (Typedef type)

-- 6.7p3: a typedef name or an enumeration constant is declared once in its scope
abbrev pub is_once : Option Meaning → Bool
is_once (Some (Typedef type)) = true
is_once (Some (Enumerator value)) = true
is_once other = false

-- 6.2.7p3: the type of an object after one more declaration; an array may get its length from either. None where the
-- types differ (6.7p4)
abbrev pub composite : CType → CType → Option CType
composite (Array None element) (Array length other) = if same_type element other then Some (Array length element) else None
composite (Array (Some length) element) (Array None other) = if same_type element other then Some (Array (Some length) element) else None
composite old type = if same_type old type then Some old else None

abbrev pub object_type : Option Meaning → CType → Option CType
object_type None type = Some type
object_type (Some (Object old)) type = composite old type
object_type (Some other) type = None

abbrev pub object_faults : Name → CType → State → List (Bool × TypeFaultKind)
object_faults name type st =
    (is_once (in_file st name), Twice)
    ∷ (too_large st.structs type || is_none (object_type (in_file st name) type), Mismatch)
    ∷ (lacks_element st.structs type || is_void type, Incomplete)
    ∷ (is_wide type, LeftOut left_out.Word64) ∷ []

unfoldable pub object : Name → CType → Typing (Unit {0})
object name type = do
  check name.offset (object_faults name type)
  λ st. declare_in_file name (Object (unwrap_or (object_type (in_file st name) type) type)) st

abbrev pub same_types : List CType → List CType → Bool
same_types [] [] = true
same_types (a ∷ types) (b ∷ others) = same_type a b && same_types types others
same_types types others = false

abbrev pub same_signature : Signature → Signature → Bool
same_signature a b = same_types a.parameters b.parameters && same_type a.result b.result

-- a declaration of a function before this one has another type, or is of no function
abbrev pub differs : Option Meaning → Signature → Bool
differs None signature = false
differs (Some (Function old has_body)) signature = not (same_signature old signature)
differs (Some other) signature = true

abbrev pub had_body : Option Meaning → Bool
had_body (Some (Function old has_body)) = has_body
had_body other = false

-- how many words the arguments of these types have
abbrev pub words_of : List CType → ℕ
words_of [] = 0
words_of (type ∷ types) = option_map_or (λ (s : Scalar). (s.width + (POINTER_WIDTH - 1)) / POINTER_WIDTH) (scalar_of type) 0 + words_of types

-- 6.7.6.3p1, 6.9p3: a function returns no array, and has one body
abbrev pub function_faults : Name → Signature → (has_body : Bool) → State → List (Bool × TypeFaultKind)
function_faults name signature has_body st =
    (is_once (in_file st name) || (has_body && had_body (in_file st name)), Twice)
    ∷ (differs (in_file st name) signature || is_array signature.result, Mismatch)
    ∷ (nat_lt ARGUMENT_WORDS (words_of signature.parameters), TooManyWords)
    ∷ (is_wide signature.result, LeftOut left_out.Word64)
    ∷ (is_struct signature.result, LeftOut left_out.Struct) ∷ []

unfoldable pub function : Name → Signature → (has_body : Bool) → Typing (Unit {0})
function name signature has_body = do
  check name.offset (function_faults name signature has_body)
  λ st. declare_in_file name (Function signature (has_body || had_body (in_file st name))) st
