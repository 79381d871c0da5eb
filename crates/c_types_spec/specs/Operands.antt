-- What an expression gives, and the conversions of C11, 6.3.
use Rattle.std.specs.Prelude.{ℕ, ℤ, pos, ◌==◌, ◌||◌, Bool, true, false, if◌then◌else◌, Option, Some, None, option_map, Result, Ok}
use Rattle.c_types_spec.specs.declared.Scalar.{Scalar}
use Rattle.c_types_spec.specs.declared.Standing.{Standing}
use Rattle.c_types_spec.specs.declared.Standing.TheVariants.{Computed, ConstantExpression, NullPointer}
use Rattle.c_types_spec.specs.declared.Direction.TheVariants.{Up}
use Rattle.c_types_spec.specs.declared.Order.TheVariants.{PointerFirst}
use Rattle.c_types_spec.specs.declared.LeftOut.TheVariants as left_out
use Rattle.c_types_spec.specs.declared.TypeFaultKind.TheVariants.{Mismatch, Incomplete, LeftOut}
use Rattle.c_types_spec.specs.Types.{CType, Void, Integer, Pointer, Array, Struct, scalar_of, same_type, same_scalar, is_void, word, int}
use Rattle.c_types_spec.specs.Values.{converted, same_value}
use Rattle.c_types_spec.specs.Core.{Core, Constant, ReadLocal, Load, Convert, Move, type_of, constant_value}
use Rattle.c_types_spec.specs.Names.{Fault, fail}

-- what an expression designates (6.3.2.1p1)
pub data Category : Type 0 where
  -- a value
  Value : (core : Core) → Category
  -- a local, by its number
  InLocal : (local : ℕ) → Category
  -- the object so many bytes past an address
  InMemory : (address : Core) → (displacement : ℕ) → Category

-- what an expression gives. The offset is that of the expression: of its operator, or of its first token where it has
-- none; brackets don't count
pub record Operand : Type 0 where
  pub category : Category
  pub type : CType
  pub standing : Standing
  pub offset : ℕ

-- a value of a type
pub record Valued : Type 0 where
  pub core : Core
  pub type : CType
  pub standing : Standing
  pub offset : ℕ

abbrev pub operand : Category → CType → Standing → ℕ → Operand
operand category type standing offset = record { category = category; type = type; standing = standing; offset = offset }

abbrev pub valued : Core → CType → Standing → ℕ → Valued
valued core type standing offset = record { core = core; type = type; standing = standing; offset = offset }

-- a value as an operand, which is computed
abbrev pub value_operand : Core → CType → ℕ → Operand
value_operand core type offset = operand (Value core) type Computed offset

-- an integer constant, as a value of its type
abbrev pub constant_operand : Scalar → ℤ → ℕ → Operand
constant_operand type value offset = operand (Value (Constant type (converted type value))) (Integer type) ConstantExpression offset

abbrev pub is_constant : Standing → Bool
is_constant ConstantExpression = true
is_constant other = false

-- what an operator on integers leaves of it
abbrev pub kept : Standing → Standing
kept ConstantExpression = ConstantExpression
kept other = Computed

-- constant where both operands are
abbrev pub both : Standing → Standing → Standing
both ConstantExpression b = kept b
both a b = Computed

-- the value in another type; no conversion where it has the type
unfoldable pub convert : Scalar → Core → Core
convert type core = if same_scalar (type_of core) type then core else Convert type core

-- the address so many bytes on, as a pointer
unfoldable pub displaced : (address : Core) → (displacement offset : ℕ) → Core
displaced address displacement offset =
    if displacement == 0 then address else Move Up PointerFirst displacement address (Constant int (pos 1)) offset

-- 6.3.2.1p2, p3: what an object in memory gives as a value: what is read from it, or for an array a pointer to its
-- first element
unfoldable pub loaded : CType → (address : Core) → (displacement offset : ℕ) → Result Valued Fault
loaded Void address displacement offset = fail Incomplete offset
loaded (Integer type) address displacement offset = Ok (valued (Load type address displacement offset) (Integer type) Computed offset)
loaded (Pointer target) address displacement offset = Ok (valued (Load word address displacement offset) (Pointer target) Computed offset)
loaded (Array length element) address displacement offset = Ok (valued (displaced address displacement offset) (Pointer element) Computed offset)
loaded (Struct number) address displacement offset = fail (LeftOut left_out.Struct) offset

-- what a local gives as a value: locals are scalars
unfoldable pub read_local : CType → (local offset : ℕ) → Result Valued Fault
read_local type local offset =
    elim (scalar_of type) [ Some scalar ↦ Ok (valued (ReadLocal scalar local offset) type Computed offset) | None ↦ fail Mismatch offset ]

-- 6.3.2.1: the value of an operand
unfoldable pub value_of : Operand → Result Valued Fault
value_of x =
    elim x.category [
      | Value core ↦ Ok (valued core x.type x.standing x.offset)
      | InLocal local ↦ read_local x.type local x.offset
      | InMemory address displacement ↦ loaded x.type address displacement x.offset
    ]

-- ---- conversions

-- the value of an integer constant expression
abbrev pub constant_of : Valued → Option ℤ
constant_of x = if is_constant x.standing then constant_value x.core else None

abbrev pub is_zero : Option ℤ → Bool
is_zero None = false
is_zero (Some value) = same_value value (pos 0)

abbrev pub is_null_pointer : Standing → Bool
is_null_pointer NullPointer = true
is_null_pointer other = false

-- 6.3.2.3p3: a null pointer constant
unfoldable pub is_null : Valued → Bool
is_null x = is_null_pointer x.standing || is_zero (constant_of x)

-- 6.5.16.1p1: the pointers point to one type, or one of them to `void`
abbrev pub pointers_meet : (target source : CType) → Bool
pointers_meet target source = same_type target source || is_void target || is_void source

-- 6.5.16.1p1: a value of the second type that is no constant converts to the first as if by assignment
unfoldable pub converts : CType → CType → Bool
converts (Integer type) (Integer source) = true
converts (Pointer target) (Pointer source) = pointers_meet target source
converts type source = false

abbrev pub integer_type : CType → Option Scalar
integer_type (Integer scalar) = Some scalar
integer_type type = None

abbrev pub if_true : {A : Type 0} → Bool → A → Option A
if_true true x = Some x
if_true false x = None

-- a value as a pointer: one that it meets, or a null pointer constant; `source` is the value's type
abbrev pub pointer_from : (target : CType) → Valued → (source : CType) → Option Core
pointer_from target x (Integer scalar) = if_true (is_null x) (convert word x.core)
pointer_from target x (Pointer source) = if_true (pointers_meet target source || is_null x) x.core
pointer_from target x other = None

abbrev pub to_integer : Scalar → Valued → Option Core
to_integer type x = option_map (λ source. convert type x.core) (integer_type x.type)

-- 6.5.16.1, 6.5.2.2p2, 6.7.9p11, 6.8.6.4p3: the value converted to a type as if by assignment; none where it has no
-- such conversion
unfoldable pub assigned : CType → Valued → Option Core
assigned Void x = None
assigned (Integer type) x = to_integer type x
assigned (Pointer target) x = pointer_from target x x.type
assigned (Array length element) x = None
assigned (Struct number) x = None

abbrev pub or_mismatch : {A : Type 0} → Option A → ℕ → Result A Fault
or_mismatch None offset = fail Mismatch offset
or_mismatch (Some x) offset = Ok x

-- ---- what is asked of values

-- 6.5.13p2, 6.8.4.1p1, 6.8.5p2: an integer or a pointer
unfoldable pub scalar_value : Valued → Result Core Fault
scalar_value x = elim (scalar_of x.type) [ Some scalar ↦ Ok x.core | None ↦ fail Mismatch x.offset ]

-- 6.6p6: the value of an expression that has to be an integer constant expression
unfoldable pub integer_constant : Valued → Result ℤ Fault
integer_constant x = or_mismatch (constant_of x) x.offset
