-- What typed operands give: the type of an expression is one, and conversions keep what they convert typed.
use Rattle.std.proofs.Common.{◌≡◌, ℕ, ◌==◌, pos, IsTrue, Bool, true, false, Option, Some, IfSome, IfOk, slice_get, if◌then◌else◌, refl, sym, subst, ◌∙◌}
use Rattle.c_types_spec.specs.declared.Scalar.{Scalar}
use Rattle.c_types_spec.specs.declared.Standing.{Standing}
use Rattle.c_types_spec.specs.declared.Direction.TheVariants.{Up}
use Rattle.c_types_spec.specs.declared.Order.TheVariants.{PointerFirst}
use Rattle.c_types_spec.specs.Types.{CType, Void, Integer, Pointer, Array, Struct, scalar_of, same_scalar, int, word}
use Rattle.c_types_spec.specs.Core.{Core, Constant, Convert, Move, type_of}
use Rattle.c_types_spec.specs.Operands.{Category, Value, InLocal, InMemory, Operand, Valued, operand, valued, convert, displaced, loaded, read_local, value_of, is_null, assigned, scalar_value}
use Rattle.c_types_spec.specs.HasType.{Scope, HasType, is_narrow}
use Rattle.c_types_spec.specs.HasType as typing
use Rattle.c_types_laws.proofs.Values.{is_of-one, is_of-zero}
use Rattle.c_types_laws.proofs.Types.{same_scalar-true, Small}
use Rattle.c_types_laws.proofs.Results.{if_true-some}

-- an expression has one type at most, which is read off it
pub type_of-is : (scope : Scope) (target : Option Scalar) (core : Core) (type : Scalar) → HasType scope target core type → type_of core ≡ type
type_of-is scope target core type (typing.constant t value n h) = refl
type_of-is scope target core type (typing.read_local t local offset n h) = refl
type_of-is scope target core type (typing.global_address name h) = refl
type_of-is scope target core type (typing.load t address displacement offset n h) = refl
type_of-is scope target core type (typing.stored_to t offset n h) = refl
type_of-is scope target core type (typing.convert t source inner n h) = refl
type_of-is scope target core type (typing.operate operator t left right offset e p h k) = refl
type_of-is scope target core type (typing.shift operator t count left right offset e p h k) = refl
type_of-is scope target core type (typing.compare operator t left right h k) = refl
type_of-is scope target core type (typing.move direction order size t pointer index offset h k) = refl
type_of-is scope target core type (typing.within bound t index offset h) = type_of-is scope target index t h
type_of-is scope target core type (typing.aligned alignment pointer offset n h) = refl
type_of-is scope target core type (typing.choose t tested test first second h k l) = refl

-- and its width is 8, 16 or 32
pub narrow-is : (scope : Scope) (target : Option Scalar) (core : Core) (type : Scalar) → HasType scope target core type → IsTrue (is_narrow type)
narrow-is scope target core type (typing.constant t value n h) = n
narrow-is scope target core type (typing.read_local t local offset n h) = n
narrow-is scope target core type (typing.global_address name h) = refl
narrow-is scope target core type (typing.load t address displacement offset n h) = n
narrow-is scope target core type (typing.stored_to t offset n h) = n
narrow-is scope target core type (typing.convert t source inner n h) = n
narrow-is scope target core type (typing.operate operator t left right offset e p h k) = narrow-is scope target left t h
narrow-is scope target core type (typing.shift operator t count left right offset e p h k) = narrow-is scope target left t h
narrow-is scope target core type (typing.compare operator t left right h k) = refl
narrow-is scope target core type (typing.move direction order size t pointer index offset h k) = refl
narrow-is scope target core type (typing.within bound t index offset h) = narrow-is scope target index t h
narrow-is scope target core type (typing.aligned alignment pointer offset n h) = refl
narrow-is scope target core type (typing.choose t tested test first second h k l) = narrow-is scope target first t k

module _ (scope : Scope) (target : Option Scalar) where
  -- a value of a type; one of `void` is that of a cast
  abbrev pub OfType : CType → Core → Type 0
  OfType Void core = (s : Scalar) × HasType scope target core s
  OfType (Integer s) core = HasType scope target core s
  OfType (Pointer inner) core = HasType scope target core word
  OfType (Array length element) core = ⊥
  OfType (Struct number) core = ⊥

  -- and its type is narrow
  abbrev pub Fits : CType → Core → Type 0
  Fits type core = OfType type core × Small type

  abbrev pub IsValued : Valued → Type 0
  IsValued v = Fits v.type v.core

  -- what an operand of a type designates is typed
  abbrev pub IsPlaced : Category → CType → Type 0
  IsPlaced (Value core) type = OfType type core
  IsPlaced (InLocal local) type = (s : Scalar) × (scalar_of type ≡ Some s) × (slice_get scope.locals local ≡ Some s)
  IsPlaced (InMemory address displacement) type = HasType scope target address word

  abbrev pub IsOperand : Operand → Type 0
  IsOperand x = IsPlaced x.category x.type × Small x.type

  pub any_scalar : (type : CType) (core : Core) → OfType type core → (s : Scalar) × HasType scope target core s
  any_scalar Void core h = h
  any_scalar (Integer s) core h = (s, h)
  any_scalar (Pointer inner) core h = (word, h)
  any_scalar (Array length element) core h = absurd h
  any_scalar (Struct number) core h = absurd h

  pub zero-typed : (type : Scalar) → IsTrue (is_narrow type) → HasType scope target (Constant type (pos 0)) type
  zero-typed type n = typing.constant type (pos 0) n (is_of-zero type)

  pub one-typed : HasType scope target (Constant int (pos 1)) int
  one-typed = typing.constant int (pos 1) refl is_of-one

  pub convert-typed : (type s : Scalar) (core : Core) → IsTrue (is_narrow type) → HasType scope target core s → HasType scope target (convert type core) type
  unfolding convert
  convert-typed type s core n h = by_test (same_scalar (type_of core) type) refl
    where
      by_test : (b : Bool) → same_scalar (type_of core) type ≡ b → HasType scope target (if b then core else Convert type core) type
      by_test true e = subst (HasType scope target core) (sym (type_of-is scope target core s h) ∙ same_scalar-true (type_of core) type e) h
      by_test false e = typing.convert type s core n h

  pub displaced-typed : (address : Core) (displacement offset : ℕ) → HasType scope target address word → HasType scope target (displaced address displacement offset) word
  unfolding displaced
  displaced-typed address displacement offset h = by_test (displacement == 0)
    where
      by_test : (b : Bool) → HasType scope target (if b then address else Move Up PointerFirst displacement address (Constant int (pos 1)) offset) word
      by_test true = h
      by_test false = typing.move Up PointerFirst displacement int address (Constant int (pos 1)) offset h one-typed

  pub loaded-typed : (type : CType) (address : Core) (displacement offset : ℕ) → Small type → HasType scope target address word → IfOk (loaded type address displacement offset) IsValued
  unfolding loaded
  loaded-typed Void address displacement offset n h = tt
  loaded-typed (Integer t) address displacement offset n h = (typing.load t address displacement offset n h, n)
  loaded-typed (Pointer inner) address displacement offset n h = (typing.load word address displacement offset refl h, n)
  loaded-typed (Array length element) address displacement offset n h = (displaced-typed address displacement offset h, n)
  loaded-typed (Struct number) address displacement offset n h = tt

  pub read_local-typed : (type : CType) (local offset : ℕ) (s : Scalar) → Small type → scalar_of type ≡ Some s → slice_get scope.locals local ≡ Some s → IfOk (read_local type local offset) IsValued
  unfolding read_local
  read_local-typed (Integer t) local offset s n e f = (typing.read_local t local offset n (f ∙ sym e), n)
  read_local-typed (Pointer inner) local offset s n e f = (typing.read_local word local offset refl (f ∙ sym e), n)
  read_local-typed type local offset s n e f = tt

  value_of-by : (category : Category) (type : CType) (standing : Standing) (offset : ℕ) → IsPlaced category type → Small type → IfOk (value_of (operand category type standing offset)) IsValued
  unfolding value_of
  value_of-by (Value core) type standing offset h n = (h, n)
  value_of-by (InLocal local) type standing offset h n = read_local-typed type local offset h.0 n h.1 h.2
  value_of-by (InMemory address displacement) type standing offset h n = loaded-typed type address displacement offset n h

  pub value_of-typed : (x : Operand) → IsOperand x → IfOk (value_of x) IsValued
  value_of-typed x h = value_of-by x.category x.type x.standing x.offset h.0 h.1

  -- a value of a type that has values
  abbrev pub IsAssigned : CType → Core → Type 0
  IsAssigned type core = (s : Scalar) × (scalar_of type ≡ Some s) × HasType scope target core s

  assigned-by : (type : CType) (core : Core) (from : CType) (standing : Standing) (offset : ℕ) → Small type → OfType from core → IfSome (assigned type (valued core from standing offset)) (IsAssigned type)
  unfolding assigned
  assigned-by (Integer t) core (Integer s) standing offset n h = (t, refl, convert-typed t s core n h)
  assigned-by (Integer t) core from standing offset n h = tt
  assigned-by (Pointer inner) core (Integer s) standing offset n h =
      if_true-some (IsAssigned (Pointer inner)) (is_null (valued core (Integer s) standing offset)) (convert word core) (word, refl, convert-typed word s core refl h)
  assigned-by (Pointer inner) core (Pointer other) standing offset n h = if_true-some (IsAssigned (Pointer inner)) _ core (word, refl, h)
  assigned-by (Pointer inner) core from standing offset n h = tt
  assigned-by type core from standing offset n h = tt

  -- what is assigned has the object's type
  pub assigned-typed : (type : CType) (v : Valued) → Small type → IsValued v → IfSome (assigned type v) (IsAssigned type)
  assigned-typed type v n h = assigned-by type v.core v.type v.standing v.offset n h.0

  scalar_value-by : (core : Core) (type : CType) (standing : Standing) (offset : ℕ) → OfType type core → IfOk (scalar_value (valued core type standing offset)) (λ c. (s : Scalar) × HasType scope target c s)
  unfolding scalar_value
  scalar_value-by core (Integer s) standing offset h = (s, h)
  scalar_value-by core (Pointer inner) standing offset h = (word, h)
  scalar_value-by core type standing offset h = tt

  pub scalar_value-typed : (v : Valued) → IsValued v → IfOk (scalar_value v) (λ c. (s : Scalar) × HasType scope target c s)
  scalar_value-typed v h = scalar_value-by v.core v.type v.standing v.offset h.0
