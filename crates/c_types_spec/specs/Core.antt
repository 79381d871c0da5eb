-- The typed core of a unit: what it means depends on this alone. Names are resolved, conversions are explicit,
-- constants are values, and what designates an object is a local or an address. Each guard that a run may break is
-- that of one form, and stands at the form's offset.
use Rattle.std.specs.Prelude.{ℕ, ℤ, pos, List, [], ◌∷◌, Option, Some, None, if◌then◌else◌, option_map}
use Rattle.c_types_spec.specs.declared.Scalar.{Scalar}
use Rattle.c_types_spec.specs.declared.Arithmetic.{Arithmetic}
use Rattle.c_types_spec.specs.declared.Comparison.{Comparison}
use Rattle.c_types_spec.specs.declared.Direction.{Direction}
use Rattle.c_types_spec.specs.declared.Order.{Order}
use Rattle.c_types_spec.specs.declared.TestPlace.{TestPlace}
use Rattle.c_types_spec.specs.declared.Jump.{Jump}
use Rattle.c_types_spec.specs.Types.{int, word}
use Rattle.c_types_spec.specs.Values.{converted, arithmetic_value, comparison_value, same_value}

-- an expression, whose value is of a scalar type
pub data Core : Type 0 where
  Constant : (type : Scalar) → (value : ℤ) → Core
  -- guard 1
  ReadLocal : (type : Scalar) → (local : ℕ) → (offset : ℕ) → Core
  -- the address of a global
  GlobalAddress : (name : List ℕ) → Core
  -- the object so many bytes past an address: guards 5 and 6
  Load : (type : Scalar) → (address : Core) → (displacement : ℕ) → (offset : ℕ) → Core
  -- the object that the assignment around it stores to, whose address is evaluated already: guards 5 and 6
  Target : (type : Scalar) → (offset : ℕ) → Core
  Convert : (type : Scalar) → (operand : Core) → Core
  -- both operands have the type, but for the right one of a shift: guards 2, 3 and 4
  Operate : (operator : Arithmetic) → (type : Scalar) → (left right : Core) → (offset : ℕ) → Core
  -- both operands have one type, and the result is an `int`
  Compare : (operator : Comparison) → (left right : Core) → Core
  -- a pointer to objects of `size` bytes, moved by so many of them: guard 8
  Move : (direction : Direction) → (order : Order) → (size : ℕ) → (pointer index : Core) → (offset : ℕ) → Core
  -- an index from 0 to below the bound: guard 9
  Within : (bound : ℕ) → (index : Core) → (offset : ℕ) → Core
  -- a pointer that is not 0 and a multiple of the alignment: guard 5
  Aligned : (alignment : ℕ) → (pointer : Core) → (offset : ℕ) → Core
  -- the first where the test is not 0, else the second; the other one is not evaluated
  Choose : (type : Scalar) → (test first second : Core) → Core

-- the type of its value
abbrev pub type_of : Core → Scalar
type_of (Constant type value) = type
type_of (ReadLocal type local offset) = type
type_of (GlobalAddress name) = word
type_of (Load type address displacement offset) = type
type_of (Target type offset) = type
type_of (Convert type operand) = type
type_of (Operate operator type left right offset) = type
type_of (Compare operator left right) = int
type_of (Move direction order size pointer index offset) = word
type_of (Within bound index offset) = type_of index
type_of (Aligned alignment pointer offset) = word
type_of (Choose type test first second) = type

mutual
  pub data Action : Type 0 where
    Skip : Action
    Sequence : (first second : Action) → Action
    -- the value is evaluated for the guards that it may break
    Evaluate : (value : Core) → Action
    Set : (local : ℕ) → (value : Core) → Action
    -- a declaration without initial value
    Unset : (local : ℕ) → Action
    -- to the object so many bytes past an address. The address is evaluated first, then the value, and then guards 5,
    -- 6 and 7 are those of the write
    Store : (type : Scalar) → (address : Core) → (displacement : ℕ) → (value : Core) → (offset : ℕ) → Action
    -- the call of this number in its function; its value, converted to the local's type, is put into the local
    Call : (number : ℕ) → (function : List ℕ) → (arguments : List Core) → (result : Option ℕ) → Action
    If : (test : Core) → (first second : Action) → Action
    -- the loop of this number in its function. `continue` goes to the step of a loop whose test is before its body,
    -- and to the test of another
    Loop : (number : ℕ) → (place : TestPlace) → (test : Core) → (step body : Action) → Action
    Leave : (jump : Jump) → Action
    -- the test is evaluated once; the first group with its value is taken, else the one with `default`, else none
    Switch : (test : Core) → (groups : Groups) → Action
    Return : (value : Option Core) → Action
    -- the end of a function that owes a value: guard 10
    MissingReturn : (offset : ℕ) → Action

  -- the groups of a `switch`, each with its values, none being `default`; the end of a group is the end of the `switch`
  pub data Groups : Type 0 where
    no_groups : Groups
    groups : (values : List (Option ℤ)) → (body : Action) → (rest : Groups) → Groups

-- one after the other
abbrev pub sequence : List Action → Action
sequence [] = Skip
sequence (first ∷ []) = first
sequence (first ∷ rest) = Sequence first (sequence rest)

-- the types of the parameters of a function, and that of its result unless it is `void`
pub record FunctionType : Type 0 where
  pub parameters : List Scalar
  pub result : Option Scalar

-- a function with a body: the types of its locals, the parameters first, the numbers of its loops and calls, the globals
-- that its body names, under `sizeof` too and as often as it names them, and what it does, which ends by a return or a guard
pub record Body : Type 0 where
  pub name : List ℕ
  pub signature : FunctionType
  pub locals : List Scalar
  pub loops : ℕ
  pub calls : ℕ
  pub mentions : List (List ℕ)
  pub action : Action

-- which size a global's type gives it
pub data GlobalSize : Type 0 where
  -- so many bytes
  Sized : (bytes : ℕ) → GlobalSize
  -- any: it is an array without length
  AnySize : GlobalSize
  -- none: it is a struct without members
  NoSize : GlobalSize

pub record Global : Type 0 where
  pub global : List ℕ
  pub size : GlobalSize

-- the typed core of a unit: its functions and globals in the order of their first declarations, and its bodies in
-- the order of their definitions
pub record Typed : Type 0 where
  pub functions : List (List ℕ × FunctionType)
  pub globals : List Global
  pub bodies : List Body

-- ---- constant expressions

abbrev pub chosen : Option ℤ → (first second : Option ℤ) → Option ℤ
chosen None first second = None
chosen (Some test) first second = if same_value test (pos 0) then second else first

abbrev pub with_both : Option ℤ → Option ℤ → (ℤ → ℤ → Option ℤ) → Option ℤ
with_both (Some left) (Some right) operation = operation left right
with_both left right operation = None

-- 6.6p4: the value that an expression has in every state; none where it depends on the state, or breaks a guard
unfoldable pub constant_value : Core → Option ℤ
constant_value (Constant type value) = Some value
constant_value (Convert type operand) = option_map (λ value. converted type value) (constant_value operand)
constant_value (Operate operator type left right offset) =
    with_both (constant_value left) (constant_value right) (λ a b. arithmetic_value operator type a b)
constant_value (Compare operator left right) =
    with_both (constant_value left) (constant_value right) (λ a b. Some (comparison_value operator a b))
constant_value (Choose type test first second) =
    chosen (constant_value test) (constant_value first) (constant_value second)
constant_value other = None
