-- What a typed core satisfies: the type of each expression, by one rule for each form; that a statement puts into
-- each object a value of its type, and gives each function the arguments that it takes; where control goes; and how
-- loops and calls are numbered.
use Rattle.std.specs.Prelude.{◌≡◌, ℕ, suc, ◌==◌, ◌≤◌, ℤ, ◌||◌, Bool, true, false, IsTrue, List, [], ◌∷◌, ◌++◌, length, All, Contains, Option, Some, None, IfSome, slice_get}
use Rattle.c_token_spec.specs.Words.{entry_of}
use Rattle.c_types_spec.specs.declared.Scalar.{Scalar}
use Rattle.c_types_spec.specs.declared.Arithmetic.{Arithmetic}
use Rattle.c_types_spec.specs.declared.Arithmetic.TheVariants.{ShiftLeft, ShiftRight}
use Rattle.c_types_spec.specs.declared.Comparison.{Comparison}
use Rattle.c_types_spec.specs.declared.Direction.{Direction}
use Rattle.c_types_spec.specs.declared.Order.{Order}
use Rattle.c_types_spec.specs.declared.TestPlace.{TestPlace}
use Rattle.c_types_spec.specs.declared.Jump.{Jump}
use Rattle.c_types_spec.specs.declared.Jump.TheVariants.{Break, Continue}
use Rattle.c_types_spec.specs.declared.TheConstants.{INT_WIDTH, ARGUMENT_WORDS}
use Rattle.c_types_spec.specs.Types.{int, word}
use Rattle.c_types_spec.specs.Values.{is_of}
use Rattle.c_types_spec.specs.Core.{Core, Constant, ReadLocal, GlobalAddress, Load, Target, Convert, Operate, Compare, Move, Within, Aligned, Choose, Action, Skip, Sequence, Evaluate, Set, Unset, Store, Call, If, Loop, Leave, Switch, Return, MissingReturn, Groups, no_groups, groups, FunctionType, GlobalSize, Global, Body, Typed}

-- what may be named: the types of the locals by their numbers, the globals, and the types of the functions
pub record Scope : Type 0 where
  pub locals : List Scalar
  pub globals : List Global
  pub functions : List (List ℕ × FunctionType)
  -- the type that the function returns, unless it is `void`
  pub returned : Option Scalar

-- a pointer, or an integer of 8, 16 or 32 bits: those of 64 bits are left out
abbrev pub is_narrow : Scalar → Bool
is_narrow type = (type.width == 8) || (type.width == 16) || (type.width == 32)

-- 6.3.1.1p2: no integer type narrower than `int` is one of an operator
abbrev pub is_promoted : Scalar → Bool
is_promoted type = type.width == INT_WIDTH

-- the alignment of an object
abbrev pub is_alignment : ℕ → Bool
is_alignment alignment = (alignment == 1) || (alignment == 2) || (alignment == 4)

abbrev pub is_shift : Arithmetic → Bool
is_shift ShiftLeft = true
is_shift ShiftRight = true
is_shift other = false

-- the global is declared
abbrev pub IsGlobal : Scope → List ℕ → Type 0
IsGlobal scope name = (size : GlobalSize) × Contains scope.globals (record { global = name; size = size })

-- an expression has a type; `target` is the type of the object that the assignment around it stores to, if there is
-- one in memory
pub data HasType (scope : Scope) (target : Option Scalar) : Core → Scalar → Type 0 where
  constant : (type : Scalar) (value : ℤ) → IsTrue (is_narrow type) → IsTrue (is_of type value) → HasType scope target (Constant type value) type
  read_local : (type : Scalar) (local offset : ℕ) → IsTrue (is_narrow type) → slice_get scope.locals local ≡ Some type → HasType scope target (ReadLocal type local offset) type
  global_address : (name : List ℕ) → IsGlobal scope name → HasType scope target (GlobalAddress name) word
  load : (type : Scalar) (address : Core) (displacement offset : ℕ) → IsTrue (is_narrow type) → HasType scope target address word → HasType scope target (Load type address displacement offset) type
  stored_to : (type : Scalar) (offset : ℕ) → IsTrue (is_narrow type) → target ≡ Some type → HasType scope target (Target type offset) type
  convert : (type source : Scalar) (operand : Core) → IsTrue (is_narrow type) → HasType scope target operand source → HasType scope target (Convert type operand) type
  operate : (operator : Arithmetic) (type : Scalar) (left right : Core) (offset : ℕ) → is_shift operator ≡ false → IsTrue (is_promoted type) → HasType scope target left type → HasType scope target right type
      → HasType scope target (Operate operator type left right offset) type
  shift : (operator : Arithmetic) (type count : Scalar) (left right : Core) (offset : ℕ) → is_shift operator ≡ true → IsTrue (is_promoted type) → HasType scope target left type → HasType scope target right count
      → HasType scope target (Operate operator type left right offset) type
  compare : (operator : Comparison) (type : Scalar) (left right : Core) → HasType scope target left type → HasType scope target right type → HasType scope target (Compare operator left right) int
  move : (direction : Direction) (order : Order) (size : ℕ) (type : Scalar) (pointer index : Core) (offset : ℕ) → HasType scope target pointer word → HasType scope target index type
      → HasType scope target (Move direction order size pointer index offset) word
  within : (bound : ℕ) (type : Scalar) (index : Core) (offset : ℕ) → HasType scope target index type → HasType scope target (Within bound index offset) type
  aligned : (alignment : ℕ) (pointer : Core) (offset : ℕ) → IsTrue (is_alignment alignment) → HasType scope target pointer word → HasType scope target (Aligned alignment pointer offset) word
  choose : (type tested : Scalar) (test first second : Core) → HasType scope target test tested → HasType scope target first type → HasType scope target second type
      → HasType scope target (Choose type test first second) type

-- as many arguments as parameters, each of its type
pub data HaveTypes (scope : Scope) : List Core → List Scalar → Type 0 where
  no_arguments : HaveTypes scope [] []
  some_argument : (argument : Core) (type : Scalar) (arguments : List Core) (types : List Scalar) → HasType scope None argument type → HaveTypes scope arguments types → HaveTypes scope (argument ∷ arguments) (type ∷ types)

-- the callee has a value, and the local that it is put into has a type, to which it is converted
abbrev pub Receives : Scope → FunctionType → Option ℕ → Type 0
Receives scope type None = Unit {0}
Receives scope type (Some local) = (given : Scalar) × (result : Scalar) × (slice_get scope.locals local ≡ Some given) × (type.result ≡ Some result)

-- a returned value has the type that the function returns
abbrev pub IsReturned : Scope → Option Core → Type 0
IsReturned scope None = scope.returned ≡ None
IsReturned scope (Some value) = (type : Scalar) × (scope.returned ≡ Some type) × HasType scope None value type

-- the values are of the type
abbrev pub AreOf : Scalar → List (Option ℤ) → Type 0
AreOf type values = (value : ℤ) → Contains values (Some value) → IsTrue (is_of type value)

mutual
  pub data IsTyped (scope : Scope) : Action → Type 0 where
    skip : IsTyped scope Skip
    sequence : (first second : Action) → IsTyped scope first → IsTyped scope second → IsTyped scope (Sequence first second)
    evaluate : (value : Core) (type : Scalar) → HasType scope None value type → IsTyped scope (Evaluate value)
    set : (local : ℕ) (value : Core) (type : Scalar) → slice_get scope.locals local ≡ Some type → HasType scope None value type → IsTyped scope (Set local value)
    unset : (local : ℕ) (type : Scalar) → slice_get scope.locals local ≡ Some type → IsTyped scope (Unset local)
    store : (type : Scalar) (address : Core) (displacement : ℕ) (value : Core) (offset : ℕ) → HasType scope None address word → HasType scope (Some type) value type
        → IsTyped scope (Store type address displacement value offset)
    call : (number : ℕ) (function : List ℕ) (arguments : List Core) (result : Option ℕ) (type : FunctionType) → entry_of scope.functions function ≡ Some type
        → HaveTypes scope arguments type.parameters → Receives scope type result → IsTyped scope (Call number function arguments result)
    choice : (test : Core) (type : Scalar) (first second : Action) → HasType scope None test type → IsTyped scope first → IsTyped scope second → IsTyped scope (If test first second)
    repeat : (number : ℕ) (place : TestPlace) (test : Core) (type : Scalar) (step body : Action) → HasType scope None test type → IsTyped scope step → IsTyped scope body
        → IsTyped scope (Loop number place test step body)
    leave : (jump : Jump) → IsTyped scope (Leave jump)
    switch : (test : Core) (type : Scalar) (list : Groups) → HasType scope None test type → AreTyped scope type list → IsTyped scope (Switch test list)
    give_back : (value : Option Core) → IsReturned scope value → IsTyped scope (Return value)
    missing_return : (offset : ℕ) → IsTyped scope (MissingReturn offset)

  -- groups of a `switch` whose test has the type
  pub data AreTyped (scope : Scope) : (type : Scalar) → Groups → Type 0 where
    last_group : (type : Scalar) → AreTyped scope type no_groups
    one_group : (type : Scalar) (values : List (Option ℤ)) (body : Action) (rest : Groups) → AreOf type values → IsTyped scope body → AreTyped scope type rest → AreTyped scope type (groups values body rest)

-- ---- where control goes

abbrev mutual
  -- `break` is inside a loop or a `switch`, and `continue` inside a loop (6.8.6)
  pub JumpsInside : Action → (in_loop : Bool) → (in_switch : Bool) → Type 0
  JumpsInside (Sequence first second) in_loop in_switch = JumpsInside first in_loop in_switch × JumpsInside second in_loop in_switch
  JumpsInside (If test first second) in_loop in_switch = JumpsInside first in_loop in_switch × JumpsInside second in_loop in_switch
  JumpsInside (Loop number place test step body) in_loop in_switch = JumpsInside step false false × JumpsInside body true in_switch
  JumpsInside (Leave Break) in_loop in_switch = IsTrue (in_loop || in_switch)
  JumpsInside (Leave Continue) in_loop in_switch = IsTrue in_loop
  JumpsInside (Switch test list) in_loop in_switch = GroupsInside list in_loop
  JumpsInside other in_loop in_switch = Unit {0}

  pub GroupsInside : Groups → (in_loop : Bool) → Type 0
  GroupsInside no_groups in_loop = Unit {0}
  GroupsInside (groups values body rest) in_loop = JumpsInside body in_loop true × GroupsInside rest in_loop

-- control never goes on after the statement: it ends by a return or by guard 10
abbrev pub is_ended : Action → Bool
is_ended (Sequence first second) = is_ended second
is_ended (Return value) = true
is_ended (MissingReturn offset) = true
is_ended other = false

-- ---- the numbers of loops and calls

abbrev mutual
  -- the numbers of the loops, in the order of the text
  pub loop_numbers : Action → List ℕ
  loop_numbers (Sequence first second) = loop_numbers first ++ loop_numbers second
  loop_numbers (If test first second) = loop_numbers first ++ loop_numbers second
  loop_numbers (Loop number place test step body) = number ∷ (loop_numbers step ++ loop_numbers body)
  loop_numbers (Switch test list) = group_loops list
  loop_numbers other = []

  pub group_loops : Groups → List ℕ
  group_loops no_groups = []
  group_loops (groups values body rest) = loop_numbers body ++ group_loops rest

abbrev mutual
  -- the numbers of the calls, in the order of the text
  pub call_numbers : Action → List ℕ
  call_numbers (Sequence first second) = call_numbers first ++ call_numbers second
  call_numbers (Call number function arguments result) = number ∷ []
  call_numbers (If test first second) = call_numbers first ++ call_numbers second
  call_numbers (Loop number place test step body) = call_numbers step ++ call_numbers body
  call_numbers (Switch test list) = group_calls list
  call_numbers other = []

  pub group_calls : Groups → List ℕ
  group_calls no_groups = []
  group_calls (groups values body rest) = call_numbers body ++ group_calls rest

-- the numbers from one up to below another, in order
pub data Numbers : ℕ → ℕ → List ℕ → Type 0 where
  no_numbers : (n : ℕ) → Numbers n n []
  one_number : (n end : ℕ) (rest : List ℕ) → Numbers (suc n) end rest → Numbers n end (n ∷ rest)

-- ---- bodies and units

abbrev pub scope_of : Typed → Body → Scope
scope_of unit body = record { locals = body.locals; globals = unit.globals; functions = unit.functions; returned = body.signature.result }

pub record IsTypedBody (unit : Typed) (body : Body) : Type 0 where
  -- the function is declared with its type, and its parameters are its first locals
  pub declared : entry_of unit.functions body.name ≡ Some body.signature
  pub begun : (others : List Scalar) × (body.locals ≡ body.signature.parameters ++ others)
  pub narrow : All (λ (type : Scalar). IsTrue (is_narrow type)) body.locals
  pub typed : IsTyped (scope_of unit body) body.action
  pub ended : is_ended body.action ≡ true
  pub inside : JumpsInside body.action false false
  -- its loops and its calls are numbered from 0, in the order of the text
  pub numbered_loops : Numbers 0 body.loops (loop_numbers body.action)
  pub numbered_calls : Numbers 0 body.calls (call_numbers body.action)

-- a function whose arguments are few enough
pub record IsCallable (type : FunctionType) : Type 0 where
  pub narrow_parameters : All (λ (parameter : Scalar). IsTrue (is_narrow parameter)) type.parameters
  pub narrow_result : IfSome type.result (λ result. IsTrue (is_narrow result))
  pub few : length type.parameters ≤ ARGUMENT_WORDS

pub record IsTypedUnit (unit : Typed) : Type 0 where
  pub callable : All (λ (entry : List ℕ × FunctionType). IsCallable entry.1) unit.functions
  pub bodies_typed : All (λ (body : Body). IsTypedBody unit body) unit.bodies
  -- a function has one body at most
  pub one_body : (i j : ℕ) (a b : Body) → slice_get unit.bodies i ≡ Some a → slice_get unit.bodies j ≡ Some b → a.name ≡ b.name → i ≡ j
