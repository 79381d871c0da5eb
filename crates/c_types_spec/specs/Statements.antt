-- Statements (ISO C11, 6.8), and the calls and assignments in them (6.5.2.2, 6.5.16).
use Rattle.std.specs.Prelude.{ℕ, ◌+◌, ℤ, pos, ◌&&◌, ◌||◌, not, Bool, true, false, if◌then◌else◌, List, [], ◌∷◌, ◌++◌, length, Option, Some, None, Result, Ok}
use Rattle.std.specs.List.{list_any}
use Rattle.c_syntax_spec.specs.declared.BinaryOperator.{BinaryOperator}
use Rattle.c_syntax_spec.specs.declared.BinaryOperator.TheVariants as binary
use Rattle.c_syntax_spec.specs.declared.StepOperator.{StepOperator}
use Rattle.c_syntax_spec.specs.declared.StepOperator.TheVariants.{Increment, Decrement}
use Rattle.c_syntax_spec.specs.Expression.{Name, Expression, Named, Expressions, no_expressions, expressions, Specifiers, Specified}
use Rattle.c_syntax_spec.specs.Unit as tree
use Rattle.c_types_spec.specs.declared.Scalar.{Scalar}
use Rattle.c_types_spec.specs.declared.Position.TheVariants as position
use Rattle.c_types_spec.specs.declared.Standing.TheVariants.{Computed}
use Rattle.c_types_spec.specs.declared.TestPlace.TheVariants.{Before, After}
use Rattle.c_types_spec.specs.declared.Jump.TheVariants as jump
use Rattle.c_types_spec.specs.declared.LeftOut.TheVariants as left_out
use Rattle.c_types_spec.specs.declared.TypeFaultKind.TheVariants.{Unknown, Twice, Mismatch, NotLvalue, Fallthrough, LeftOut}
use Rattle.c_types_spec.specs.Types.{CType, Integer, is_void, is_array, scalar_of, promoted, int}
use Rattle.c_types_spec.specs.Values.{converted, same_value}
use Rattle.c_types_spec.specs.Core.{Core, Constant, Target, Action, Skip, Sequence, Evaluate, Set, Unset, Store, Call, If, Loop, Leave, Switch, Return, Groups, no_groups, groups, sequence}
use Rattle.c_types_spec.specs.Names.{Signature, Meaning, Function, Hidden, in_scope, Fault, Typing, give, fail, bind, ◌>>=◌, ◌>>◌, by, rule, refuse, check, block, hidden_block, new_result, new_loop, new_call}
use Rattle.c_types_spec.specs.Operands.{Operand, Valued, Value, InLocal, InMemory, valued, value_of, read_local, assigned, converts, convert, or_mismatch, scalar_value, integer_type, integer_constant}
use Rattle.c_types_spec.specs.Operators.{binary_rule}
use Rattle.c_types_spec.specs.Declarations.{local}
use Rattle.c_types_spec.specs.Expressions.{expression, value, with_structs, specifiers, declarator, declared_name}

-- where a statement stands: the type that its function returns, how many locals are declared in its function, and
-- whether it is inside a loop or a `switch` (6.8.6)
pub record Context : Type 0 where
  pub returned : CType
  pub declared_locals : ℕ
  pub in_loop : Bool
  pub in_switch : Bool

-- ---- assignments

-- 6.5.16p2, 6.3.2.1p1: it designates an object that can be assigned to
abbrev pub is_assignable : Operand → Bool
is_assignable x =
    elim x.category [
      | Value core ↦ false
      | InLocal local ↦ true
      | InMemory address displacement ↦ not (is_array x.type || is_void x.type)
    ]

-- 6.5.16.1p2: the object gets the value, which has its type
unfoldable pub stored : Operand → Core → (offset : ℕ) → Result Action Fault
stored x core offset =
    elim x.category [
      | Value given ↦ fail NotLvalue offset
      | InLocal local ↦ Ok (Set local core)
      | InMemory address displacement ↦ (elim (scalar_of x.type) [ Some type ↦ Ok (Store type address displacement core offset) | None ↦ fail Mismatch offset ])
    ]

-- 6.5.16.1p1
unfoldable pub assignment : Operand → Valued → (offset : ℕ) → Result Action Fault
assignment x v offset =
    if is_assignable x then bind (or_mismatch (assigned x.type v) offset) (λ core. stored x core offset) else fail NotLvalue offset

-- 6.5.16.2p3: in `a op= b` the operand a is evaluated once: where it is in memory, its value is read from the object
-- that is assigned to
abbrev pub target_value : CType → Option Scalar → (offset : ℕ) → Result Valued Fault
target_value type (Some scalar) offset = Ok (valued (Target scalar offset) type Computed offset)
target_value type None offset = fail (LeftOut left_out.Struct) offset

unfoldable pub current : Operand → Result Valued Fault
current x =
    elim x.category [
      | Value core ↦ value_of x
      | InLocal local ↦ value_of x
      | InMemory address displacement ↦ target_value x.type (scalar_of x.type) x.offset
    ]

-- `a op= b` is `a = a op b`
abbrev pub compound_of : Operand → Valued → (offset : ℕ) → Operand → Result Action Fault
compound_of x a offset result = bind (value_of result) (λ v. assignment x v offset)

abbrev pub compound_assignment : BinaryOperator → Operand → Valued → (offset : ℕ) → Typing Action
compound_assignment operator x b offset =
    if is_assignable x
    then (do
      a ← rule (current x)
      result ← with_structs (λ structs. binary_rule operator structs a b offset)
      rule (compound_of x a offset result))
    else refuse NotLvalue offset

unfoldable pub compound : BinaryOperator → Operand → Valued → (offset : ℕ) → Typing Action
compound operator x b offset = compound_assignment operator x b offset

-- 6.5.2.4p2, 6.5.3.1p2: `++` and `--` are `+= 1` and `-= 1`
abbrev pub step_operator : StepOperator → BinaryOperator
step_operator Increment = binary.Add
step_operator Decrement = binary.Subtract

abbrev pub one : (offset : ℕ) → Valued
one offset = valued (Constant int (pos 1)) (Integer int) Computed offset

abbrev pub stepped : StepOperator → Expression → (offset : ℕ) → Typing Action
stepped operator target offset = do
  x ← expression target position.Operand
  compound (step_operator operator) x (one offset) offset

-- ---- calls

-- a call: its number, its callee and arguments, and the type of its value
pub record Made : Type 0 where
  pub number : ℕ
  pub callee : List ℕ
  pub arguments : List Core
  pub type : CType
  pub offset : ℕ

-- the values of arguments, after those so far
unfoldable pub arguments : Expressions → List Valued → Typing (List Valued)
arguments no_expressions done = give done
arguments (expressions first rest) done = do
  v ← value first
  arguments rest (done ++ v ∷ [])

-- 6.5.2.2p2: as many arguments as parameters, each converted as if by assignment
abbrev pub with_argument : Option Core → Option (List Core) → Option (List Core)
with_argument (Some core) (Some cores) = Some (core ∷ cores)
with_argument core cores = None

unfoldable pub passed : List CType → List Valued → Option (List Core)
passed [] [] = Some []
passed (type ∷ types) (v ∷ values) = with_argument (assigned type v) (passed types values)
passed types values = None

abbrev pub made_of : Signature → Name → List Valued → (number : ℕ) → Result Made Fault
made_of signature callee values number =
    bind (or_mismatch (passed signature.parameters values) callee.offset)
    (λ cores. Ok (record { number = number; callee = callee.spelling; arguments = cores; type = signature.result; offset = callee.offset }))

-- 6.5.2.2p1: what is called is a function
abbrev pub called_by : Option Meaning → Name → List Valued → (number : ℕ) → Result Made Fault
called_by (Some (Function signature has_body)) callee values number = made_of signature callee values number
called_by other callee values number = fail Mismatch callee.offset

-- the name of a callee is declared
abbrev pub is_known : Option Meaning → Bool
is_known None = false
is_known (Some Hidden) = false
is_known (Some other) = true

unfoldable pub call : tree.Call → Typing Made
call made = do
  check made.callee.offset (λ st. (not (is_known (in_scope st.names made.callee.spelling)), Unknown) ∷ [])
  values ← arguments made.arguments []
  number ← new_call
  by (λ st. called_by (in_scope st.names made.callee.spelling) made.callee values number)

abbrev pub call_into : Made → Option ℕ → Action
call_into made result = Call made.number made.callee made.arguments result

-- a call whose value is put into a further local, and what is then done with that. These locals are numbered after all
-- that are declared
abbrev pub through_local : Context → Made → (Valued → Result Action Fault) → Typing Action
through_local context made next = do
  count ← new_result made.type
  v ← rule (read_local made.type (context.declared_locals + count) made.offset)
  action ← rule (next v)
  give (Sequence (call_into made (Some (context.declared_locals + count))) action)

abbrev pub is_plain_name : Expression → Bool
is_plain_name (Named name) = true
is_plain_name other = false

-- the value of a call goes into a local, or through a further local into a global
abbrev pub call_stored : Context → Operand → Made → (offset : ℕ) → Typing Action
call_stored context x made offset =
    elim x.category [
      | Value core ↦ refuse NotLvalue offset
      | InLocal local ↦ give (call_into made (Some local))
      | InMemory address displacement ↦ through_local context made (λ v. assignment x v offset)
    ]

unfoldable pub call_assignment : Context → Operand → (is_plain : Bool) → Made → (offset : ℕ) → Typing Action
call_assignment context x is_plain made offset = do
  check offset (λ st. (not (is_assignable x), NotLvalue) ∷ (not (converts x.type made.type), Mismatch) ∷ (not is_plain, LeftOut left_out.CallPlace) ∷ [])
  call_stored context x made offset

-- ---- expression statements, declarations and `return`

unfoldable pub assigned_from : Context → Expression → Operand → tree.Value → (offset : ℕ) → Typing Action
assigned_from context target x (tree.Computed source) offset = do
  v ← value source
  rule (assignment x v offset)
assigned_from context target x (tree.Called source) offset = do
  made ← call source
  call_assignment context x (is_plain_name target) made offset

-- 6.8.3p2: an expression is evaluated, and its value dropped
unfoldable pub evaluated : tree.Value → Typing Action
evaluated (tree.Computed x) = do
  given ← expression x position.Statement
  v ← rule (value_of given)
  give (Evaluate v.core)
evaluated (tree.Called x) = do
  made ← call x
  give (call_into made None)

unfoldable pub simple : tree.Simple → Context → Typing Action
simple (tree.Assign target source offset) context = do
  x ← expression target position.Operand
  assigned_from context target x source offset
simple (tree.AssignBy operator target source offset) context = do
  x ← expression target position.Operand
  v ← value source
  compound operator x v offset
simple (tree.StepAfter operator target offset) context = stepped operator target offset
simple (tree.StepBefore operator target offset) context = stepped operator target offset
simple (tree.Evaluate x) context = evaluated x

-- 6.7.9p11: a local gets its initial value as if by assignment; the fault is at its name
unfoldable pub initial : Option tree.Value → CType → (local offset : ℕ) → Typing Action
initial None type local offset = give (Unset local)
initial (Some (tree.Computed source)) type local offset = do
  v ← value source
  core ← rule (or_mismatch (assigned type v) offset)
  give (Set local core)
initial (Some (tree.Called source)) type local offset = do
  made ← call source
  check offset (λ st. (not (converts type made.type), Mismatch) ∷ [])
  give (call_into made (Some local))

-- 6.7.6, 6.2.1p7: a local is in scope before its initial value
unfoldable pub declared_local : tree.Local → (base : CType) → (is_static : Bool) → Typing Action
declared_local declared base is_static = do
  type ← declarator declared.declarator base
  number ← local (declared_name declared.declarator) type is_static
  initial declared.value type number (declared_name declared.declarator).offset

unfoldable pub declared_locals : List tree.Local → (base : CType) → (is_static : Bool) → List Action → Typing (List Action)
declared_locals [] base is_static done = give done
declared_locals (first ∷ rest) base is_static done = do
  action ← declared_local first base is_static
  declared_locals rest base is_static (done ++ action ∷ [])

abbrev pub is_static : Specifiers → Bool
is_static (Specified storage base offset) = storage.is_static

unfoldable pub declaration : tree.Locals → List Action → Typing (List Action)
declaration locals done = do
  base ← specifiers locals.specifiers
  declared_locals locals.locals base (is_static locals.specifiers) done

-- 6.8.6.4p1: a function returns a value where it is not `void`
abbrev pub return_value : Context → Valued → Result Action Fault
return_value context v = bind (or_mismatch (assigned context.returned v) v.offset) (λ core. Ok (Return (Some core)))

unfoldable pub returned_from : Option tree.Value → Context → (offset : ℕ) → Typing Action
returned_from None context offset = do
  check offset (λ st. (not (is_void context.returned), Mismatch) ∷ [])
  give (Return None)
returned_from (Some (tree.Computed source)) context offset = do
  v ← value source
  rule (return_value context v)
returned_from (Some (tree.Called source)) context offset = do
  made ← call source
  through_local context made (λ v. return_value context v)

-- 6.8.4.1p1, 6.8.5p2: a test is an integer or a pointer
unfoldable pub condition : Expression → Typing Core
condition test = do
  v ← value test
  rule (scalar_value v)

-- ---- `for`, and the labels of a `switch`

unfoldable pub for_start : tree.ForStart → Context → Typing Action
for_start tree.StartsEmpty context = give Skip
for_start (tree.StartsLocals locals) context = do
  actions ← declaration locals []
  give (sequence actions)
for_start (tree.StartsSimple x) context = simple x context

-- 6.8.5.3p2: an absent test is one that is not 0
unfoldable pub for_test : Option Expression → Typing Core
for_test None = give (Constant int (pos 1))
for_test (Some test) = condition test

unfoldable pub for_step : Option tree.Simple → Context → Typing Action
for_step None context = give Skip
for_step (Some x) context = simple x context

-- 6.8.4.2p5: the value of a label, converted to the type of the test, none being `default`, and its offset
unfoldable pub label : tree.Label → (type : Scalar) → Typing (Option ℤ × ℕ)
label (tree.Case x offset) type = do
  v ← value x
  given ← rule (integer_constant v)
  give (Some (converted type given), v.offset)
label (tree.Default offset) type = give (None, offset)

abbrev pub same_label : Option ℤ → Option ℤ → Bool
same_label None None = true
same_label (Some a) (Some b) = same_value a b
same_label a b = false

-- 6.8.4.2p3: the labels of a group, after those so far; `seen` are those of the groups before
unfoldable pub labels : List tree.Label → (type : Scalar) → (seen done : List (Option ℤ)) → Typing (List (Option ℤ))
labels [] type seen done = give done
labels (first ∷ rest) type seen done = do
  made ← label first type
  check made.1 (λ st. (list_any (λ other. same_label other made.0) (seen ++ done), Twice) ∷ [])
  labels rest type seen (done ++ made.0 ∷ [])

abbrev pub label_offset : tree.Label → ℕ
label_offset (tree.Case x offset) = offset
label_offset (tree.Default offset) = offset

abbrev pub first_offset : List tree.Label → ℕ
first_offset [] = 0
first_offset (first ∷ rest) = label_offset first

-- control never goes on after the statement, as is seen from its form
unfoldable mutual
  pub exits : tree.Statement → Bool
  exits (tree.Block inner offset) = ends inner false
  exits (tree.Break offset) = true
  exits (tree.Continue offset) = true
  exits (tree.Return x offset) = true
  exits (tree.IfElse test first second offset) = exits first && exits second
  exits other = false

  -- it doesn't after the last statement; `last` is so of the one before
  pub ends : tree.Parts → (last : Bool) → Bool
  ends tree.no_parts last = last
  ends (tree.parts_local locals rest) last = ends rest last
  ends (tree.parts_statement first rest) last = ends rest (exits first)

abbrev pub is_end : tree.Groups → Bool
is_end tree.no_groups = true
is_end (tree.groups labels inner rest) = false

-- ---- statements

abbrev pub looping : Context → Context
looping context = record context { in_loop = true }

abbrev pub switching : Context → Context
switching context = record context { in_switch = true }

abbrev pub groups_in : List (List (Option ℤ) × Action) → Groups
groups_in [] = no_groups
groups_in (first ∷ rest) = groups first.0 first.1 (groups_in rest)

-- 6.8.4.2p1: the test of a `switch` is an integer and is promoted
unfoldable pub switch_test : Valued → Result (Core × Scalar) Fault
switch_test v = elim (integer_type v.type) [ Some type ↦ Ok (convert (promoted type) v.core, promoted type) | None ↦ fail Mismatch v.offset ]

unfoldable mutual
  pub statement : tree.Statement → Context → Typing Action
  statement (tree.Block inner offset) context = block (parts inner context [])
  statement (tree.Empty offset) context = give Skip
  statement (tree.Perform x) context = simple x context
  statement (tree.Break offset) context = do
    check offset (λ st. (not (context.in_loop || context.in_switch), Mismatch) ∷ [])
    give (Leave jump.Break)
  statement (tree.Continue offset) context = do
    check offset (λ st. (not context.in_loop, Mismatch) ∷ [])
    give (Leave jump.Continue)
  statement (tree.Return x offset) context = returned_from x context offset
  -- 6.8.4p3, 6.8.5p5: an `if`, a loop and a `switch` is a block, and so is each statement in it
  statement (tree.If test body offset) context = block (do
    c ← condition test
    first ← block (statement body context)
    give (If c first Skip))
  statement (tree.IfElse test body otherwise offset) context = block (do
    c ← condition test
    first ← block (statement body context)
    second ← block (statement otherwise context)
    give (If c first second))
  statement (tree.While test body offset) context = block (do
    number ← new_loop
    c ← condition test
    inner ← block (statement body (looping context))
    give (Loop number Before c Skip inner))
  statement (tree.Do body test offset) context = block (do
    number ← new_loop
    inner ← block (statement body (looping context))
    c ← condition test
    give (Loop number After c Skip inner))
  statement (tree.For begin test step body offset) context = block (do
    number ← new_loop
    first ← for_start begin context
    c ← for_test test
    last ← for_step step context
    inner ← block (statement body (looping context))
    give (Sequence first (Loop number Before c last inner)))
  statement (tree.Switch test list offset) context = block (do
    v ← value test
    c ← rule (switch_test v)
    inner ← switch_groups list (switching context) c.1 [] []
    give (Switch c.0 inner))

  -- the parts of a block, after what those so far do
  pub parts : tree.Parts → Context → List Action → Typing Action
  parts tree.no_parts context done = give (sequence done)
  parts (tree.parts_local locals rest) context done = do
    more ← declaration locals done
    parts rest context more
  parts (tree.parts_statement first rest) context done = do
    action ← statement first context
    parts rest context (done ++ action ∷ [])

  -- the groups of a `switch`, after those so far, whose labels are `seen`. Each is a block of its own, and what it
  -- declares stays hidden until the `switch` ends
  pub switch_groups : tree.Groups → Context → (type : Scalar) → (seen : List (Option ℤ)) → List (List (Option ℤ) × Action) → Typing Groups
  switch_groups tree.no_groups context type seen done = give (groups_in done)
  switch_groups (tree.groups list inner rest) context type seen done = do
    made ← hidden_block (do
      values ← labels list type seen []
      body ← parts inner context []
      give (values, body))
    check (first_offset list) (λ st. (not (is_end rest || ends inner false), Fallthrough) ∷ [])
    switch_groups rest context type (seen ++ made.0) (done ++ made ∷ [])

-- ---- the locals that a body declares

abbrev pub locals_at_start : tree.ForStart → ℕ
locals_at_start (tree.StartsLocals locals) = length locals.locals
locals_at_start other = 0

unfoldable mutual
  pub locals_in : tree.Statement → ℕ
  locals_in (tree.Block inner offset) = locals_of inner
  locals_in (tree.If test body offset) = locals_in body
  locals_in (tree.IfElse test body otherwise offset) = locals_in body + locals_in otherwise
  locals_in (tree.While test body offset) = locals_in body
  locals_in (tree.Do body test offset) = locals_in body
  locals_in (tree.For begin test step body offset) = locals_at_start begin + locals_in body
  locals_in (tree.Switch test list offset) = locals_of_groups list
  locals_in other = 0

  pub locals_of : tree.Parts → ℕ
  locals_of tree.no_parts = 0
  locals_of (tree.parts_local locals rest) = length locals.locals + locals_of rest
  locals_of (tree.parts_statement first rest) = locals_in first + locals_of rest

  pub locals_of_groups : tree.Groups → ℕ
  locals_of_groups tree.no_groups = 0
  locals_of_groups (tree.groups list inner rest) = locals_of inner + locals_of_groups rest
