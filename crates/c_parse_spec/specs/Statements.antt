-- Statements: which leaves spell which tree (ISO C11, 6.8). `names` and `depth` are those of Expressions.antt.
-- A test, a value that is declared or returned, an expression statement and a piece of a `for` are each one whole
-- expression; a value that is assigned goes on with the count of what it is assigned to.
use Rattle.std.specs.Prelude.{◌≡◌, ℕ, suc, ◌+◌, Bool, true, false, List, [], ◌∷◌, ◌++◌, Option, Some, None}
use Rattle.c_token_spec.specs.declared.token.Keyword.TheVariants.{Break, Case, Continue, Default, Do, Else, For, If, Return, Switch, While}
use Rattle.c_token_spec.specs.declared.token.Punctuator.{Punctuator}
use Rattle.c_token_spec.specs.declared.token.Punctuator.TheVariants as punctuator
use Rattle.c_syntax_spec.specs.declared.BinaryOperator.{BinaryOperator}
use Rattle.c_syntax_spec.specs.declared.BinaryOperator.TheVariants.{BitOr, BitXor, BitAnd, ShiftLeft, ShiftRight, Add, Subtract, Multiply, Divide, Remainder}
use Rattle.c_syntax_spec.specs.declared.StepOperator.{StepOperator}
use Rattle.c_syntax_spec.specs.declared.StepOperator.TheVariants.{Increment, Decrement}
use Rattle.c_syntax_spec.specs.Expression.{Name, Expression, Named, Expressions, expressions, no_expressions, Specifiers as specifiers_tree, Declarator as declarator_tree}
use Rattle.c_syntax_spec.specs.Unit as tree
use Rattle.c_parse_spec.specs.declared.Role.{Role}
use Rattle.c_parse_spec.specs.declared.Role.TheVariants.{Nothing, OperandEnd, CallEnd, StatementEnd, NameStatementEnd, CallStatementEnd}
use Rattle.c_parse_spec.specs.Leaves.{Leaf, plain, expected, opens, operates, brackets, mark, keyword_at, named}
use Rattle.c_parse_spec.specs.Expressions.{is_typedef_name, operators, Postfix, Unary, Conditional, Specifiers, InLocalDeclaration, Declarator, Alone}

abbrev pub step_mark : StepOperator → Punctuator
step_mark Increment = punctuator.Increment
step_mark Decrement = punctuator.Decrement

-- the assignments with an operator (6.5.16)
pub data AssignMark : BinaryOperator → Punctuator → Type 0 where
  multiply : AssignMark Multiply punctuator.StarAssign
  divide : AssignMark Divide punctuator.SlashAssign
  remainder : AssignMark Remainder punctuator.PercentAssign
  add : AssignMark Add punctuator.PlusAssign
  subtract : AssignMark Subtract punctuator.MinusAssign
  shift_left : AssignMark ShiftLeft punctuator.ShiftLeftAssign
  shift_right : AssignMark ShiftRight punctuator.ShiftRightAssign
  bit_and : AssignMark BitAnd punctuator.AmpersandAssign
  bit_xor : AssignMark BitXor punctuator.CaretAssign
  bit_or : AssignMark BitOr punctuator.BarAssign

-- what is expected after a value
abbrev pub value_end : tree.Value → Role
value_end (tree.Called made) = CallEnd
value_end (tree.Computed x) = OperandEnd

-- arguments with `,` between them (6.5.2)
pub data Arguments (names : List (List ℕ)) : (depth count : ℕ) → Expressions → List Leaf → Type 0 where
  last : (depth count : ℕ) (x : Expression) (text : List Leaf) → Conditional names depth count x text → Arguments names depth count (expressions x no_expressions) text
  more : (depth count : ℕ) (x : Expression) (rest : Expressions) (left right : List Leaf) (comma : ℕ) → Conditional names depth count x left → Arguments names depth (count + operators x) rest right
      → Arguments names depth count (expressions x rest) (left ++ expected OperandEnd (mark punctuator.Comma comma) ∷ right)

-- a call of a name (6.5.2.2)
pub data Call (names : List (List ℕ)) : (depth count : ℕ) → tree.Call → List Leaf → Type 0 where
  empty : (depth count : ℕ) (n : Name) (offset close : ℕ) → is_typedef_name names n.spelling ≡ false
      → Call names depth count (record { callee = n; arguments = no_expressions }) (plain (named n) ∷ brackets (suc depth) (suc count) (mark punctuator.LeftParenthesis offset) ∷ plain (mark punctuator.RightParenthesis close) ∷ [])
  call : (depth count : ℕ) (n : Name) (arguments : Expressions) (inside : List Leaf) (offset close : ℕ) → is_typedef_name names n.spelling ≡ false → Arguments names (suc depth) (suc count) arguments inside
      → Call names depth count (record { callee = n; arguments = arguments }) (plain (named n) ∷ brackets (suc depth) (suc count) (mark punctuator.LeftParenthesis offset) ∷ inside ++ expected OperandEnd (mark punctuator.RightParenthesis close) ∷ [])

-- a call or a conditional expression
pub data Value (names : List (List ℕ)) : (depth count : ℕ) → tree.Value → List Leaf → Type 0 where
  called : (depth count : ℕ) (call : tree.Call) (text : List Leaf) → Call names depth count call text → Value names depth count (tree.Called call) text
  computed : (depth count : ℕ) (x : Expression) (text : List Leaf) → Conditional names depth count x text → Value names depth count (tree.Computed x) text

-- what an expression statement has before its `;` (6.5.16, 6.5.2.4, 6.5.3.1)
pub data Simple (names : List (List ℕ)) : (depth : ℕ) → tree.Simple → List Leaf → Type 0 where
  assign : (depth : ℕ) (target : Expression) (value : tree.Value) (left right : List Leaf) (offset : ℕ) → Unary names depth 0 target left → Value names depth (suc (operators target)) value right
      → Simple names depth (tree.Assign target value offset) (left ++ operates (suc (operators target)) (mark punctuator.Assign offset) ∷ right)
  assign_by : (depth : ℕ) (operator : BinaryOperator) (assign : Punctuator) (target value : Expression) (left right : List Leaf) (offset : ℕ) → AssignMark operator assign → Unary names depth 0 target left → Conditional names depth (suc (operators target)) value right
      → Simple names depth (tree.AssignBy operator target value offset) (left ++ operates (suc (operators target)) (mark assign offset) ∷ right)
  step_after : (depth : ℕ) (operator : StepOperator) (target : Expression) (text : List Leaf) (offset : ℕ) → Postfix names depth 0 target text
      → Simple names depth (tree.StepAfter operator target offset) (text ++ operates (suc (operators target)) (mark (step_mark operator) offset) ∷ [])
  step_before : (depth : ℕ) (operator : StepOperator) (target : Expression) (text : List Leaf) (offset : ℕ) → Unary names depth 1 target text
      → Simple names depth (tree.StepBefore operator target offset) (operates 1 (mark (step_mark operator) offset) ∷ text)
  evaluate : (depth : ℕ) (value : tree.Value) (text : List Leaf) → Value names depth 0 value text → Simple names depth (tree.Evaluate value) text

-- what is expected after a piece of a `for`
abbrev pub simple_end : tree.Simple → Role
simple_end (tree.Assign target value offset) = value_end value
simple_end (tree.AssignBy operator target value offset) = OperandEnd
simple_end (tree.StepAfter operator target offset) = OperandEnd
simple_end (tree.StepBefore operator target offset) = OperandEnd
simple_end (tree.Evaluate value) = value_end value

-- what is expected after a whole expression statement
abbrev pub value_statement_end : tree.Value → Role
value_statement_end (tree.Called made) = CallStatementEnd
value_statement_end (tree.Computed (Named n)) = NameStatementEnd
value_statement_end (tree.Computed x) = StatementEnd

abbrev pub assigned_end : tree.Value → Role
assigned_end (tree.Called made) = CallStatementEnd
assigned_end (tree.Computed x) = StatementEnd

abbrev pub statement_end : tree.Simple → Role
statement_end (tree.Assign target value offset) = assigned_end value
statement_end (tree.AssignBy operator target value offset) = StatementEnd
statement_end (tree.StepAfter operator target offset) = StatementEnd
statement_end (tree.StepBefore operator target offset) = StatementEnd
statement_end (tree.Evaluate value) = value_statement_end value

-- a declared local, and what is expected after it (6.7)
pub data Local (names : List (List ℕ)) : (depth : ℕ) → tree.Local → (end : Role) → List Leaf → Type 0 where
  unset : (depth : ℕ) (declarator : declarator_tree) (text : List Leaf) → Declarator names false depth Alone declarator text → Local names depth (record { declarator = declarator; value = None }) Nothing text
  set : (depth : ℕ) (declarator : declarator_tree) (value : tree.Value) (text right : List Leaf) (offset : ℕ) → Declarator names false depth Alone declarator text → Value names depth 0 value right
      → Local names depth (record { declarator = declarator; value = Some value }) (value_end value) (text ++ plain (mark punctuator.Assign offset) ∷ right)

-- locals with `,` between them, and what is expected after the last
pub data LocalList (names : List (List ℕ)) : (depth : ℕ) → List tree.Local → (end : Role) → List Leaf → Type 0 where
  last : (depth : ℕ) (local : tree.Local) (end : Role) (text : List Leaf) → Local names depth local end text → LocalList names depth (local ∷ []) end text
  more : (depth : ℕ) (local : tree.Local) (rest : List tree.Local) (end after : Role) (text right : List Leaf) (comma : ℕ) → Local names depth local end text → LocalList names depth rest after right
      → LocalList names depth (local ∷ rest) after (text ++ expected end (mark punctuator.Comma comma) ∷ right)

pub data Locals (names : List (List ℕ)) : (depth : ℕ) → tree.Locals → (end : Role) → List Leaf → Type 0 where
  locals : (depth : ℕ) (specifiers : specifiers_tree) (list : List tree.Local) (end : Role) (left right : List Leaf) → Specifiers names InLocalDeclaration depth Alone specifiers left → LocalList names depth list end right
      → Locals names depth (record { specifiers = specifiers; locals = list }) end (left ++ right)

-- how a `for` begins, with its first `;` (6.8.5.3)
pub data ForStart (names : List (List ℕ)) : (depth : ℕ) → tree.ForStart → List Leaf → Type 0 where
  empty : (depth end : ℕ) → ForStart names depth tree.StartsEmpty (plain (mark punctuator.Semicolon end) ∷ [])
  locals : (depth : ℕ) (list : tree.Locals) (after : Role) (text : List Leaf) (end : ℕ) → Locals names depth list after text → ForStart names depth (tree.StartsLocals list) (text ++ expected after (mark punctuator.Semicolon end) ∷ [])
  simple : (depth : ℕ) (x : tree.Simple) (text : List Leaf) (end : ℕ) → Simple names depth x text → ForStart names depth (tree.StartsSimple x) (text ++ expected (simple_end x) (mark punctuator.Semicolon end) ∷ [])

-- the test of a `for`, with its `;`
pub data ForTest (names : List (List ℕ)) : (depth : ℕ) → Option Expression → List Leaf → Type 0 where
  empty : (depth end : ℕ) → ForTest names depth None (plain (mark punctuator.Semicolon end) ∷ [])
  test : (depth : ℕ) (x : Expression) (text : List Leaf) (end : ℕ) → Conditional names depth 0 x text → ForTest names depth (Some x) (text ++ expected OperandEnd (mark punctuator.Semicolon end) ∷ [])

-- the step of a `for`, with its bracket
pub data ForStep (names : List (List ℕ)) : (depth : ℕ) → Option tree.Simple → List Leaf → Type 0 where
  empty : (depth close : ℕ) → ForStep names depth None (plain (mark punctuator.RightParenthesis close) ∷ [])
  step : (depth : ℕ) (x : tree.Simple) (text : List Leaf) (close : ℕ) → Simple names depth x text → ForStep names depth (Some x) (text ++ expected (simple_end x) (mark punctuator.RightParenthesis close) ∷ [])

-- a test in brackets
pub data Test (names : List (List ℕ)) : (depth : ℕ) → Expression → List Leaf → Type 0 where
  test : (depth : ℕ) (x : Expression) (inside : List Leaf) (offset close : ℕ) → Conditional names (suc depth) 0 x inside
      → Test names depth x (opens (suc depth) (mark punctuator.LeftParenthesis offset) ∷ inside ++ expected OperandEnd (mark punctuator.RightParenthesis close) ∷ [])

-- a label of a `switch` (6.8.1)
pub data Label (names : List (List ℕ)) : (depth : ℕ) → tree.Label → List Leaf → Type 0 where
  case : (depth : ℕ) (x : Expression) (text : List Leaf) (offset colon : ℕ) → Conditional names depth 0 x text
      → Label names depth (tree.Case x offset) (plain (keyword_at Case offset) ∷ text ++ expected OperandEnd (mark punctuator.Colon colon) ∷ [])
  default : (depth offset colon : ℕ) → Label names depth (tree.Default offset) (plain (keyword_at Default offset) ∷ plain (mark punctuator.Colon colon) ∷ [])

-- one label or more
pub data Labels (names : List (List ℕ)) : (depth : ℕ) → List tree.Label → List Leaf → Type 0 where
  last : (depth : ℕ) (label : tree.Label) (text : List Leaf) → Label names depth label text → Labels names depth (label ∷ []) text
  more : (depth : ℕ) (label : tree.Label) (rest : List tree.Label) (left right : List Leaf) → Label names depth label left → Labels names depth rest right → Labels names depth (label ∷ rest) (left ++ right)

-- an `else` after the statement would belong to an `if` inside it (6.8.4.1)
abbrev pub takes_else : tree.Statement → Bool
takes_else (tree.If x body offset) = true
takes_else (tree.IfElse x body otherwise offset) = takes_else otherwise
takes_else (tree.While x body offset) = takes_else body
takes_else (tree.For start x next body offset) = takes_else body
takes_else other = false

-- at least one part
abbrev pub is_some : tree.Parts → Bool
is_some tree.no_parts = false
is_some (tree.parts_local list rest) = true
is_some (tree.parts_statement statement rest) = true

abbrev pub is_any : tree.Groups → Bool
is_any tree.no_groups = false
is_any (tree.groups labels parts rest) = true

mutual
  pub data Statement (names : List (List ℕ)) : (depth : ℕ) → tree.Statement → List Leaf → Type 0 where
    -- 6.8.2
    block : (depth : ℕ) (parts : tree.Parts) (inside : List Leaf) (offset close : ℕ) → Parts names (suc depth) parts inside
        → Statement names depth (tree.Block parts offset) (opens (suc depth) (mark punctuator.LeftBrace offset) ∷ inside ++ plain (mark punctuator.RightBrace close) ∷ [])
    -- 6.8.3
    empty : (depth offset : ℕ) → Statement names depth (tree.Empty offset) (plain (mark punctuator.Semicolon offset) ∷ [])
    perform : (depth : ℕ) (simple : tree.Simple) (text : List Leaf) (end : ℕ) → Simple names depth simple text
        → Statement names depth (tree.Perform simple) (text ++ expected (statement_end simple) (mark punctuator.Semicolon end) ∷ [])
    -- 6.8.4.1: the `if` is open up to the end of the whole statement, and its `else` beside it
    if_only : (depth : ℕ) (x : Expression) (body : tree.Statement) (test text : List Leaf) (offset : ℕ) → Test names (suc depth) x test → Statement names (suc depth) body text
        → Statement names depth (tree.If x body offset) (opens (suc depth) (keyword_at If offset) ∷ test ++ text)
    if_else : (depth : ℕ) (x : Expression) (body otherwise : tree.Statement) (test text right : List Leaf) (offset else_offset : ℕ) → Test names (suc depth) x test → Statement names (suc depth) body text → takes_else body ≡ false → Statement names (suc (suc depth)) otherwise right
        → Statement names depth (tree.IfElse x body otherwise offset) (opens (suc depth) (keyword_at If offset) ∷ test ++ (text ++ opens (suc (suc depth)) (keyword_at Else else_offset) ∷ right))
    -- 6.8.4.2
    switch : (depth : ℕ) (x : Expression) (groups : tree.Groups) (test inside : List Leaf) (offset open_offset close : ℕ) → Test names (suc depth) x test → Groups names (suc (suc depth)) groups inside
        → Statement names depth (tree.Switch x groups offset) (opens (suc depth) (keyword_at Switch offset) ∷ test ++ (opens (suc (suc depth)) (mark punctuator.LeftBrace open_offset) ∷ inside ++ plain (mark punctuator.RightBrace close) ∷ []))
    -- 6.8.5
    while : (depth : ℕ) (x : Expression) (body : tree.Statement) (test text : List Leaf) (offset : ℕ) → Test names (suc depth) x test → Statement names (suc depth) body text
        → Statement names depth (tree.While x body offset) (opens (suc depth) (keyword_at While offset) ∷ test ++ text)
    do_while : (depth : ℕ) (body : tree.Statement) (x : Expression) (text test : List Leaf) (offset while_offset end : ℕ) → Statement names (suc depth) body text → Test names (suc depth) x test
        → Statement names depth (tree.Do body x offset) (opens (suc depth) (keyword_at Do offset) ∷ text ++ (plain (keyword_at While while_offset) ∷ test ++ plain (mark punctuator.Semicolon end) ∷ []))
    for : (depth : ℕ) (start : tree.ForStart) (x : Option Expression) (step : Option tree.Simple) (body : tree.Statement) (first test last text : List Leaf) (offset open_offset : ℕ)
        → ForStart names (suc (suc depth)) start first → ForTest names (suc (suc depth)) x test → ForStep names (suc (suc depth)) step last → Statement names (suc depth) body text
        → Statement names depth (tree.For start x step body offset) (opens (suc depth) (keyword_at For offset) ∷ opens (suc (suc depth)) (mark punctuator.LeftParenthesis open_offset) ∷ first ++ (test ++ (last ++ text)))
    -- 6.8.6
    continue : (depth offset end : ℕ) → Statement names depth (tree.Continue offset) (plain (keyword_at Continue offset) ∷ plain (mark punctuator.Semicolon end) ∷ [])
    break : (depth offset end : ℕ) → Statement names depth (tree.Break offset) (plain (keyword_at Break offset) ∷ plain (mark punctuator.Semicolon end) ∷ [])
    return : (depth offset end : ℕ) → Statement names depth (tree.Return None offset) (plain (keyword_at Return offset) ∷ plain (mark punctuator.Semicolon end) ∷ [])
    return_value : (depth : ℕ) (value : tree.Value) (text : List Leaf) (offset end : ℕ) → Value names depth 0 value text
        → Statement names depth (tree.Return (Some value) offset) (plain (keyword_at Return offset) ∷ text ++ expected (value_end value) (mark punctuator.Semicolon end) ∷ [])

  -- the declarations and statements of a block or after labels, in any order
  pub data Parts (names : List (List ℕ)) : (depth : ℕ) → tree.Parts → List Leaf → Type 0 where
    no_parts : (depth : ℕ) → Parts names depth tree.no_parts []
    local : (depth : ℕ) (list : tree.Locals) (rest : tree.Parts) (after : Role) (text right : List Leaf) (end : ℕ) → Locals names depth list after text → Parts names depth rest right
        → Parts names depth (tree.parts_local list rest) (text ++ expected after (mark punctuator.Semicolon end) ∷ right)
    statement : (depth : ℕ) (x : tree.Statement) (rest : tree.Parts) (left right : List Leaf) → Statement names depth x left → Parts names depth rest right
        → Parts names depth (tree.parts_statement x rest) (left ++ right)

  -- the groups of a `switch`: labels, and the parts after them, which only in the last group may be none
  pub data Groups (names : List (List ℕ)) : (depth : ℕ) → tree.Groups → List Leaf → Type 0 where
    no_groups : (depth : ℕ) → Groups names depth tree.no_groups []
    last_group : (depth : ℕ) (labels : List tree.Label) (parts : tree.Parts) (first text : List Leaf) → Labels names depth labels first → Parts names depth parts text
        → Groups names depth (tree.groups labels parts tree.no_groups) (first ++ text)
    group : (depth : ℕ) (labels : List tree.Label) (parts : tree.Parts) (rest : tree.Groups) (first text right : List Leaf) → Labels names depth labels first → Parts names depth parts text → is_some parts ≡ true → Groups names depth rest right → is_any rest ≡ true
        → Groups names depth (tree.groups labels parts rest) (first ++ (text ++ right))
