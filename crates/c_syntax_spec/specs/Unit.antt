-- Statements and units as trees (ISO C11, 6.8 and 6.9).
use Rattle.std.specs.Prelude.{ℕ, Bool, List, Option}
use Rattle.c_syntax_spec.specs.declared.BinaryOperator.{BinaryOperator}
use Rattle.c_syntax_spec.specs.declared.StepOperator.{StepOperator}
use Rattle.c_syntax_spec.specs.Expression.{Name, Expression, Expressions, Specifiers, Declarator}

-- `callee(arguments)`
pub record Call : Type 0 where
  pub callee : Name
  pub arguments : Expressions

-- what is assigned or returned
pub data Value : Type 0 where
  Called : (call : Call) → Value
  Computed : (expression : Expression) → Value

-- an expression statement without its semicolon, or a piece of a `for`
pub data Simple : Type 0 where
  Assign : (target : Expression) → (value : Value) → (offset : ℕ) → Simple
  -- `target op= value`
  AssignBy : (operator : BinaryOperator) → (target value : Expression) → (offset : ℕ) → Simple
  -- `target++`, `target--`
  StepAfter : (operator : StepOperator) → (target : Expression) → (offset : ℕ) → Simple
  -- `++target`, `--target`
  StepBefore : (operator : StepOperator) → (target : Expression) → (offset : ℕ) → Simple
  Evaluate : (value : Value) → Simple

-- a declared local, and its initial value
pub record Local : Type 0 where
  pub declarator : Declarator
  pub value : Option Value

-- locals of one declaration
pub record Locals : Type 0 where
  pub specifiers : Specifiers
  pub locals : List Local

-- how a `for` begins
pub data ForStart : Type 0 where
  StartsEmpty : ForStart
  StartsLocals : (locals : Locals) → ForStart
  StartsSimple : (simple : Simple) → ForStart

pub data Label : Type 0 where
  Case : (value : Expression) → (offset : ℕ) → Label
  Default : (offset : ℕ) → Label

-- the offset of a statement is that of its first token
mutual
  pub data Statement : Type 0 where
    Block : (parts : Parts) → (offset : ℕ) → Statement
    Empty : (offset : ℕ) → Statement
    Perform : (simple : Simple) → Statement
    Break : (offset : ℕ) → Statement
    Continue : (offset : ℕ) → Statement
    Return : (value : Option Value) → (offset : ℕ) → Statement
    If : (test : Expression) → (body : Statement) → (offset : ℕ) → Statement
    IfElse : (test : Expression) → (body otherwise : Statement) → (offset : ℕ) → Statement
    While : (test : Expression) → (body : Statement) → (offset : ℕ) → Statement
    Do : (body : Statement) → (test : Expression) → (offset : ℕ) → Statement
    For : (start : ForStart) → (test : Option Expression) → (step : Option Simple) → (body : Statement) → (offset : ℕ) → Statement
    Switch : (test : Expression) → (groups : Groups) → (offset : ℕ) → Statement

  -- the declarations and statements of a block or of a group of a `switch`
  pub data Parts : Type 0 where
    no_parts : Parts
    parts_local : (locals : Locals) → (rest : Parts) → Parts
    parts_statement : (statement : Statement) → (rest : Parts) → Parts

  -- labels, and the parts that follow them
  pub data Groups : Type 0 where
    no_groups : Groups
    groups : (labels : List Label) → (parts : Parts) → (rest : Groups) → Groups

-- a parameter; an array of it is a pointer
pub record Parameter : Type 0 where
  pub specifiers : Specifiers
  pub pointers : ℕ
  pub name : Option Name
  pub is_open : Bool
  pub lengths : Expressions

-- so many `*` of the result, the name, and the parameters
pub record FunctionDeclarator : Type 0 where
  pub pointers : ℕ
  pub name : Name
  pub parameters : List Parameter

-- what a declaration of the unit declares
pub data Global : Type 0 where
  Object : (declarator : Declarator) → Global
  Function : (declarator : FunctionDeclarator) → Global

-- an external declaration (6.9)
pub data ExternalDeclaration : Type 0 where
  -- `;` alone
  EmptyDeclaration : ExternalDeclaration
  -- a declaration, of no name too; the initial values of globals are left out
  Declaration : (specifiers : Specifiers) → (globals : List Global) → ExternalDeclaration
  -- a function with its body; `close` is the offset of the `}` that ends it
  Definition : (specifiers : Specifiers) → (declarator : FunctionDeclarator) → (body : Parts) → (close : ℕ) → ExternalDeclaration

-- a translation unit
abbrev pub TranslationUnit : Type 0
TranslationUnit = List ExternalDeclaration
