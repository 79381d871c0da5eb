-- Units: which leaves derive which tree (ISO C11, 6.7 and 6.9). `names` are the typedef names in scope: a typedef
-- name is in scope from the end of its declarator to the end of the unit.
use Rattle.std.specs.Prelude.{◌≡◌, ℕ, suc, Bool, true, false, List, [], ◌∷◌, ◌++◌, Option, Some, None}
use Rattle.c_token_spec.specs.declared.token.Keyword.TheVariants.{Void}
use Rattle.c_token_spec.specs.declared.token.Punctuator.TheVariants as punctuator
use Rattle.c_syntax_spec.specs.Expression.{Name, Expression, Expressions, Declared, Specified, Specifiers as specifiers_tree, Declarator as declarator_tree}
use Rattle.c_token_spec.specs.Lexical as token
use Rattle.c_syntax_spec.specs.Unit as tree
use Rattle.c_parse_spec.specs.declared.Role.{Role}
use Rattle.c_parse_spec.specs.declared.Role.TheVariants.{Nothing, DeclaredName, OperandEnd}
use Rattle.c_parse_spec.specs.Leaves.{Leaf, plain, expected, opens, mark, keyword_at, named}
use Rattle.c_parse_spec.specs.Expressions.{is_typedef_name, Conditional, Specifiers, InExternalDeclaration, Elsewhere, Alone, Pointer, Declarator, Dimensions}
use Rattle.c_parse_spec.specs.Statements.{Parts}

-- a parameter's name, or none
pub data ParameterName (names : List (List ℕ)) : Option Name → List Leaf → Type 0 where
  none : ParameterName names None []
  name : (n : Name) → is_typedef_name names n.spelling ≡ false → ParameterName names (Some n) (expected DeclaredName (named n) ∷ [])

-- what is expected after a parameter: where it has neither a name nor lengths, its name
abbrev pub parameter_end : Option Name → (dimensions : List Leaf) → Role
parameter_end None [] = DeclaredName
parameter_end None (leaf ∷ dimensions) = Nothing
parameter_end (Some n) dimensions = Nothing

-- a parameter, and what is expected after it (6.7.6.3)
pub data Parameter (names : List (List ℕ)) : (depth : ℕ) → tree.Parameter → (end : Role) → List Leaf → Type 0 where
  parameter : (depth : ℕ) (specifiers : specifiers_tree) (pointers : ℕ) (n : Option Name) (is_open : Bool) (lengths : Expressions) (left stars name dimensions : List Leaf)
      → Specifiers names Elsewhere depth Alone specifiers left → Pointer pointers stars → ParameterName names n name → Dimensions names depth Alone is_open lengths dimensions
      → Parameter names depth (record { specifiers = specifiers; pointers = pointers; name = n; is_open = is_open; lengths = lengths }) (parameter_end n dimensions) (left ++ (stars ++ (name ++ dimensions)))

-- parameters with `,` between them, and what is expected after the last
pub data ParameterList (names : List (List ℕ)) : (depth : ℕ) → List tree.Parameter → (end : Role) → List Leaf → Type 0 where
  last : (depth : ℕ) (parameter : tree.Parameter) (end : Role) (text : List Leaf) → Parameter names depth parameter end text → ParameterList names depth (parameter ∷ []) end text
  more : (depth : ℕ) (parameter : tree.Parameter) (rest : List tree.Parameter) (end after : Role) (text right : List Leaf) (comma : ℕ) → Parameter names depth parameter end text → ParameterList names depth rest after right
      → ParameterList names depth (parameter ∷ rest) after (text ++ expected end (mark punctuator.Comma comma) ∷ right)

-- the keyword_at `void` alone
abbrev pub is_void : List Leaf → Bool
is_void [] = false
is_void (leaf ∷ []) = is_void_word leaf.token
  where
    is_void_token : token.Token → Bool
    is_void_token (token.Word Void) = true
    is_void_token other = false

    is_void_word : token.Placed → Bool
    is_void_word placed = is_void_token placed.token
is_void (leaf ∷ other ∷ text) = false

-- the parameters of a function, in brackets: `void` alone is no parameter
pub data Parameters (names : List (List ℕ)) : (depth : ℕ) → List tree.Parameter → (end : Role) → List Leaf → Type 0 where
  empty : (depth : ℕ) → Parameters names depth [] Nothing []
  void : (depth offset : ℕ) → Parameters names depth [] DeclaredName (plain (keyword_at Void offset) ∷ [])
  some : (depth : ℕ) (list : List tree.Parameter) (end : Role) (text : List Leaf) → ParameterList names depth list end text → is_void text ≡ false → Parameters names depth list end text

-- a function's name and type (6.7.6.3)
pub data FunctionDeclarator (names : List (List ℕ)) : (depth : ℕ) → tree.FunctionDeclarator → List Leaf → Type 0 where
  function : (depth pointers : ℕ) (n : Name) (list : List tree.Parameter) (end : Role) (stars inside : List Leaf) (offset close : ℕ) → is_typedef_name names n.spelling ≡ false → Pointer pointers stars → Parameters names (suc depth) list end inside
      → FunctionDeclarator names depth (record { pointers = pointers; name = n; parameters = list }) (stars ++ (expected DeclaredName (named n) ∷ opens (suc depth) (mark punctuator.LeftParenthesis offset) ∷ inside ++ expected end (mark punctuator.RightParenthesis close) ∷ []))

-- the initial value of a global, and what is expected after it; no tree is kept of it (6.7.9)
mutual
  pub data Initializer (names : List (List ℕ)) : (depth : ℕ) → (end : Role) → List Leaf → Type 0 where
    value : (depth : ℕ) (x : Expression) (text : List Leaf) → Conditional names depth 0 x text → Initializer names depth OperandEnd text
    empty_list : (depth offset close : ℕ) → Initializer names depth Nothing (opens (suc depth) (mark punctuator.LeftBrace offset) ∷ plain (mark punctuator.RightBrace close) ∷ [])
    list : (depth : ℕ) (end : Role) (inside : List Leaf) (offset close : ℕ) → InitializerList names (suc depth) end inside
        → Initializer names depth Nothing (opens (suc depth) (mark punctuator.LeftBrace offset) ∷ inside ++ expected end (mark punctuator.RightBrace close) ∷ [])

  -- with `,` between them and after the last or not
  pub data InitializerList (names : List (List ℕ)) : (depth : ℕ) → (end : Role) → List Leaf → Type 0 where
    last : (depth : ℕ) (end : Role) (prefix text : List Leaf) → Designation names depth prefix → Initializer names depth end text → InitializerList names depth end (prefix ++ text)
    last_comma : (depth : ℕ) (end : Role) (prefix text : List Leaf) (comma : ℕ) → Designation names depth prefix → Initializer names depth end text → InitializerList names depth Nothing (prefix ++ (text ++ expected end (mark punctuator.Comma comma) ∷ []))
    more : (depth : ℕ) (end after : Role) (prefix text right : List Leaf) (comma : ℕ) → Designation names depth prefix → Initializer names depth end text → InitializerList names depth after right
        → InitializerList names depth after (prefix ++ (text ++ expected end (mark punctuator.Comma comma) ∷ right))

  -- the member or element that a value is for: none, or designators and `=`
  pub data Designation (names : List (List ℕ)) : (depth : ℕ) → List Leaf → Type 0 where
    none : (depth : ℕ) → Designation names depth []
    some : (depth : ℕ) (text : List Leaf) (offset : ℕ) → Designators names depth text → Designation names depth (text ++ plain (mark punctuator.Assign offset) ∷ [])

  pub data Designators (names : List (List ℕ)) : (depth : ℕ) → List Leaf → Type 0 where
    one : (depth : ℕ) (text : List Leaf) → Designator names depth text → Designators names depth text
    more_designators : (depth : ℕ) (left right : List Leaf) → Designator names depth left → Designators names depth right → Designators names depth (left ++ right)

  pub data Designator (names : List (List ℕ)) : (depth : ℕ) → List Leaf → Type 0 where
    member : (depth : ℕ) (n : Name) (offset : ℕ) → Designator names depth (plain (mark punctuator.Dot offset) ∷ plain (named n) ∷ [])
    element : (depth : ℕ) (x : Expression) (inside : List Leaf) (offset close : ℕ) → Conditional names (suc depth) 0 x inside
        → Designator names depth (opens (suc depth) (mark punctuator.LeftBracket offset) ∷ inside ++ expected OperandEnd (mark punctuator.RightBracket close) ∷ [])

-- a declarator in an external declaration: with `typedef` it is no function's
pub data GlobalDeclarator (names : List (List ℕ)) : (is_typedef : Bool) → tree.Global → List Leaf → Type 0 where
  object : (is_typedef : Bool) (declarator : declarator_tree) (text : List Leaf) → Declarator names false 0 Alone declarator text → GlobalDeclarator names is_typedef (tree.Object declarator) text
  function : (declarator : tree.FunctionDeclarator) (text : List Leaf) → FunctionDeclarator names 0 declarator text → GlobalDeclarator names false (tree.Function declarator) text

abbrev pub name_of_declarator : declarator_tree → List ℕ
name_of_declarator (Declared pointers n is_open lengths) = n.spelling

abbrev pub name_of_global : tree.Global → List ℕ
name_of_global (tree.Object declarator) = name_of_declarator declarator
name_of_global (tree.Function declarator) = declarator.name.spelling

-- the typedef names after a declarator
abbrev pub names_after : (is_typedef : Bool) → tree.Global → List (List ℕ) → List (List ℕ)
names_after true global names = name_of_global global ∷ names
names_after false global names = names

-- a global and its initial value, and what is expected after it
pub data InitialDeclarator (names : List (List ℕ)) : (is_typedef : Bool) → tree.Global → (end : Role) → List Leaf → Type 0 where
  unset : (is_typedef : Bool) (global : tree.Global) (text : List Leaf) → GlobalDeclarator names is_typedef global text → InitialDeclarator names is_typedef global Nothing text
  set : (is_typedef : Bool) (global : tree.Global) (end : Role) (text right : List Leaf) (offset : ℕ) → GlobalDeclarator names is_typedef global text → Initializer (names_after is_typedef global names) 0 end right
      → InitialDeclarator names is_typedef global end (text ++ plain (mark punctuator.Assign offset) ∷ right)

-- globals with `,` between them and the `;` that follows, and the typedef names after them
pub data Globals : (names : List (List ℕ)) → (is_typedef : Bool) → List tree.Global → (after : List (List ℕ)) → List Leaf → Type 0 where
  last : (names : List (List ℕ)) (is_typedef : Bool) (global : tree.Global) (end : Role) (text : List Leaf) (close : ℕ) → InitialDeclarator names is_typedef global end text
      → Globals names is_typedef (global ∷ []) (names_after is_typedef global names) (text ++ expected end (mark punctuator.Semicolon close) ∷ [])
  more : (names : List (List ℕ)) (is_typedef : Bool) (global : tree.Global) (rest : List tree.Global) (after : List (List ℕ)) (end : Role) (text right : List Leaf) (comma : ℕ) → InitialDeclarator names is_typedef global end text → Globals (names_after is_typedef global names) is_typedef rest after right
      → Globals names is_typedef (global ∷ rest) after (text ++ expected end (mark punctuator.Comma comma) ∷ right)

abbrev pub is_typedef : specifiers_tree → Bool
is_typedef (Specified storage base offset) = storage.is_typedef

-- an external declaration, and the typedef names after it (6.9)
pub data ExternalDeclaration : (names : List (List ℕ)) → tree.ExternalDeclaration → (after : List (List ℕ)) → List Leaf → Type 0 where
  empty : (names : List (List ℕ)) (offset : ℕ) → ExternalDeclaration names tree.EmptyDeclaration names (plain (mark punctuator.Semicolon offset) ∷ [])
  nameless : (names : List (List ℕ)) (specifiers : specifiers_tree) (text : List Leaf) (end : ℕ) → Specifiers names InExternalDeclaration 0 Alone specifiers text
      → ExternalDeclaration names (tree.Declaration specifiers []) names (text ++ plain (mark punctuator.Semicolon end) ∷ [])
  declaration : (names : List (List ℕ)) (specifiers : specifiers_tree) (globals : List tree.Global) (after : List (List ℕ)) (left right : List Leaf) → Specifiers names InExternalDeclaration 0 Alone specifiers left → Globals names (is_typedef specifiers) globals after right
      → ExternalDeclaration names (tree.Declaration specifiers globals) after (left ++ right)
  definition : (names : List (List ℕ)) (specifiers : specifiers_tree) (declarator : tree.FunctionDeclarator) (body : tree.Parts) (left middle inside : List Leaf) (offset close : ℕ) → Specifiers names InExternalDeclaration 0 Alone specifiers left → is_typedef specifiers ≡ false → FunctionDeclarator names 0 declarator middle → Parts names 1 body inside
      → ExternalDeclaration names (tree.Definition specifiers declarator body close) names (left ++ (middle ++ (opens 1 (mark punctuator.LeftBrace offset) ∷ inside ++ plain (mark punctuator.RightBrace close) ∷ [])))

-- the external declarations of a unit
pub data ExternalDeclarations : (names : List (List ℕ)) → tree.TranslationUnit → List Leaf → Type 0 where
  none : (names : List (List ℕ)) → ExternalDeclarations names [] []
  some : (names : List (List ℕ)) (item : tree.ExternalDeclaration) (rest : tree.TranslationUnit) (after : List (List ℕ)) (left right : List Leaf) → ExternalDeclaration names item after left → ExternalDeclarations after rest right → ExternalDeclarations names (item ∷ rest) (left ++ right)

-- a unit; at its start no typedef name is in scope
abbrev pub Unit : tree.TranslationUnit → List Leaf → Type 0
Unit = ExternalDeclarations []
