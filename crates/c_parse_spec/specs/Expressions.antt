-- Expressions and types: which leaves derive which tree (ISO C11, 6.5 to 6.7.7). `names` are the typedef names in
-- scope, `depth` is the number of constructs that are open, and `count` the number of operators before in the same
-- whole expression. A relation has the name of C11's nonterminal where C11 has one.
use Rattle.std.specs.Prelude.{◌≡◌, ℕ, suc, ◌+◌, ◌==◌, ◌&&◌, ◌||◌, bytes_eq, Bool, true, false, List, [], ◌∷◌, ◌++◌, map, length, Option, Some, None, option_map, find, filter}
use Rattle.std.specs.List.{list_any}
use Rattle.c_token_spec.specs.declared.token.Keyword.{Keyword}
use Rattle.c_token_spec.specs.declared.token.Keyword.TheVariants.{Char, Const, Enum, Extern, Inline, Int, Long, Short, Signed, Sizeof, Static, Struct, Typedef, Unsigned, Void}
use Rattle.c_token_spec.specs.declared.token.Punctuator.{Punctuator}
use Rattle.c_token_spec.specs.declared.token.Punctuator.TheVariants as punctuator
use Rattle.c_token_spec.specs.declared.token.NumberType.{NumberType}
use Rattle.c_syntax_spec.specs.declared.BinaryOperator.{BinaryOperator}
use Rattle.c_syntax_spec.specs.declared.BinaryOperator.TheVariants.{LogicalOr, LogicalAnd, BitOr, BitXor, BitAnd, Equal, NotEqual, Less, Greater, LessOrEqual, GreaterOrEqual, ShiftLeft, ShiftRight, Add, Subtract, Multiply, Divide, Remainder}
use Rattle.c_syntax_spec.specs.declared.UnaryOperator.{UnaryOperator}
use Rattle.c_syntax_spec.specs.declared.UnaryOperator.TheVariants.{AddressOf, Dereference, Plus, Minus, Complement, Not}
use Rattle.c_syntax_spec.specs.declared.Access.{Access}
use Rattle.c_syntax_spec.specs.declared.Access.TheVariants.{Dot, Arrow}
use Rattle.c_syntax_spec.specs.declared.IntegerType.{IntegerType}
use Rattle.c_syntax_spec.specs.declared.IntegerType.TheVariants as integer
use Rattle.c_syntax_spec.specs.Expression as tree
use Rattle.c_parse_spec.specs.declared.Role.{Role}
use Rattle.c_parse_spec.specs.declared.Role.TheVariants.{Nothing, DeclaredName, MemberEnd, OperandEnd}
use Rattle.c_parse_spec.specs.Leaves.{Leaf, plain, expected, opens, operates, brackets, mark, keyword_at, named, number, character, first_offset}

-- the name is a typedef name
abbrev pub is_typedef_name : (names : List (List ℕ)) → (spelling : List ℕ) → Bool
is_typedef_name names spelling = list_any (λ name. bytes_eq name spelling) names

-- the tokens of operators
abbrev pub access_mark : Access → Punctuator
access_mark Dot = punctuator.Dot
access_mark Arrow = punctuator.Arrow

abbrev pub unary_mark : UnaryOperator → Punctuator
unary_mark AddressOf = punctuator.Ampersand
unary_mark Dereference = punctuator.Star
unary_mark Plus = punctuator.Plus
unary_mark Minus = punctuator.Minus
unary_mark Complement = punctuator.Tilde
unary_mark Not = punctuator.Exclamation

abbrev pub binary_mark : BinaryOperator → Punctuator
binary_mark LogicalOr = punctuator.LogicalOr
binary_mark LogicalAnd = punctuator.LogicalAnd
binary_mark BitOr = punctuator.Bar
binary_mark BitXor = punctuator.Caret
binary_mark BitAnd = punctuator.Ampersand
binary_mark Equal = punctuator.Equals
binary_mark NotEqual = punctuator.NotEquals
binary_mark Less = punctuator.LessThan
binary_mark Greater = punctuator.GreaterThan
binary_mark LessOrEqual = punctuator.LessOrEqual
binary_mark GreaterOrEqual = punctuator.GreaterOrEqual
binary_mark ShiftLeft = punctuator.ShiftLeft
binary_mark ShiftRight = punctuator.ShiftRight
binary_mark Add = punctuator.Plus
binary_mark Subtract = punctuator.Minus
binary_mark Multiply = punctuator.Star
binary_mark Divide = punctuator.Slash
binary_mark Remainder = punctuator.Percent

-- how tightly an operator binds: the multiplicative ones at 1 (6.5.5) up to `||` at 10 (6.5.14)
abbrev pub level_of : BinaryOperator → ℕ
level_of Multiply = 1
level_of Divide = 1
level_of Remainder = 1
level_of Add = 2
level_of Subtract = 2
level_of ShiftLeft = 3
level_of ShiftRight = 3
level_of Less = 4
level_of Greater = 4
level_of LessOrEqual = 4
level_of GreaterOrEqual = 4
level_of Equal = 5
level_of NotEqual = 5
level_of BitAnd = 6
level_of BitXor = 7
level_of BitOr = 8
level_of LogicalAnd = 9
level_of LogicalOr = 10

-- How many operators an expression has: its operator tokens, with the brackets `(` and `[`, `?` and `sizeof`.
-- Those of the lengths and values that its types give are among them.
abbrev mutual
  pub operators : tree.Expression → ℕ
  operators (tree.Named name) = 0
  operators (tree.Number value type offset) = 0
  operators (tree.Character value offset) = 0
  operators (tree.Bracketed inner offset) = suc (operators inner)
  operators (tree.Index base index offset) = operators base + suc (operators index)
  operators (tree.Member base access member offset) = suc (operators base)
  operators (tree.Unary operator operand offset) = suc (operators operand)
  operators (tree.Sizeof operand offset) = suc (operators operand)
  operators (tree.SizeofType type offset) = suc (suc (operators_of_type type))
  operators (tree.Cast type operand offset) = suc (operators_of_type type + operators operand)
  operators (tree.Binary operator left right offset) = operators left + suc (operators right)
  operators (tree.Conditional test first second offset) = operators test + suc (operators first + operators second)

  pub operators_of_type : tree.TypeName → ℕ
  operators_of_type (tree.Pointers specifiers pointers) = operators_of_specifiers specifiers

  pub operators_of_specifiers : tree.Specifiers → ℕ
  operators_of_specifiers (tree.Specified storage base offset) = operators_of_type_specifier base

  pub operators_of_type_specifier : tree.TypeSpecifier → ℕ
  operators_of_type_specifier tree.Void = 0
  operators_of_type_specifier (tree.Integer type) = 0
  operators_of_type_specifier (tree.TypedefName name) = 0
  operators_of_type_specifier (tree.StructTag tag) = 0
  operators_of_type_specifier (tree.Struct tag inside) = operators_of_members inside
  operators_of_type_specifier (tree.EnumTag tag) = 0
  operators_of_type_specifier (tree.Enum tag inside) = operators_of_constants inside

  pub operators_of_members : tree.Members → ℕ
  operators_of_members tree.no_members = 0
  operators_of_members (tree.members specifiers declared rest) = operators_of_specifiers specifiers + operators_of_declarators declared + operators_of_members rest

  pub operators_of_declarators : tree.Declarators → ℕ
  operators_of_declarators tree.no_declarators = 0
  operators_of_declarators (tree.declarators declarator rest) = operators_of_declarator declarator + operators_of_declarators rest

  pub operators_of_declarator : tree.Declarator → ℕ
  operators_of_declarator (tree.Declared pointers name is_open lengths) = operators_of_lengths lengths

  pub operators_of_lengths : tree.Expressions → ℕ
  operators_of_lengths tree.no_expressions = 0
  operators_of_lengths (tree.expressions length rest) = operators length + operators_of_lengths rest

  pub operators_of_constants : tree.Constants → ℕ
  operators_of_constants tree.no_constants = 0
  operators_of_constants (tree.constants name rest) = operators_of_constants rest
  operators_of_constants (tree.constants_with name value rest) = operators value + operators_of_constants rest

-- Which whole expression the lengths and enumeration values of a type belong to: in a declaration each is one of
-- its own; in the type of a cast or of `sizeof` they belong to the expression around, of which so many operators
-- precede.
pub data Counting : Type 0 where
  Alone : Counting
  Within : (count : ℕ) → Counting

-- how many operators there are before, in the same whole expression
abbrev pub count_at : Counting → ℕ
count_at Alone = 0
count_at (Within count) = count

-- with so many more before
abbrev pub advance : Counting → (more : ℕ) → Counting
advance Alone more = Alone
advance (Within count) more = Within (count + more)

-- where specifiers occur: directly in an external declaration, directly in a declaration of locals, or elsewhere
pub data Position : Type 0 where
  InExternalDeclaration : Position
  InLocalDeclaration : Position
  Elsewhere : Position

-- storage-class specifiers that are given twice count once
abbrev pub both : tree.Storage → tree.Storage → tree.Storage
both one two = record { is_typedef = one.is_typedef || two.is_typedef; is_static = one.is_static || two.is_static }

-- the storage-class specifiers, qualifiers and function specifiers before or after a type specifier (6.7.1, 6.7.3,
-- 6.7.4)
pub data Words : Position → tree.Storage → List Leaf → Type 0 where
  none : (position : Position) → Words position (record { is_typedef = false; is_static = false }) []
  const : (position : Position) (storage : tree.Storage) (text : List Leaf) (offset : ℕ) → Words position storage text → Words position storage (plain (keyword_at Const offset) ∷ text)
  typedef : (storage : tree.Storage) (text : List Leaf) (offset : ℕ) → Words InExternalDeclaration storage text → Words InExternalDeclaration (record { is_typedef = true; is_static = storage.is_static }) (plain (keyword_at Typedef offset) ∷ text)
  extern : (storage : tree.Storage) (text : List Leaf) (offset : ℕ) → Words InExternalDeclaration storage text → Words InExternalDeclaration storage (plain (keyword_at Extern offset) ∷ text)
  inline : (storage : tree.Storage) (text : List Leaf) (offset : ℕ) → Words InExternalDeclaration storage text → Words InExternalDeclaration storage (plain (keyword_at Inline offset) ∷ text)
  static_external : (storage : tree.Storage) (text : List Leaf) (offset : ℕ) → Words InExternalDeclaration storage text → Words InExternalDeclaration (record { is_typedef = storage.is_typedef; is_static = true }) (plain (keyword_at Static offset) ∷ text)
  static_local : (storage : tree.Storage) (text : List Leaf) (offset : ℕ) → Words InLocalDeclaration storage text → Words InLocalDeclaration (record { is_typedef = storage.is_typedef; is_static = true }) (plain (keyword_at Static offset) ∷ text)

-- which keywords name an integer type (6.7.2)
abbrev pub combinations : List (List Keyword × IntegerType)
combinations =
    (Char ∷ [], integer.Char)
    ∷ (Signed ∷ Char ∷ [], integer.SignedChar)
    ∷ (Unsigned ∷ Char ∷ [], integer.UnsignedChar)
    ∷ (Short ∷ [], integer.Short) ∷ (Signed ∷ Short ∷ [], integer.Short) ∷ (Short ∷ Int ∷ [], integer.Short) ∷ (Signed ∷ Short ∷ Int ∷ [], integer.Short)
    ∷ (Unsigned ∷ Short ∷ [], integer.UnsignedShort) ∷ (Unsigned ∷ Short ∷ Int ∷ [], integer.UnsignedShort)
    ∷ (Int ∷ [], integer.Int) ∷ (Signed ∷ [], integer.Int) ∷ (Signed ∷ Int ∷ [], integer.Int)
    ∷ (Unsigned ∷ [], integer.UnsignedInt) ∷ (Unsigned ∷ Int ∷ [], integer.UnsignedInt)
    ∷ (Long ∷ [], integer.Long) ∷ (Signed ∷ Long ∷ [], integer.Long) ∷ (Long ∷ Int ∷ [], integer.Long) ∷ (Signed ∷ Long ∷ Int ∷ [], integer.Long)
    ∷ (Unsigned ∷ Long ∷ [], integer.UnsignedLong) ∷ (Unsigned ∷ Long ∷ Int ∷ [], integer.UnsignedLong)
    ∷ (Long ∷ Long ∷ [], integer.LongLong) ∷ (Signed ∷ Long ∷ Long ∷ [], integer.LongLong) ∷ (Long ∷ Long ∷ Int ∷ [], integer.LongLong) ∷ (Signed ∷ Long ∷ Long ∷ Int ∷ [], integer.LongLong)
    ∷ (Unsigned ∷ Long ∷ Long ∷ [], integer.UnsignedLongLong) ∷ (Unsigned ∷ Long ∷ Long ∷ Int ∷ [], integer.UnsignedLongLong)
    ∷ []

-- tests of one keyword
abbrev pub is_char : Keyword → Bool
is_char Char = true
is_char other = false

abbrev pub is_signed : Keyword → Bool
is_signed Signed = true
is_signed other = false

abbrev pub is_unsigned : Keyword → Bool
is_unsigned Unsigned = true
is_unsigned other = false

abbrev pub is_short : Keyword → Bool
is_short Short = true
is_short other = false

abbrev pub is_int : Keyword → Bool
is_int Int = true
is_int other = false

abbrev pub is_long : Keyword → Bool
is_long Long = true
is_long other = false

-- the test holds equally often in both lists
abbrev pub same_counts : (test : Keyword → Bool) → List Keyword → List Keyword → Bool
same_counts test one two = length (filter test one) == length (filter test two)

-- the same words in any order
abbrev pub same_words : List Keyword → List Keyword → Bool
same_words one two =
    (length one == length two) && same_counts is_char one two && same_counts is_signed one two && same_counts is_unsigned one two
    && same_counts is_short one two && same_counts is_int one two && same_counts is_long one two

-- the integer type that words name, in any order
unfoldable pub integer_type_of : List Keyword → Option IntegerType
integer_type_of words = option_map (λ entry. entry.1) (find (λ entry. same_words entry.0 words) combinations)

-- `const`, any number of times
pub data Consts : List Leaf → Type 0 where
  none : Consts []
  const : (text : List Leaf) (offset : ℕ) → Consts text → Consts (plain (keyword_at Const offset) ∷ text)

-- so many `*`, each followed by any number of `const` (6.7.6)
pub data Pointer : (pointers : ℕ) → List Leaf → Type 0 where
  none : Pointer 0 []
  star : (pointers offset : ℕ) (consts text : List Leaf) → Consts consts → Pointer pointers text → Pointer (suc pointers) (plain (mark punctuator.Star offset) ∷ consts ++ text)

-- a tag, or none
pub data Tag (names : List (List ℕ)) : Option tree.Name → List Leaf → Type 0 where
  none : Tag names None []
  tag : (name : tree.Name) → is_typedef_name names name.spelling ≡ false → Tag names (Some name) (plain (named name) ∷ [])

-- a declared name: a member may have a typedef name
abbrev pub can_declare : (is_member : Bool) → (names : List (List ℕ)) → (spelling : List ℕ) → Bool
can_declare true names spelling = true
can_declare false names spelling = not_type (is_typedef_name names spelling)
  where
    not_type : Bool → Bool
    not_type true = false
    not_type false = true

-- what is expected after a member's declarator: where it is no array it ends directly after the name
abbrev pub member_end : tree.Declarator → Role
member_end (tree.Declared pointers name true lengths) = Nothing
member_end (tree.Declared pointers name false tree.no_expressions) = MemberEnd
member_end (tree.Declared pointers name false (tree.expressions length rest)) = Nothing

mutual
  -- 6.5.1
  pub data Primary (names : List (List ℕ)) : (depth count : ℕ) → tree.Expression → List Leaf → Type 0 where
    name : (depth count : ℕ) (n : tree.Name) → is_typedef_name names n.spelling ≡ false → Primary names depth count (tree.Named n) (plain (named n) ∷ [])
    constant : (depth count value : ℕ) (type : NumberType) (offset : ℕ) → Primary names depth count (tree.Number value type offset) (plain (number value type offset) ∷ [])
    character_constant : (depth count value offset : ℕ) → Primary names depth count (tree.Character value offset) (plain (character value offset) ∷ [])
    bracketed : (depth count : ℕ) (x : tree.Expression) (inside : List Leaf) (offset close : ℕ) → Conditional names (suc depth) (suc count) x inside
        → Primary names depth count (tree.Bracketed x offset) (brackets (suc depth) (suc count) (mark punctuator.LeftParenthesis offset) ∷ inside ++ expected OperandEnd (mark punctuator.RightParenthesis close) ∷ [])

  -- 6.5.2
  pub data Postfix (names : List (List ℕ)) : (depth count : ℕ) → tree.Expression → List Leaf → Type 0 where
    primary : (depth count : ℕ) (x : tree.Expression) (text : List Leaf) → Primary names depth count x text → Postfix names depth count x text
    index : (depth count : ℕ) (base i : tree.Expression) (prefix inside : List Leaf) (offset close : ℕ) → Postfix names depth count base prefix → Conditional names (suc depth) (suc (count + operators base)) i inside
        → Postfix names depth count (tree.Index base i offset) (prefix ++ (brackets (suc depth) (suc (count + operators base)) (mark punctuator.LeftBracket offset) ∷ inside ++ expected OperandEnd (mark punctuator.RightBracket close) ∷ []))
    member : (depth count : ℕ) (base : tree.Expression) (access : Access) (n : tree.Name) (prefix : List Leaf) (offset : ℕ) → Postfix names depth count base prefix
        → Postfix names depth count (tree.Member base access n offset) (prefix ++ operates (suc (count + operators base)) (mark (access_mark access) offset) ∷ plain (named n) ∷ [])

  -- 6.5.3
  pub data Unary (names : List (List ℕ)) : (depth count : ℕ) → tree.Expression → List Leaf → Type 0 where
    postfix : (depth count : ℕ) (x : tree.Expression) (text : List Leaf) → Postfix names depth count x text → Unary names depth count x text
    prefixed : (depth count : ℕ) (operator : UnaryOperator) (x : tree.Expression) (text : List Leaf) (offset : ℕ) → Cast names depth (suc count) x text
        → Unary names depth count (tree.Unary operator x offset) (operates (suc count) (mark (unary_mark operator) offset) ∷ text)
    sizeof_expression : (depth count : ℕ) (x : tree.Expression) (text : List Leaf) (offset : ℕ) → Unary names depth (suc count) x text
        → Unary names depth count (tree.Sizeof x offset) (operates (suc count) (keyword_at Sizeof offset) ∷ text)
    sizeof_type : (depth count : ℕ) (type : tree.TypeName) (text : List Leaf) (offset open_offset close : ℕ) → TypeName names (suc depth) (Within (suc (suc count))) type text
        → Unary names depth count (tree.SizeofType type offset) (operates (suc count) (keyword_at Sizeof offset) ∷ brackets (suc depth) (suc (suc count)) (mark punctuator.LeftParenthesis open_offset) ∷ text ++ plain (mark punctuator.RightParenthesis close) ∷ [])

  -- 6.5.4
  pub data Cast (names : List (List ℕ)) : (depth count : ℕ) → tree.Expression → List Leaf → Type 0 where
    unary : (depth count : ℕ) (x : tree.Expression) (text : List Leaf) → Unary names depth count x text → Cast names depth count x text
    cast : (depth count : ℕ) (type : tree.TypeName) (x : tree.Expression) (inside text : List Leaf) (offset close : ℕ) → TypeName names (suc depth) (Within (suc count)) type inside → Cast names depth (suc count + operators_of_type type) x text
        → Cast names depth count (tree.Cast type x offset) (brackets (suc depth) (suc count) (mark punctuator.LeftParenthesis offset) ∷ inside ++ plain (mark punctuator.RightParenthesis close) ∷ text)

  -- 6.5.5 to 6.5.14: the operands and operators of the levels up to this one, each level from the left
  pub data Binary (names : List (List ℕ)) : (level depth count : ℕ) → tree.Expression → List Leaf → Type 0 where
    operand : (depth count : ℕ) (x : tree.Expression) (text : List Leaf) → Cast names depth count x text → Binary names 0 depth count x text
    tighter : (level depth count : ℕ) (x : tree.Expression) (text : List Leaf) → Binary names level depth count x text → Binary names (suc level) depth count x text
    operation : (level depth count : ℕ) (operator : BinaryOperator) (x y : tree.Expression) (left right : List Leaf) (offset : ℕ) → level_of operator ≡ suc level
        → Binary names (suc level) depth count x left → Binary names level depth (suc (count + operators x)) y right
        → Binary names (suc level) depth count (tree.Binary operator x y offset) (left ++ operates (suc (count + operators x)) (mark (binary_mark operator) offset) ∷ right)

  -- 6.5.15
  pub data Conditional (names : List (List ℕ)) : (depth count : ℕ) → tree.Expression → List Leaf → Type 0 where
    logical_or : (depth count : ℕ) (x : tree.Expression) (text : List Leaf) → Binary names 10 depth count x text → Conditional names depth count x text
    conditional : (depth count : ℕ) (x y z : tree.Expression) (test first second : List Leaf) (offset colon : ℕ) → Binary names 10 depth count x test
        → Conditional names depth (suc (count + operators x)) y first → Conditional names depth (suc (count + operators x) + operators y) z second
        → Conditional names depth count (tree.Conditional x y z offset) (test ++ (operates (suc (count + operators x)) (mark punctuator.Question offset) ∷ first ++ expected OperandEnd (mark punctuator.Colon colon) ∷ second))

  -- 6.7.7: the type of a cast or of `sizeof`
  pub data TypeName (names : List (List ℕ)) : (depth : ℕ) → (counting : Counting) → tree.TypeName → List Leaf → Type 0 where
    type_name : (depth : ℕ) (counting : Counting) (specifiers : tree.Specifiers) (pointers : ℕ) (left stars : List Leaf) → Specifiers names Elsewhere depth counting specifiers left → Pointer pointers stars
        → TypeName names depth counting (tree.Pointers specifiers pointers) (left ++ stars)

  -- 6.7: one type specifier, and other specifiers before and after it
  pub data Specifiers (names : List (List ℕ)) : Position → (depth : ℕ) → (counting : Counting) → tree.Specifiers → List Leaf → Type 0 where
    specifiers : (position : Position) (depth : ℕ) (counting : Counting) (one two : tree.Storage) (base : tree.TypeSpecifier) (before middle after : List Leaf) → Words position one before → TypeSpecifier names depth counting base middle → Words position two after
        → Specifiers names position depth counting (tree.Specified (both one two) base (first_offset (before ++ middle))) (before ++ (middle ++ after))

  -- 6.7.2
  pub data TypeSpecifier (names : List (List ℕ)) : (depth : ℕ) → (counting : Counting) → tree.TypeSpecifier → List Leaf → Type 0 where
    void : (depth : ℕ) (counting : Counting) (offset : ℕ) → TypeSpecifier names depth counting tree.Void (plain (keyword_at Void offset) ∷ [])
    integer_type : (depth : ℕ) (counting : Counting) (type : IntegerType) (words : List (Keyword × ℕ)) → integer_type_of (map (λ w. w.0) words) ≡ Some type
        → TypeSpecifier names depth counting (tree.Integer type) (map (λ w. plain (keyword_at w.0 w.1)) words)
    typedef_name : (depth : ℕ) (counting : Counting) (n : tree.Name) → is_typedef_name names n.spelling ≡ true → TypeSpecifier names depth counting (tree.TypedefName n) (plain (named n) ∷ [])
    struct_tag : (depth : ℕ) (counting : Counting) (n : tree.Name) (offset : ℕ) → is_typedef_name names n.spelling ≡ false → TypeSpecifier names depth counting (tree.StructTag n) (plain (keyword_at Struct offset) ∷ plain (named n) ∷ [])
    struct : (depth : ℕ) (counting : Counting) (tag : Option tree.Name) (members : tree.Members) (name inside : List Leaf) (offset open_offset close : ℕ) → Tag names tag name → Members names (suc depth) counting members inside
        → TypeSpecifier names depth counting (tree.Struct tag members) (plain (keyword_at Struct offset) ∷ name ++ (opens (suc depth) (mark punctuator.LeftBrace open_offset) ∷ inside ++ plain (mark punctuator.RightBrace close) ∷ []))
    enum_tag : (depth : ℕ) (counting : Counting) (n : tree.Name) (offset : ℕ) → is_typedef_name names n.spelling ≡ false → TypeSpecifier names depth counting (tree.EnumTag n) (plain (keyword_at Enum offset) ∷ plain (named n) ∷ [])
    enum : (depth : ℕ) (counting : Counting) (tag : Option tree.Name) (constants : tree.Constants) (name inside : List Leaf) (end : Role) (offset open_offset close : ℕ) → Tag names tag name → Constants names (suc depth) counting constants end inside
        → TypeSpecifier names depth counting (tree.Enum tag constants) (plain (keyword_at Enum offset) ∷ name ++ (opens (suc depth) (mark punctuator.LeftBrace open_offset) ∷ inside ++ expected end (mark punctuator.RightBrace close) ∷ []))

  -- 6.7.2.1: declarations of members
  pub data Members (names : List (List ℕ)) : (depth : ℕ) → (counting : Counting) → tree.Members → List Leaf → Type 0 where
    no_members : (depth : ℕ) (counting : Counting) → Members names depth counting tree.no_members []
    members : (depth : ℕ) (counting : Counting) (specifiers : tree.Specifiers) (declarators : tree.Declarators) (rest : tree.Members) (left middle right : List Leaf) → Specifiers names Elsewhere depth counting specifiers left → MemberDeclarators names depth (advance counting (operators_of_specifiers specifiers)) declarators middle
        → Members names depth (advance counting (operators_of_specifiers specifiers + operators_of_declarators declarators)) rest right
        → Members names depth counting (tree.members specifiers declarators rest) (left ++ (middle ++ right))

  -- declarators of members with `,` between them, and the `;` that follows
  pub data MemberDeclarators (names : List (List ℕ)) : (depth : ℕ) → (counting : Counting) → tree.Declarators → List Leaf → Type 0 where
    last_member : (depth : ℕ) (counting : Counting) (declarator : tree.Declarator) (text : List Leaf) (end : ℕ) → Declarator names true depth counting declarator text
        → MemberDeclarators names depth counting (tree.declarators declarator tree.no_declarators) (text ++ expected (member_end declarator) (mark punctuator.Semicolon end) ∷ [])
    more_members : (depth : ℕ) (counting : Counting) (declarator : tree.Declarator) (rest : tree.Declarators) (text right : List Leaf) (comma : ℕ) → Declarator names true depth counting declarator text → MemberDeclarators names depth (advance counting (operators_of_declarator declarator)) rest right
        → MemberDeclarators names depth counting (tree.declarators declarator rest) (text ++ plain (mark punctuator.Comma comma) ∷ right)

  -- 6.7.6: a name and its type, which is no function's
  pub data Declarator (names : List (List ℕ)) : (is_member : Bool) → (depth : ℕ) → (counting : Counting) → tree.Declarator → List Leaf → Type 0 where
    declarator : (is_member : Bool) (depth : ℕ) (counting : Counting) (pointers : ℕ) (n : tree.Name) (is_open : Bool) (lengths : tree.Expressions) (stars dimensions : List Leaf) → can_declare is_member names n.spelling ≡ true → Pointer pointers stars → Dimensions names depth counting is_open lengths dimensions
        → Declarator names is_member depth counting (tree.Declared pointers n is_open lengths) (stars ++ expected DeclaredName (named n) ∷ dimensions)

  -- the lengths of an array: none, or each in brackets, of which the first may be left out
  pub data Dimensions (names : List (List ℕ)) : (depth : ℕ) → (counting : Counting) → (is_open : Bool) → tree.Expressions → List Leaf → Type 0 where
    given : (depth : ℕ) (counting : Counting) (lengths : tree.Expressions) (text : List Leaf) → Lengths names depth counting lengths text → Dimensions names depth counting false lengths text
    left_out : (depth : ℕ) (counting : Counting) (lengths : tree.Expressions) (text : List Leaf) (offset close : ℕ) → Lengths names depth counting lengths text
        → Dimensions names depth counting true lengths (opens (suc depth) (mark punctuator.LeftBracket offset) ∷ plain (mark punctuator.RightBracket close) ∷ text)

  pub data Lengths (names : List (List ℕ)) : (depth : ℕ) → (counting : Counting) → tree.Expressions → List Leaf → Type 0 where
    no_lengths : (depth : ℕ) (counting : Counting) → Lengths names depth counting tree.no_expressions []
    some_length : (depth : ℕ) (counting : Counting) (x : tree.Expression) (rest : tree.Expressions) (inside right : List Leaf) (offset close : ℕ) → Conditional names (suc depth) (count_at counting) x inside → Lengths names depth (advance counting (operators x)) rest right
        → Lengths names depth counting (tree.expressions x rest) (opens (suc depth) (mark punctuator.LeftBracket offset) ∷ inside ++ expected OperandEnd (mark punctuator.RightBracket close) ∷ right)

  -- 6.7.2.2: constants with `,` between them and after the last or not, and what is expected after them
  pub data Constants (names : List (List ℕ)) : (depth : ℕ) → (counting : Counting) → tree.Constants → (end : Role) → List Leaf → Type 0 where
    last : (depth : ℕ) (counting : Counting) (n : tree.Name) → is_typedef_name names n.spelling ≡ false → Constants names depth counting (tree.constants n tree.no_constants) Nothing (plain (named n) ∷ [])
    last_comma : (depth : ℕ) (counting : Counting) (n : tree.Name) (comma : ℕ) → is_typedef_name names n.spelling ≡ false → Constants names depth counting (tree.constants n tree.no_constants) Nothing (plain (named n) ∷ plain (mark punctuator.Comma comma) ∷ [])
    more : (depth : ℕ) (counting : Counting) (n : tree.Name) (rest : tree.Constants) (end : Role) (right : List Leaf) (comma : ℕ) → is_typedef_name names n.spelling ≡ false → Constants names depth counting rest end right
        → Constants names depth counting (tree.constants n rest) end (plain (named n) ∷ plain (mark punctuator.Comma comma) ∷ right)
    last_with : (depth : ℕ) (counting : Counting) (n : tree.Name) (x : tree.Expression) (value : List Leaf) (offset : ℕ) → is_typedef_name names n.spelling ≡ false → Conditional names depth (count_at counting) x value
        → Constants names depth counting (tree.constants_with n x tree.no_constants) OperandEnd (plain (named n) ∷ plain (mark punctuator.Assign offset) ∷ value)
    last_with_comma : (depth : ℕ) (counting : Counting) (n : tree.Name) (x : tree.Expression) (value : List Leaf) (offset comma : ℕ) → is_typedef_name names n.spelling ≡ false → Conditional names depth (count_at counting) x value
        → Constants names depth counting (tree.constants_with n x tree.no_constants) Nothing (plain (named n) ∷ plain (mark punctuator.Assign offset) ∷ value ++ plain (mark punctuator.Comma comma) ∷ [])
    more_with : (depth : ℕ) (counting : Counting) (n : tree.Name) (x : tree.Expression) (rest : tree.Constants) (end : Role) (value right : List Leaf) (offset comma : ℕ) → is_typedef_name names n.spelling ≡ false → Conditional names depth (count_at counting) x value → Constants names depth (advance counting (operators x)) rest end right
        → Constants names depth counting (tree.constants_with n x rest) end (plain (named n) ∷ plain (mark punctuator.Assign offset) ∷ value ++ plain (mark punctuator.Comma comma) ∷ right)
