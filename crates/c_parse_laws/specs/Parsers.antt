-- Parsers of expressions on lists of tokens. `names` are the typedef names in scope, `depth` is the
-- number of constructs that are open around, `count` the number of operators before in the same expression.
use Rattle.std.specs.Prelude.{ℕ, zero, suc, ◌+◌, Bool, false, if◌then◌else◌, List, [], ◌∷◌, Option, Ok}
use Rattle.std.specs.Option.{is_some}
use Rattle.c_token_spec.specs.declared.token.Punctuator.TheVariants as punctuator
use Rattle.c_token_spec.specs.Lexical.{Placed, Token}
use Rattle.c_syntax_spec.specs.declared.BinaryOperator.{BinaryOperator}
use Rattle.c_syntax_spec.specs.declared.Access.{Access}
use Rattle.c_syntax_spec.specs.Expression as tree
use Rattle.c_parse_spec.specs.declared.Role.{Role}
use Rattle.c_parse_spec.specs.declared.Role.TheVariants.{Nothing, OperandEnd}
use Rattle.c_parse_spec.specs.Leaves.{Leaf, plain, expected, operates, brackets, marks}
use Rattle.c_parse_spec.specs.Expressions.{operators, operators_of_type, Counting, Within}
use Rattle.exact_read.specs.Reading.{Parser}
use Rattle.exact_read.specs.Grammar.{bind, read_one, read_map, read_nothing}
use Rattle.exact_read.specs.Folds.{read_after, read_folded}
use Rattle.c_parse_laws.specs.Classes.{is_mark, mark_offset, is_sizeof, sizeof_offset, name_at, atom_at, unary_operator, access_operator, binary_operator, with_offset, is_level, of_level, is_suffix, begins_type}
use Rattle.c_parse_laws.specs.Stops.{ends_postfix}

-- the parsers of the parts of an expression
pub record Parsers : Type 0 where
  pub cast : (depth count : ℕ) → Parser Placed Role tree.Expression
  -- a unary expression that begins with no bracket
  pub unary : (depth count : ℕ) → Parser Placed Role tree.Expression
  pub conditional : (depth count : ℕ) → Parser Placed Role tree.Expression
  pub specifiers : (depth : ℕ) → (counting : Counting) → Parser Placed Role tree.Specifiers
  pub type_name : (depth : ℕ) → (counting : Counting) → Parser Placed Role tree.TypeName

-- one token of a class
abbrev pub token : {X : Type 0} → (role : Role) → (as_leaf : Placed → Leaf) → (class : Placed → Option X) → Parser Placed Role X
token role as_leaf class = read_one marks as_leaf class role

-- a part whose value is dropped, and then another
abbrev pub following : {X Y : Type 0} → Parser Placed Role X → (X → Parser Placed Role Y) → Parser Placed Role Y
following first second tokens = bind (first tokens) (λ x rest. second x rest)

-- a part, and then another whose value is dropped
abbrev pub before : {X Y : Type 0} → Parser Placed Role X → Parser Placed Role Y → Parser Placed Role X
before first second tokens = bind (first tokens) (λ x rest. bind (second rest) (λ _ after. Ok (x, after)))

-- the next token passes a test; at the end none does
abbrev pub next_is : (test : Token → Bool) → List Placed → Bool
next_is test [] = false
next_is test (first ∷ rest) = test first.token

-- by the next token
abbrev pub choose : {X : Type 0} → (test : Token → Bool) → Parser Placed Role X → Parser Placed Role X → Parser Placed Role X
choose test first second tokens = if next_is test tokens then first tokens else second tokens

-- what can follow a postfix expression (6.5.2)
pub data Suffix : Type 0 where
  ByIndex : (index : tree.Expression) → (offset : ℕ) → Suffix
  ByMember : (access : Access) → (member : tree.Name) → (offset : ℕ) → Suffix

abbrev pub with_suffix : tree.Expression → Suffix → tree.Expression
with_suffix base (ByIndex index offset) = tree.Index base index offset
with_suffix base (ByMember access member offset) = tree.Member base access member offset

-- how many operators there are up to the end of a suffix
abbrev pub count_suffix : ℕ → Suffix → ℕ
count_suffix count (ByIndex index offset) = count + suc (operators index)
count_suffix count (ByMember access member offset) = suc count

abbrev pub read_index : Parsers → (depth count : ℕ) → Parser Placed Role Suffix
read_index inner depth count =
    following (token Nothing (brackets (suc depth) (suc count)) (mark_offset punctuator.LeftBracket))
    (λ offset. read_map (λ index. ByIndex index offset) (before (inner.conditional (suc depth) (suc count)) (token OperandEnd (expected OperandEnd) (mark_offset punctuator.RightBracket))))

abbrev pub read_member : (count : ℕ) → Parser Placed Role Suffix
read_member count =
    following (token Nothing (operates (suc count)) (with_offset access_operator)) (λ access. read_map (λ name. ByMember access.0 name access.1) (token Nothing plain name_at))

abbrev pub read_suffix : Parsers → (depth count : ℕ) → Parser Placed Role Suffix
read_suffix inner depth count = choose (is_mark punctuator.LeftBracket) (read_index inner depth count) (read_member count)

abbrev pub starts_suffix : ℕ → Placed → Bool
starts_suffix count next = is_suffix next.token

-- what follows a first part, together with it
abbrev pub read_suffixes_after : Parsers → (depth count : ℕ) → tree.Expression → Parser Placed Role tree.Expression
read_suffixes_after inner depth count first = read_after starts_suffix (λ c. read_suffix inner depth (count + c)) count_suffix with_suffix operators first

abbrev pub read_suffixes : Parsers → (depth count : ℕ) → Parser Placed Role tree.Expression → Parser Placed Role tree.Expression
read_suffixes inner depth count first = read_folded starts_suffix (λ c. read_suffix inner depth (count + c)) count_suffix with_suffix operators first

-- 6.5.1: a name or a constant, and what follows it
abbrev pub read_postfix : (names : List (List ℕ)) → Parsers → (depth count : ℕ) → Parser Placed Role tree.Expression
read_postfix names inner depth count = read_suffixes inner depth count (token Nothing plain (atom_at names))

-- after `(` at this offset: an expression, its bracket, and what follows it
abbrev pub read_inside : Parsers → (depth count offset : ℕ) → Parser Placed Role tree.Expression
read_inside inner depth count offset =
    read_map (λ x. tree.Bracketed x offset) (before (inner.conditional (suc depth) (suc count)) (token OperandEnd (expected OperandEnd) (mark_offset punctuator.RightParenthesis)))

abbrev pub read_bracketed : Parsers → (depth count offset : ℕ) → Parser Placed Role tree.Expression
read_bracketed inner depth count offset = read_suffixes inner depth count (read_inside inner depth count offset)

abbrev pub read_open : (depth count : ℕ) → Parser Placed Role ℕ
read_open depth count = token Nothing (brackets (suc depth) (suc count)) (mark_offset punctuator.LeftParenthesis)

-- a type after `(`, and its bracket
abbrev pub read_type : Parsers → (depth count : ℕ) → Parser Placed Role tree.TypeName
read_type inner depth count = before (inner.type_name (suc depth) (Within count)) (token Nothing plain (mark_offset punctuator.RightParenthesis))

-- 6.5.3: what follows `sizeof` at this offset
abbrev pub read_sized : (names : List (List ℕ)) → Parsers → (depth count offset : ℕ) → Parser Placed Role tree.Expression
read_sized names inner depth count offset =
    choose (is_mark punctuator.LeftParenthesis)
    (following (read_open depth count) (λ opened. choose (begins_type names)
    (read_map (λ type. tree.SizeofType type offset) (read_type inner depth (suc count)))
    (read_map (λ x. tree.Sizeof x offset) (read_bracketed inner depth count opened))))
    (read_map (λ x. tree.Sizeof x offset) (inner.unary depth count))

abbrev pub read_sizeof : (names : List (List ℕ)) → Parsers → (depth count : ℕ) → Parser Placed Role tree.Expression
read_sizeof names inner depth count = following (token Nothing (operates (suc count)) sizeof_offset) (λ offset. read_sized names inner depth (suc count) offset)

-- an operator and its operand
abbrev pub read_prefixed : Parsers → (depth count : ℕ) → Parser Placed Role tree.Expression
read_prefixed inner depth count =
    following (token Nothing (operates (suc count)) (with_offset unary_operator)) (λ operator. read_map (λ x. tree.Unary operator.0 x operator.1) (inner.cast depth (suc count)))

abbrev pub read_unary : (names : List (List ℕ)) → Parsers → (depth count : ℕ) → Parser Placed Role tree.Expression
read_unary names inner depth count =
    choose (λ next. is_some (unary_operator next)) (read_prefixed inner depth count)
    (choose is_sizeof (read_sizeof names inner depth count) (read_postfix names inner depth count))

-- 6.5.4: after `(` at this offset a type, its bracket and an operand
abbrev pub read_converted : Parsers → (depth count offset : ℕ) → Parser Placed Role tree.Expression
read_converted inner depth count offset = following (read_type inner depth (suc count)) (λ type. read_map (λ x. tree.Cast type x offset) (inner.cast depth (suc count + operators_of_type type)))

abbrev pub read_cast : (names : List (List ℕ)) → Parsers → (depth count : ℕ) → Parser Placed Role tree.Expression
read_cast names inner depth count =
    choose (is_mark punctuator.LeftParenthesis)
    (following (read_open depth count) (λ offset. choose (begins_type names) (read_converted inner depth count offset) (read_bracketed inner depth count offset)))
    (inner.unary depth count)

-- 6.5.5 to 6.5.14: how many operators an operand has, and whether it ends with a postfix expression
abbrev pub Left : Type 0
Left = ℕ × Bool

abbrev pub Operation : Type 0
Operation = (BinaryOperator × ℕ) × tree.Expression

abbrev pub with_operation : tree.Expression → Operation → tree.Expression
with_operation x operation = tree.Binary operation.0.0 x operation.1 operation.0.1

abbrev pub next_left : Left → Operation → Left
next_left left operation = (left.0 + suc (operators operation.1), ends_postfix operation.1)

abbrev pub left_of : tree.Expression → Left
left_of x = (operators x, ends_postfix x)

-- an operator of the level above this one, and the operand that a parser gives
abbrev pub read_operator : (operand : ℕ → Parser Placed Role tree.Expression) → (level count : ℕ) → Parser Placed Role Operation
read_operator operand level count = following (token Nothing (operates (suc count)) (with_offset (of_level (suc level)))) (λ operator. read_map (λ y. (operator, y)) (operand (suc count)))

abbrev pub starts_level : ℕ → Token → Bool
starts_level level next = is_level level (binary_operator next)

abbrev pub starts_operation : (level : ℕ) → Left → Placed → Bool
starts_operation level left next = starts_level (suc level) next.token

abbrev pub read_binary : Parsers → (depth level count : ℕ) → Parser Placed Role tree.Expression
read_binary inner depth zero count = inner.cast depth count
read_binary inner depth (suc level) count =
    read_folded (starts_operation level) (λ left. read_operator (read_binary inner depth level) level (count + left.0)) next_left with_operation left_of (read_binary inner depth level count)

abbrev pub read_operation : Parsers → (depth level count : ℕ) → Parser Placed Role Operation
read_operation inner depth level count = read_operator (read_binary inner depth level) level count

-- one operation after a left operand, together with it
abbrev pub read_operation_following : Parsers → (depth level count : ℕ) → tree.Expression → Parser Placed Role tree.Expression
read_operation_following inner depth level count left =
    following (token Nothing (operates (suc count)) (with_offset (of_level (suc level)))) (λ operator. read_map (λ y. with_operation left (operator, y)) (read_binary inner depth level (suc count)))

-- the operations after a first operand, together with it
abbrev pub read_operations : Parsers → (depth level count : ℕ) → tree.Expression → Parser Placed Role tree.Expression
read_operations inner depth level count first =
    read_after (starts_operation level) (λ left. read_operation inner depth level (count + left.0)) next_left with_operation left_of first

-- 6.5.15: `?` and two values after a test
abbrev pub read_choice : Parsers → (depth count : ℕ) → tree.Expression → Parser Placed Role tree.Expression
read_choice inner depth count test =
    following (token Nothing (operates (suc count)) (mark_offset punctuator.Question))
    (λ offset. following (before (inner.conditional depth (suc count)) (token OperandEnd (expected OperandEnd) (mark_offset punctuator.Colon)))
    (λ first. read_map (λ second. tree.Conditional test first second offset) (inner.conditional depth (suc count + operators first))))

abbrev pub read_conditional : Parsers → (depth count : ℕ) → Parser Placed Role tree.Expression
read_conditional inner depth count =
    following (read_binary inner depth 10 count) (λ x. choose (is_mark punctuator.Question) (read_choice inner depth (count + operators x) x) (read_nothing x))
