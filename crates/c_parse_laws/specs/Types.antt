-- Parsers of the types in casts and after `sizeof`, on lists of tokens (ISO C11, 6.7.2, 6.7.6, 6.7.7).
use Rattle.std.specs.Prelude.{ℕ, suc, ◌+◌, Bool, true, false, if◌then◌else◌, List, [], ◌∷◌, ◌++◌, length, Option, Some, None, option_map, unwrap_or}
use Rattle.std.specs.Option.{is_some, option_map_or}
use Rattle.c_token_spec.specs.declared.token.Keyword.{Keyword}
use Rattle.c_token_spec.specs.declared.token.Keyword.TheVariants.{Const, Void, Char, Signed, Unsigned, Short, Int, Long, Struct, Enum}
use Rattle.c_token_spec.specs.declared.token.Punctuator.TheVariants as punctuator
use Rattle.c_token_spec.specs.Lexical.{Placed, Token, Name as name_token, Word, Number as number_token, Character as character_token, Mark}
use Rattle.c_syntax_spec.specs.declared.IntegerType.TheVariants as integer
use Rattle.c_syntax_spec.specs.Expression as tree
use Rattle.c_parse_spec.specs.declared.Role.{Role}
use Rattle.c_parse_spec.specs.declared.Role.TheVariants.{Nothing, DeclaredName, OperandEnd}
use Rattle.c_parse_spec.specs.Leaves.{plain, expected, opens}
use Rattle.c_parse_spec.specs.Expressions.{is_typedef_name, integer_type_of, member_end, operators, operators_of_specifiers, operators_of_declarators, operators_of_declarator, Counting, count_at, advance}
use Rattle.exact_read.specs.Reading.{Parser}
use Rattle.exact_read.specs.Grammar.{read_then, read_map, read_many, read_nothing}
use Rattle.c_parse_laws.specs.Classes.{is_mark, mark_offset, name_at, begins_type}
use Rattle.c_parse_laws.specs.Parsers.{Parsers, token, following, before, choose}

-- `const`, any number of times: their places
abbrev pub is_const : Token → Bool
is_const (Word Const) = true
is_const other = false

abbrev pub const_offset : Placed → Option ℕ
const_offset next = if is_const next.token then Some next.offset else None

abbrev pub read_consts : Parser Placed Role (List ℕ)
read_consts = read_many (λ (_ : Unit {0}) next. is_const next.token) (λ _. token Nothing plain const_offset) (λ _ _. tt {0}) (tt {0})

-- so many `*`
abbrev pub read_pointer : Parser Placed Role ℕ
read_pointer = read_map length (read_many (λ (_ : Unit {0}) next. is_mark punctuator.Star next.token) (λ _. before (token Nothing plain (mark_offset punctuator.Star)) read_consts) (λ _ _. tt {0}) (tt {0}))

-- a name that is none of a type
abbrev pub plain_name_of : (names : List (List ℕ)) → Token → (offset : ℕ) → Option tree.Name
plain_name_of names (name_token spelling) offset = if is_typedef_name names spelling then None else Some (record { spelling = spelling; offset = offset })
plain_name_of names other offset = None

abbrev pub plain_name_at : (names : List (List ℕ)) → Placed → Option tree.Name
plain_name_at names next = plain_name_of names next.token next.offset

abbrev pub is_plain_name : (names : List (List ℕ)) → Token → Bool
is_plain_name names next = is_some (plain_name_of names next 0)

-- what a type specifier begins with
pub data Head : Type 0 where
  HeadVoid : Head
  HeadInteger : (keyword : Keyword) → Head
  HeadName : (name : tree.Name) → Head
  HeadStruct : Head
  HeadEnum : Head

abbrev pub head_word : Keyword → Option Head
head_word Void = Some HeadVoid
head_word Char = Some (HeadInteger Char)
head_word Signed = Some (HeadInteger Signed)
head_word Unsigned = Some (HeadInteger Unsigned)
head_word Short = Some (HeadInteger Short)
head_word Int = Some (HeadInteger Int)
head_word Long = Some (HeadInteger Long)
head_word Struct = Some HeadStruct
head_word Enum = Some HeadEnum
head_word other = None

abbrev pub head_of : (names : List (List ℕ)) → Token → (offset : ℕ) → Option Head
head_of names (Word keyword) offset = head_word keyword
head_of names (name_token spelling) offset = if is_typedef_name names spelling then Some (HeadName (record { spelling = spelling; offset = offset })) else None
head_of names (number_token value type) offset = None
head_of names (character_token value) offset = None
head_of names (Mark punctuator) offset = None

abbrev pub head_at : (names : List (List ℕ)) → Placed → Option (Head × ℕ)
head_at names next = option_map (λ head. (head, next.offset)) (head_of names next.token next.offset)

-- further words of an integer type, as long as they name one with those before
abbrev pub word_of : Token → Option Keyword
word_of (Word keyword) = Some keyword
word_of other = None

abbrev pub goes_on : (words : List Keyword) → Token → Bool
goes_on words next = option_map_or (λ word. is_some (integer_type_of (words ++ word ∷ []))) (word_of next) false

abbrev pub read_words : (words : List Keyword) → Parser Placed Role (List Keyword)
read_words = read_many (λ words next. goes_on words next.token) (λ words. token Nothing plain (λ next. word_of next.token)) (λ words word. words ++ word ∷ [])

abbrev pub integer_of : (words : List Keyword) → tree.TypeSpecifier
integer_of words = tree.Integer (unwrap_or (integer_type_of words) integer.Int)

-- a length in brackets
abbrev pub read_length : Parsers → (depth : ℕ) → (counting : Counting) → Parser Placed Role tree.Expression
read_length inner depth counting =
    following (token Nothing (opens (suc depth)) (mark_offset punctuator.LeftBracket))
    (λ _. before (inner.conditional (suc depth) (count_at counting)) (token OperandEnd (expected OperandEnd) (mark_offset punctuator.RightBracket)))

abbrev pub expressions_of : List tree.Expression → tree.Expressions
expressions_of [] = tree.no_expressions
expressions_of (x ∷ xs) = tree.expressions x (expressions_of xs)

abbrev pub read_lengths : Parsers → (depth : ℕ) → (counting : Counting) → Parser Placed Role tree.Expressions
read_lengths inner depth counting =
    read_map expressions_of (read_many (λ (_ : Counting) next. is_mark punctuator.LeftBracket next.token) (λ so_far. read_length inner depth so_far) (λ so_far length. advance so_far (operators length)) counting)

-- the lengths of an array, and whether the first is left out
abbrev pub read_dimensions : Parsers → (depth : ℕ) → (counting : Counting) → Parser Placed Role (Bool × tree.Expressions)
read_dimensions inner depth counting =
    choose (is_mark punctuator.LeftBracket)
    (following (token Nothing (opens (suc depth)) (mark_offset punctuator.LeftBracket))
    (λ _. choose (is_mark punctuator.RightBracket)
    (read_map (λ lengths. (true, lengths)) (following (token Nothing plain (mark_offset punctuator.RightBracket)) (λ _. read_lengths inner depth counting)))
    (read_map (λ pair. (false, tree.expressions pair.0 pair.1))
    (read_then (before (inner.conditional (suc depth) (count_at counting)) (token OperandEnd (expected OperandEnd) (mark_offset punctuator.RightBracket))) (λ first. read_lengths inner depth (advance counting (operators first)))))))
    (read_nothing (false, tree.no_expressions))

abbrev pub read_declarator : (name : Placed → Option tree.Name) → Parsers → (depth : ℕ) → (counting : Counting) → Parser Placed Role tree.Declarator
read_declarator name inner depth counting =
    read_map (λ made. tree.Declared made.0 made.1.0 made.1.1.0 made.1.1.1)
    (read_then read_pointer (λ _. read_then (token DeclaredName (expected DeclaredName) name) (λ _. read_dimensions inner depth counting)))

abbrev pub declarators_of : List tree.Declarator → tree.Declarators
declarators_of [] = tree.no_declarators
declarators_of (x ∷ xs) = tree.declarators x (declarators_of xs)

-- the last of a declarator and those after it
abbrev pub last_of : tree.Declarator → List tree.Declarator → tree.Declarator
last_of x [] = x
last_of x (y ∷ ys) = last_of y ys

-- declarators of members with `,` between them, and the `;` that follows
abbrev pub read_member_list : Parsers → (depth : ℕ) → (counting : Counting) → Parser Placed Role tree.Declarators
read_member_list inner depth counting =
    read_map (λ pair. tree.declarators pair.0 (declarators_of pair.1.0))
    (read_then (read_declarator name_at inner depth counting)
    (λ first. read_then (read_many (λ (_ : Counting) next. is_mark punctuator.Comma next.token) (λ so_far. following (token Nothing plain (mark_offset punctuator.Comma)) (λ _. read_declarator name_at inner depth so_far)) (λ so_far declarator. advance so_far (operators_of_declarator declarator)) (advance counting (operators_of_declarator first)))
    (λ more. token (member_end (last_of first more)) (expected (member_end (last_of first more))) (mark_offset punctuator.Semicolon))))

abbrev pub members_of : List (tree.Specifiers × tree.Declarators) → tree.Members
members_of [] = tree.no_members
members_of (x ∷ xs) = tree.members x.0 x.1 (members_of xs)

-- how many operators the declarations of some members have
abbrev pub operators_of_member : tree.Specifiers × tree.Declarators → ℕ
operators_of_member member = operators_of_specifiers member.0 + operators_of_declarators member.1

-- members in braces
abbrev pub read_members : (names : List (List ℕ)) → Parsers → (depth : ℕ) → (counting : Counting) → Parser Placed Role tree.Members
read_members names inner depth counting =
    following (token Nothing (opens (suc depth)) (mark_offset punctuator.LeftBrace))
    (λ _. before (read_map members_of (read_many (λ (_ : Counting) next. begins_type names next.token)
    (λ so_far. read_then (inner.specifiers (suc depth) so_far) (λ specifiers. read_member_list inner (suc depth) (advance so_far (operators_of_specifiers specifiers))))
    (λ so_far member. advance so_far (operators_of_member member)) counting))
    (token Nothing plain (mark_offset punctuator.RightBrace)))

abbrev pub read_struct : (names : List (List ℕ)) → Parsers → (depth : ℕ) → (counting : Counting) → Parser Placed Role tree.TypeSpecifier
read_struct names inner depth counting =
    choose (is_plain_name names)
    (following (token Nothing plain (plain_name_at names)) (λ tag. choose (is_mark punctuator.LeftBrace)
    (read_map (λ members. tree.Struct (Some tag) members) (read_members names inner depth counting)) (read_nothing (tree.StructTag tag))))
    (read_map (λ members. tree.Struct None members) (read_members names inner depth counting))

-- a constant, and its value where it has one
abbrev pub read_constant : (names : List (List ℕ)) → Parsers → (depth : ℕ) → (counting : Counting) → Parser Placed Role (tree.Name × Option tree.Expression)
read_constant names inner depth counting =
    read_then (token Nothing plain (plain_name_at names)) (λ _. choose (is_mark punctuator.Assign)
    (read_map Some (following (token Nothing plain (mark_offset punctuator.Assign)) (λ _. inner.conditional depth (count_at counting)))) (read_nothing None))

-- what is expected after a constant
abbrev pub constant_end : tree.Name × Option tree.Expression → Role
constant_end constant = option_map_or (λ _. OperandEnd) constant.1 Nothing

-- a `,` can follow a constant, and a constant the `,`: `end` is what is expected, with the count there
pub data After : Type 0 where
  AfterConstant : (end : Role) → (counting : Counting) → After
  AfterComma : (counting : Counting) → After

abbrev pub counting_after : After → Counting
counting_after (AfterConstant end counting) = counting
counting_after (AfterComma counting) = counting

-- how many operators the value of a constant has
abbrev pub operators_of_constant : tree.Name × Option tree.Expression → ℕ
operators_of_constant constant = option_map_or operators constant.1 0

abbrev pub constants_start : (names : List (List ℕ)) → After → Placed → Bool
constants_start names (AfterConstant end counting) next = is_mark punctuator.Comma next.token
constants_start names (AfterComma counting) next = is_some (plain_name_at names next)

abbrev pub next_after : After → Option (tree.Name × Option tree.Expression) → After
next_after after None = AfterComma (counting_after after)
next_after after (Some constant) = AfterConstant (constant_end constant) (advance (counting_after after) (operators_of_constant constant))

abbrev pub after_role : After → Role
after_role (AfterConstant end counting) = end
after_role (AfterComma counting) = Nothing

abbrev pub read_constants_part : (names : List (List ℕ)) → Parsers → (depth : ℕ) → After → Parser Placed Role (Option (tree.Name × Option tree.Expression))
read_constants_part names inner depth (AfterConstant end counting) = read_map (λ _. None) (token Nothing plain (mark_offset punctuator.Comma))
read_constants_part names inner depth (AfterComma counting) = read_map Some (read_constant names inner depth counting)

-- after a first constant
abbrev pub first_after : Counting → tree.Name × Option tree.Expression → After
first_after counting constant = AfterConstant (constant_end constant) (advance counting (operators_of_constant constant))

abbrev pub context_of : After → List (Option (tree.Name × Option tree.Expression)) → After
context_of after [] = after
context_of after (part ∷ parts) = context_of (next_after after part) parts

abbrev pub constant_before : tree.Name × Option tree.Expression → tree.Constants → tree.Constants
constant_before (name, None) rest = tree.constants name rest
constant_before (name, Some value) rest = tree.constants_with name value rest

abbrev pub constants_of : List (Option (tree.Name × Option tree.Expression)) → tree.Constants
constants_of [] = tree.no_constants
constants_of (None ∷ parts) = constants_of parts
constants_of (Some constant ∷ parts) = constant_before constant (constants_of parts)

-- constants in braces
abbrev pub read_constants : (names : List (List ℕ)) → Parsers → (depth : ℕ) → (counting : Counting) → Parser Placed Role tree.Constants
read_constants names inner depth counting =
    following (token Nothing (opens (suc depth)) (mark_offset punctuator.LeftBrace))
    (λ _. read_map (λ pair. constant_before pair.0 (constants_of pair.1.0)) (read_then (read_constant names inner (suc depth) counting)
    (λ first. read_then (read_many (constants_start names) (read_constants_part names inner (suc depth)) next_after (first_after counting first))
    (λ parts. token (after_role (context_of (first_after counting first) parts)) (expected (after_role (context_of (first_after counting first) parts))) (mark_offset punctuator.RightBrace)))))

abbrev pub read_enum : (names : List (List ℕ)) → Parsers → (depth : ℕ) → (counting : Counting) → Parser Placed Role tree.TypeSpecifier
read_enum names inner depth counting =
    choose (is_plain_name names)
    (following (token Nothing plain (plain_name_at names)) (λ tag. choose (is_mark punctuator.LeftBrace)
    (read_map (λ constants. tree.Enum (Some tag) constants) (read_constants names inner depth counting)) (read_nothing (tree.EnumTag tag))))
    (read_map (λ constants. tree.Enum None constants) (read_constants names inner depth counting))

-- what follows the first token of a type specifier
abbrev pub read_type_specifier_rest : (names : List (List ℕ)) → Parsers → (depth : ℕ) → (counting : Counting) → Head → Parser Placed Role tree.TypeSpecifier
read_type_specifier_rest names inner depth counting HeadVoid = read_nothing tree.Void
read_type_specifier_rest names inner depth counting (HeadInteger keyword) = read_map (λ words. integer_of (keyword ∷ words)) (read_words (keyword ∷ []))
read_type_specifier_rest names inner depth counting (HeadName name) = read_nothing (tree.TypedefName name)
read_type_specifier_rest names inner depth counting HeadStruct = read_struct names inner depth counting
read_type_specifier_rest names inner depth counting HeadEnum = read_enum names inner depth counting

abbrev pub read_type_specifier : (names : List (List ℕ)) → Parsers → (depth : ℕ) → (counting : Counting) → Parser Placed Role ((Head × ℕ) × tree.TypeSpecifier)
read_type_specifier names inner depth counting = read_then (token Nothing plain (head_at names)) (λ head. read_type_specifier_rest names inner depth counting head.0)

abbrev pub no_storage : tree.Storage
no_storage = record { is_typedef = false; is_static = false }

-- the first of some places, or another
abbrev pub first_or : List ℕ → ℕ → ℕ
first_or [] offset = offset
first_or (first ∷ rest) offset = first

-- specifiers that are neither directly in an external declaration nor in a declaration of locals
abbrev pub read_specifiers : (names : List (List ℕ)) → Parsers → (depth : ℕ) → (counting : Counting) → Parser Placed Role tree.Specifiers
read_specifiers names inner depth counting =
    read_map (λ made. tree.Specified no_storage made.1.0.1 (first_or made.0 made.1.0.0.1))
    (read_then read_consts (λ _. read_then (read_type_specifier names inner depth counting) (λ _. read_consts)))

abbrev pub read_type_name : (names : List (List ℕ)) → Parsers → (depth : ℕ) → (counting : Counting) → Parser Placed Role tree.TypeName
read_type_name names inner depth counting = read_map (λ pair. tree.Pointers pair.0 pair.1) (read_then (read_specifiers names inner depth counting) (λ _. read_pointer))
