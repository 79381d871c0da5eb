-- Classes of tokens: what a token is where an expression is read, and its offset.
use Rattle.std.specs.Prelude.{ℕ, zero, suc, ◌==◌, ◌||◌, Bool, true, false, if◌then◌else◌, List, Option, Some, None, option_map}
use Rattle.std.specs.Option.{is_some}
use denote.Enum.Bare.{sameb}
use Rattle.c_token_spec.specs.declared.token.Keyword.{Keyword}
use Rattle.c_token_spec.specs.declared.token.Keyword.TheVariants.{Sizeof, Const, Void, Char, Signed, Unsigned, Short, Int, Long, Struct, Enum}
use Rattle.c_token_spec.specs.declared.token.Punctuator.{Punctuator}
use Rattle.c_token_spec.specs.declared.token.Punctuator.TheVariants as punctuator
use Rattle.c_token_spec.specs.contracts.token.Punctuator.{the_type}
use Rattle.c_token_spec.specs.Lexical.{Placed, Token, Name as name_token, Word, Number as number_token, Character as character_token, Mark}
use Rattle.c_syntax_spec.specs.declared.BinaryOperator.{BinaryOperator}
use Rattle.c_syntax_spec.specs.declared.BinaryOperator.TheVariants.{LogicalOr, LogicalAnd, BitOr, BitXor, BitAnd, Equal, NotEqual, Less, Greater, LessOrEqual, GreaterOrEqual, ShiftLeft, ShiftRight, Add, Subtract, Multiply, Divide, Remainder}
use Rattle.c_syntax_spec.specs.declared.UnaryOperator.{UnaryOperator}
use Rattle.c_syntax_spec.specs.declared.UnaryOperator.TheVariants.{AddressOf, Dereference, Plus, Minus, Complement, Not}
use Rattle.c_syntax_spec.specs.declared.Access.{Access}
use Rattle.c_syntax_spec.specs.declared.Access.TheVariants.{Dot, Arrow}
use Rattle.c_syntax_spec.specs.Expression as tree
use Rattle.c_parse_spec.specs.Expressions.{is_typedef_name, level_of}

-- the token is this punctuator
abbrev pub is_mark : Punctuator → Token → Bool
is_mark wanted (Mark punctuator) = sameb the_type punctuator wanted
is_mark wanted (name_token spelling) = false
is_mark wanted (Word keyword) = false
is_mark wanted (number_token value type) = false
is_mark wanted (character_token value) = false

abbrev pub mark_offset : Punctuator → Placed → Option ℕ
mark_offset wanted token = if is_mark wanted token.token then Some token.offset else None

abbrev pub is_sizeof : Token → Bool
is_sizeof (Word Sizeof) = true
is_sizeof other = false

abbrev pub sizeof_offset : Placed → Option ℕ
sizeof_offset token = if is_sizeof token.token then Some token.offset else None

-- any name
abbrev pub name_of : Token → (offset : ℕ) → Option tree.Name
name_of (name_token spelling) offset = Some (record { spelling = spelling; offset = offset })
name_of other offset = None

abbrev pub name_at : Placed → Option tree.Name
name_at token = name_of token.token token.offset

-- a name that is none of a type, or a constant
abbrev pub atom_of : (names : List (List ℕ)) → Token → (offset : ℕ) → Option tree.Expression
atom_of names (name_token spelling) offset = if is_typedef_name names spelling then None else Some (tree.Named (record { spelling = spelling; offset = offset }))
atom_of names (number_token value type) offset = Some (tree.Number value type offset)
atom_of names (character_token value) offset = Some (tree.Character value offset)
atom_of names (Word keyword) offset = None
atom_of names (Mark punctuator) offset = None

abbrev pub atom_at : (names : List (List ℕ)) → Placed → Option tree.Expression
atom_at names token = atom_of names token.token token.offset

-- the operators that punctuators are
abbrev pub unary_mark : Punctuator → Option UnaryOperator
unary_mark punctuator.Ampersand = Some AddressOf
unary_mark punctuator.Star = Some Dereference
unary_mark punctuator.Plus = Some Plus
unary_mark punctuator.Minus = Some Minus
unary_mark punctuator.Tilde = Some Complement
unary_mark punctuator.Exclamation = Some Not
unary_mark other = None

abbrev pub access_mark : Punctuator → Option Access
access_mark punctuator.Dot = Some Dot
access_mark punctuator.Arrow = Some Arrow
access_mark other = None

abbrev pub binary_mark : Punctuator → Option BinaryOperator
binary_mark punctuator.LogicalOr = Some LogicalOr
binary_mark punctuator.LogicalAnd = Some LogicalAnd
binary_mark punctuator.Bar = Some BitOr
binary_mark punctuator.Caret = Some BitXor
binary_mark punctuator.Ampersand = Some BitAnd
binary_mark punctuator.Equals = Some Equal
binary_mark punctuator.NotEquals = Some NotEqual
binary_mark punctuator.LessThan = Some Less
binary_mark punctuator.GreaterThan = Some Greater
binary_mark punctuator.LessOrEqual = Some LessOrEqual
binary_mark punctuator.GreaterOrEqual = Some GreaterOrEqual
binary_mark punctuator.ShiftLeft = Some ShiftLeft
binary_mark punctuator.ShiftRight = Some ShiftRight
binary_mark punctuator.Plus = Some Add
binary_mark punctuator.Minus = Some Subtract
binary_mark punctuator.Star = Some Multiply
binary_mark punctuator.Slash = Some Divide
binary_mark punctuator.Percent = Some Remainder
binary_mark other = None

abbrev pub unary_operator : Token → Option UnaryOperator
unary_operator (Mark punctuator) = unary_mark punctuator
unary_operator (name_token spelling) = None
unary_operator (Word keyword) = None
unary_operator (number_token value type) = None
unary_operator (character_token value) = None

abbrev pub access_operator : Token → Option Access
access_operator (Mark punctuator) = access_mark punctuator
access_operator (name_token spelling) = None
access_operator (Word keyword) = None
access_operator (number_token value type) = None
access_operator (character_token value) = None

abbrev pub binary_operator : Token → Option BinaryOperator
binary_operator (Mark punctuator) = binary_mark punctuator
binary_operator (name_token spelling) = None
binary_operator (Word keyword) = None
binary_operator (number_token value type) = None
binary_operator (character_token value) = None

-- a class with the offset beside it
abbrev pub with_offset : {A : Type 0} → (Token → Option A) → Placed → Option (A × ℕ)
with_offset class token = option_map (λ a. (a, token.offset)) (class token.token)

-- an operator of one level
abbrev pub is_level : ℕ → Option BinaryOperator → Bool
is_level level None = false
is_level level (Some operator) = level_of operator == level

abbrev pub of_level : ℕ → Token → Option BinaryOperator
of_level level token = if is_level level (binary_operator token) then binary_operator token else None

-- an operator of a level up to this one
abbrev pub is_up_to : ℕ → Option BinaryOperator → Bool
is_up_to zero operator = false
is_up_to (suc level) operator = is_level (suc level) operator || is_up_to level operator

-- `[`, `.` or `->`
abbrev pub is_suffix : Token → Bool
is_suffix token = is_mark punctuator.LeftBracket token || is_some (access_operator token)

-- what a type in brackets begins with
abbrev pub begins_type_word : Keyword → Bool
begins_type_word Const = true
begins_type_word Void = true
begins_type_word Char = true
begins_type_word Signed = true
begins_type_word Unsigned = true
begins_type_word Short = true
begins_type_word Int = true
begins_type_word Long = true
begins_type_word Struct = true
begins_type_word Enum = true
begins_type_word other = false

abbrev pub begins_type : (names : List (List ℕ)) → Token → Bool
begins_type names (Word keyword) = begins_type_word keyword
begins_type names (name_token spelling) = is_typedef_name names spelling
begins_type names (number_token value type) = false
begins_type names (character_token value) = false
begins_type names (Mark punctuator) = false
