-- What the program's words of types are in the reference parsers.
use Rattle.std.specs.Prelude.{ℕ, List, [], ◌∷◌, ◌++◌, Option, Some, None, option_map, option_and_then, find}
use Rattle.std.specs.Option.{option_map_or}
use Rattle.std.specs.Borrow.{Bor}
use Rattle.c_token_spec.specs.declared.token.Keyword.{Keyword}
use Rattle.c_token_spec.specs.Lexical.{Placed}
use Rattle.c_syntax_spec.specs.declared.IntegerType.{IntegerType}
use Rattle.c_parse_spec.specs.Expressions.{same_words, integer_type_of}
use Rattle.c_parse_laws.specs.Types as types
use Rattle.c_syntax.specs.Names.{name_of}
use Rattle.c_parse_token.specs.declared.head.Head.{Head}
use Rattle.c_parse_token.specs.declared.head.Head.TheVariants as head

-- the first of some offsets, if there is one
abbrev pub first_of : List ℕ → Option ℕ
first_of [] = None
first_of (offset ∷ rest) = Some offset

-- the first offset, and those after it
abbrev pub first_with : Option ℕ → List ℕ → Option ℕ
first_with None offsets = first_of offsets
first_with (Some offset) offsets = Some offset

-- what a type specifier begins with
abbrev pub head_of : Head → types.Head
head_of head.Void = types.HeadVoid
head_of (head.Integer keyword) = types.HeadInteger keyword
head_of (head.Named name) = types.HeadName (name_of name)
head_of head.Struct = types.HeadStruct
head_of head.Enum = types.HeadEnum

-- the next keyword
abbrev pub next_word : List Placed → Option Keyword
next_word [] = None
next_word (next ∷ rest) = types.word_of next.token

-- words with the next one, and the type that they name
abbrev pub with_next : List Keyword → List Placed → List Keyword
with_next words tokens = option_map_or (λ word. words ++ word ∷ []) (next_word tokens) words

abbrev pub type_next : List Keyword → List Placed → Option IntegerType
type_next words tokens = option_and_then (λ word. integer_type_of (words ++ word ∷ [])) (next_word tokens)

-- words and the type that they name, and that of the words in a table
abbrev pub entry_of : Bor (List Keyword) × IntegerType → List Keyword × IntegerType
entry_of entry = (entry.0.now, entry.1)

abbrev pub type_among : (words : List Keyword) → List (List Keyword × IntegerType) → Option IntegerType
type_among words table = option_map (λ entry. entry.1) (find (λ entry. same_words entry.0 words) table)
