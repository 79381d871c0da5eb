-- Parsers of specifiers directly in a declaration of locals, and directly in an external declaration (ISO C11, 6.7).
use Rattle.std.specs.Prelude.{ℕ, Bool, true, List, [], ◌∷◌, Option, Some, None, option_map}
use Rattle.std.specs.Option.{is_some}
use Rattle.c_token_spec.specs.declared.token.Keyword.{Keyword}
use Rattle.c_token_spec.specs.declared.token.Keyword.TheVariants.{Const, Typedef, Extern, Static, Inline}
use Rattle.c_token_spec.specs.Lexical.{Placed, Token, Name as name_token, Word, Number as number_token, Character as character_token, Mark}
use Rattle.c_syntax_spec.specs.Expression as tree
use Rattle.c_parse_spec.specs.declared.Role.{Role}
use Rattle.c_parse_spec.specs.Leaves.{keyword_at}
use Rattle.c_parse_spec.specs.Expressions.{Alone}
use Rattle.exact_read.specs.Reading.{Parser}
use Rattle.c_parse_laws.specs.Parsers.{Parsers}
use Rattle.c_parse_laws.specs.Types.{no_storage}
use Rattle.c_parse_laws.specs.Specified.{read_specified}

-- the keywords beside the type specifier of a declaration of locals
pub data LocalWord : Type 0 where
  LocalConst : LocalWord
  LocalStatic : LocalWord

abbrev pub local_word : Keyword → Option LocalWord
local_word Const = Some LocalConst
local_word Static = Some LocalStatic
local_word other = None

abbrev pub local_keyword : LocalWord → Keyword
local_keyword LocalConst = Const
local_keyword LocalStatic = Static

-- what a keyword adds to those after it
abbrev pub with_local : LocalWord → tree.Storage → tree.Storage
with_local LocalConst storage = storage
with_local LocalStatic storage = record { is_typedef = storage.is_typedef; is_static = true }

-- and beside that of an external declaration
pub data ExternalWord : Type 0 where
  ExternalConst : ExternalWord
  ExternalTypedef : ExternalWord
  ExternalExtern : ExternalWord
  ExternalStatic : ExternalWord
  ExternalInline : ExternalWord

abbrev pub external_word : Keyword → Option ExternalWord
external_word Const = Some ExternalConst
external_word Typedef = Some ExternalTypedef
external_word Extern = Some ExternalExtern
external_word Static = Some ExternalStatic
external_word Inline = Some ExternalInline
external_word other = None

abbrev pub external_keyword : ExternalWord → Keyword
external_keyword ExternalConst = Const
external_keyword ExternalTypedef = Typedef
external_keyword ExternalExtern = Extern
external_keyword ExternalStatic = Static
external_keyword ExternalInline = Inline

abbrev pub with_item : ExternalWord → tree.Storage → tree.Storage
with_item ExternalConst storage = storage
with_item ExternalTypedef storage = record { is_typedef = true; is_static = storage.is_static }
with_item ExternalExtern storage = storage
with_item ExternalStatic storage = record { is_typedef = storage.is_typedef; is_static = true }
with_item ExternalInline storage = storage

-- a token that is such a keyword, with its offset
abbrev pub word_of : {W : Type 0} → (of : Keyword → Option W) → Token → Option W
word_of of (Word keyword) = of keyword
word_of of (name_token spelling) = None
word_of of (number_token value type) = None
word_of of (character_token value) = None
word_of of (Mark punctuator) = None

abbrev pub is_word : {W : Type 0} → (of : Keyword → Option W) → Token → Bool
is_word of token = is_some (word_of of token)

abbrev pub word_at : {W : Type 0} → (of : Keyword → Option W) → Placed → Option (W × ℕ)
word_at of next = option_map (λ w. (w, next.offset)) (word_of of next.token)

abbrev pub spell_word : {W : Type 0} → (keyword : W → Keyword) → W × ℕ → Placed
spell_word keyword pair = keyword_at (keyword pair.0) pair.1

-- what some words say
abbrev pub storage_of : {W : Type 0} → (with : W → tree.Storage → tree.Storage) → List (W × ℕ) → tree.Storage
storage_of with [] = no_storage
storage_of with (pair ∷ words) = with pair.0 (storage_of with words)

abbrev pub read_local_specifiers : (names : List (List ℕ)) → Parsers → (depth : ℕ) → Parser Placed Role tree.Specifiers
read_local_specifiers names inner depth = read_specified (word_at local_word) (is_word local_word) (spell_word local_keyword) (storage_of with_local) names inner depth Alone

abbrev pub read_external_specifiers : (names : List (List ℕ)) → Parsers → (depth : ℕ) → Parser Placed Role tree.Specifiers
read_external_specifiers names inner depth = read_specified (word_at external_word) (is_word external_word) (spell_word external_keyword) (storage_of with_item) names inner depth Alone
