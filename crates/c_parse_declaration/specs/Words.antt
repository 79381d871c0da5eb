-- What the words say that can be around a type specifier, and specifiers with them.
use Rattle.std.specs.Prelude.{ℕ, Bool, true, false, List, [], ◌∷◌, Option, None, option_map, map}
use Rattle.c_token_spec.specs.Lexical.{Placed, Token}
use Rattle.c_syntax_spec.specs.Expression as tree
use Rattle.c_parse_spec.specs.declared.Role.{Role}
use Rattle.exact_read.specs.Reading.{Parser}
use Rattle.exact_read.specs.Grammar.{read_map}
use Rattle.c_parse_laws.specs.Parsers.{Parsers}
use Rattle.c_parse_laws.specs.Types.{no_storage}
use Rattle.c_parse_laws.specs.Specified.{read_around}
use Rattle.c_parse_laws.specs.Around as around
use Rattle.c_parse_token.specs.Words.{first_of}

-- what a word says that can be around the type specifier of locals, or of an item
abbrev pub says : (of_item : Bool) → Token → Option tree.Storage
says false token = option_map (λ word. around.with_local word no_storage) (around.word_of around.local_word token)
says true token = option_map (λ word. around.with_item word no_storage) (around.word_of around.external_word token)

-- what the next token says, with its offset
abbrev pub next_says : (of_item : Bool) → List Placed → Option (tree.Storage × ℕ)
next_says of_item [] = None
next_says of_item (next ∷ rest) = option_map (λ said. (said, next.offset)) (says of_item next.token)

-- what some words say, and the offset of the first
abbrev pub summary : {W : Type 0} → (with : W → tree.Storage → tree.Storage) → List (W × ℕ) → tree.Storage × Option ℕ
summary with words = (around.storage_of with words, first_of (map (λ word. word.1) words))

abbrev pub read_words : (of_item : Bool) → Parser Placed Role (tree.Storage × Option ℕ)
read_words false = read_map (summary around.with_local) (read_around (around.word_at around.local_word) (around.is_word around.local_word))
read_words true = read_map (summary around.with_item) (read_around (around.word_at around.external_word) (around.is_word around.external_word))

abbrev pub read_specifiers : (of_item : Bool) → (names : List (List ℕ)) → Parsers → (depth : ℕ) → Parser Placed Role tree.Specifiers
read_specifiers false = around.read_local_specifiers
read_specifiers true = around.read_external_specifiers
