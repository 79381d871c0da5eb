-- The parsers of specifiers, with how these end beside their value.
use Rattle.std.specs.Prelude.{ℕ, List, [], ◌∷◌, Some, None}
use Rattle.c_token_spec.specs.declared.token.Punctuator.TheVariants as punctuator
use Rattle.c_token_spec.specs.Lexical.{Placed}
use Rattle.c_syntax_spec.specs.Expression as tree
use Rattle.c_parse_spec.specs.declared.Role.{Role}
use Rattle.c_parse_spec.specs.declared.Role.TheVariants.{Nothing}
use Rattle.c_parse_spec.specs.Leaves.{plain}
use Rattle.c_parse_spec.specs.Expressions.{Counting}
use Rattle.exact_read.specs.Reading.{Parser}
use Rattle.exact_read.specs.Grammar.{read_then, read_map, read_nothing}
use Rattle.c_parse_laws.specs.Classes.{is_mark}
use Rattle.c_parse_laws.specs.Parsers.{Parsers, token, following, choose}
use Rattle.c_parse_laws.specs.Types.{Head, HeadVoid, HeadInteger, HeadName, HeadStruct, HeadEnum, head_at, plain_name_at, is_plain_name, read_words, integer_of, read_members, read_constants}
use Rattle.c_parse_laws.specs.Endings.{Ending, WordsAround, BraceToo, WordsToo}

abbrev pub Ended : Type 0
Ended = tree.TypeSpecifier × Ending

abbrev pub rich_struct : (names : List (List ℕ)) → Parsers → (depth : ℕ) → (counting : Counting) → Parser Placed Role Ended
rich_struct names inner depth counting =
    choose (is_plain_name names)
    (following (token Nothing plain (plain_name_at names)) (λ tag. choose (is_mark punctuator.LeftBrace)
    (read_map (λ members. (tree.Struct (Some tag) members, WordsAround)) (read_members names inner depth counting)) (read_nothing (tree.StructTag tag, BraceToo))))
    (read_map (λ members. (tree.Struct None members, WordsAround)) (read_members names inner depth counting))

abbrev pub rich_enum : (names : List (List ℕ)) → Parsers → (depth : ℕ) → (counting : Counting) → Parser Placed Role Ended
rich_enum names inner depth counting =
    choose (is_plain_name names)
    (following (token Nothing plain (plain_name_at names)) (λ tag. choose (is_mark punctuator.LeftBrace)
    (read_map (λ constants. (tree.Enum (Some tag) constants, WordsAround)) (read_constants names inner depth counting)) (read_nothing (tree.EnumTag tag, BraceToo))))
    (read_map (λ constants. (tree.Enum None constants, WordsAround)) (read_constants names inner depth counting))

abbrev pub rich_type_specifier_rest : (names : List (List ℕ)) → Parsers → (depth : ℕ) → (counting : Counting) → Head → Parser Placed Role Ended
rich_type_specifier_rest names inner depth counting HeadVoid = read_nothing (tree.Void, WordsAround)
rich_type_specifier_rest names inner depth counting (HeadInteger keyword) = read_map (λ words. (integer_of (keyword ∷ words), WordsToo (keyword ∷ words))) (read_words (keyword ∷ []))
rich_type_specifier_rest names inner depth counting (HeadName name) = read_nothing (tree.TypedefName name, WordsAround)
rich_type_specifier_rest names inner depth counting HeadStruct = rich_struct names inner depth counting
rich_type_specifier_rest names inner depth counting HeadEnum = rich_enum names inner depth counting

abbrev pub rich_type_specifier : (names : List (List ℕ)) → Parsers → (depth : ℕ) → (counting : Counting) → Parser Placed Role ((Head × ℕ) × Ended)
rich_type_specifier names inner depth counting = read_then (token Nothing plain (head_at names)) (λ head. rich_type_specifier_rest names inner depth counting head.0)
