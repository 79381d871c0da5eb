-- Parsers of specifiers, for any class of keywords beside the type specifier.
use Rattle.std.specs.Prelude.{ℕ, List, [], ◌∷◌, Bool, Option}
use Rattle.c_token_spec.specs.Lexical.{Placed, Token}
use Rattle.c_syntax_spec.specs.Expression as tree
use Rattle.c_parse_spec.specs.declared.Role.{Role}
use Rattle.c_parse_spec.specs.declared.Role.TheVariants.{Nothing}
use Rattle.c_parse_spec.specs.Leaves.{plain}
use Rattle.c_parse_spec.specs.Expressions.{both, Counting}
use Rattle.exact_read.specs.Reading.{Parser}
use Rattle.exact_read.specs.Grammar.{read_then, read_map, read_many}
use Rattle.c_parse_laws.specs.Parsers.{Parsers, token}
use Rattle.c_parse_laws.specs.Types.{read_type_specifier}
use Rattle.c_parse_laws.specs.Endings.{Ending, WordsAround}
use Rattle.c_parse_laws.specs.Rich.{rich_type_specifier}

-- such keywords, as long as one comes next
abbrev pub read_around : {X : Type 0} → (class : Placed → Option X) → (test : Token → Bool) → Parser Placed Role (List X)
read_around class test = read_many (λ (_ : Unit {0}) next. test next.token) (λ _. token Nothing plain class) (λ _ _. tt {0}) (tt {0})

-- the offset of the first keyword, or of the type specifier
abbrev pub first_at : {X : Type 0} → (spell : X → Placed) → List X → (offset : ℕ) → ℕ
first_at spell [] offset = offset
first_at spell (x ∷ xs) offset = (spell x).offset

-- specifiers by their keywords and their type specifier
abbrev pub read_specified : {X : Type 0} → (class : Placed → Option X) → (test : Token → Bool) → (spell : X → Placed) → (storage : List X → tree.Storage) → (names : List (List ℕ)) → Parsers → (depth : ℕ) → (counting : Counting) → Parser Placed Role tree.Specifiers
read_specified class test spell storage names inner depth counting =
    read_map (λ made. tree.Specified (both (storage made.0) (storage made.1.1)) made.1.0.1 (first_at spell made.0 made.1.0.0.1))
    (read_then (read_around class test) (λ _. read_then (read_type_specifier names inner depth counting) (λ _. read_around class test)))

-- such keywords after a type specifier end it
abbrev pub ending_after : {X : Type 0} → List X → Ending → Ending
ending_after [] end = end
ending_after (x ∷ xs) end = WordsAround

abbrev pub rich_specified : {X : Type 0} → (class : Placed → Option X) → (test : Token → Bool) → (spell : X → Placed) → (storage : List X → tree.Storage) → (names : List (List ℕ)) → Parsers → (depth : ℕ) → (counting : Counting) → Parser Placed Role (tree.Specifiers × Ending)
rich_specified class test spell storage names inner depth counting =
    read_map (λ made. (tree.Specified (both (storage made.0) (storage made.1.1)) made.1.0.1.0 (first_at spell made.0 made.1.0.0.1), ending_after made.1.1 made.1.0.1.1))
    (read_then (read_around class test) (λ _. read_then (rich_type_specifier names inner depth counting) (λ _. read_around class test)))
