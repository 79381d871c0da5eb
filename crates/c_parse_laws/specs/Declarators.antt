-- What it means that declarators keep roles.
use Rattle.std.specs.Prelude.{ℕ, suc, ◌≤◌, false, not, List}
use Rattle.c_token_spec.specs.declared.token.Punctuator.TheVariants as punctuator
use Rattle.c_parse_spec.specs.Expressions as grammar
use Rattle.c_parse_spec.specs.Limits.{nesting_limit}
use Rattle.exact_read.specs.Grammar.{anything}
use Rattle.c_parse_laws.specs.Classes.{is_mark}
use Rattle.c_parse_laws.specs.Parsers.{Parsers}
use Rattle.c_parse_laws.specs.Stops.{stop_conditional}
use Rattle.c_parse_laws.specs.Types.{plain_name_at, read_declarator}
use Rattle.c_parse_laws.specs.Firm.{Firm}

-- expressions one construct deeper keep roles, where so many may be open, from this count of operators on
abbrev pub Whole : (names : List (List ℕ)) → Parsers → (depth least : ℕ) → Type 0
Whole names inner depth least = suc depth ≤ nesting_limit → (count : ℕ) → least ≤ count → Firm anything (grammar.Conditional names (suc depth) count) stop_conditional (inner.conditional (suc depth) count)

abbrev pub DeclaratorsReport : Type 0
DeclaratorsReport =
    (names : List (List ℕ)) (inner : Parsers) (depth : ℕ) (counting : grammar.Counting) → Whole names inner depth (grammar.count_at counting)
    → Firm anything (grammar.Declarator names false depth counting) (λ _ t. not (is_mark punctuator.LeftBracket t.token)) (read_declarator (plain_name_at names) inner depth counting)
