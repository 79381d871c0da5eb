-- The loop over constants of an enumeration, and lists in types from their first.
use Rattle.std.proofs.Common.{◌≡◌, ℕ, ◌<◌, Bool, true, false, List, [], ◌∷◌, ◌++◌, length, refl, ap, ◌∙◌, Ok, Err, Option, Some, None, cond}
use Rattle.std.specs.Option.{is_some}
use Rattle.c_token_spec.specs.declared.token.Punctuator.TheVariants as punctuator
use Rattle.c_token_spec.specs.Lexical.{Placed, Token, Name, Word, Number, Character, Mark}
use Rattle.c_token.specs.declared.Token.{Token as TokenRow}
use Rattle.c_syntax_spec.specs.Expression as tree
use Rattle.c_parse_spec.specs.declared.Role.{Role}
use Rattle.c_parse_spec.specs.declared.Role.TheVariants.{Nothing}
use Rattle.c_parse_spec.specs.Leaves.{plain}
use Rattle.c_parse_spec.specs.Expressions.{is_typedef_name, Counting}
use Rattle.exact_read.specs.Reading.{Fault, Outcome, Parser}
use Rattle.exact_read.specs.Grammar.{bind}
use Rattle.exact_read.specs.Going.{begins, Going}
use Rattle.exact_read.proofs.Loops.{bind-ok, going-start, going-step, going-fault, going-end, going-same}
use Rattle.c_parse_laws.specs.Classes.{is_mark, mark_offset}
use Rattle.c_parse_laws.specs.Parsers.{Parsers, token, next_is}
use Rattle.c_parse_laws.specs.Types as types
use Rattle.c_parse_token.specs.Lists.{list_of}
use Rattle.c_parse_token.proofs.Steps.{fewer}
use Rattle.c_parse_expression.specs.Steps.{given, read_constants_from}

abbrev pub Row : Type 0
Row = tree.Name × Option tree.Expression

abbrev pub finish : (read : List Row) → types.After → List (Option Row) → Parser Placed Role (List Row × Role)
finish read after parts last = Ok ((read ++ given parts, types.after_role (types.context_of after parts)), last)

-- these constants were read, and more are being read
pub Constants : (names : List (List ℕ)) → (inner : Parsers) → (depth : ℕ) → (whole : Outcome Placed Role (List Row × Role)) → (read : List Row) → types.After → List Placed → Type 0
Constants names inner depth whole read after rest = Going (types.constants_start names) (types.read_constants_part names inner depth) types.next_after whole (finish read after) after rest

pub constants-start : (names : List (List ℕ)) (inner : Parsers) (depth : ℕ) (read : List Row) (after : types.After) (tokens : List Placed) → Constants names inner depth (read_constants_from names inner depth read after tokens) read after tokens
unfolding Constants
constants-start names inner depth read after tokens = going-start

-- what is next after a constant, and after a comma
next-comma : (names : List (List ℕ)) (end : Role) (counting : Counting) (tokens : List Placed) → begins (types.constants_start names) (types.AfterConstant end counting) tokens ≡ next_is (is_mark punctuator.Comma) tokens
next-comma names end counting [] = refl
next-comma names end counting (token ∷ more) = refl

any-offset : (names : List (List ℕ)) (token : Token) (offset : ℕ) → is_some (types.plain_name_of names token offset) ≡ types.is_plain_name names token
any-offset names (Name spelling) offset = by_test (is_typedef_name names spelling)
  where
    by_test : (b : Bool) → is_some {T = tree.Name} (cond b None (Some (record { spelling = spelling; offset = offset }))) ≡ is_some {T = tree.Name} (cond b None (Some (record { spelling = spelling; offset = 0 })))
    by_test true = refl
    by_test false = refl
any-offset names (Word keyword) offset = refl
any-offset names (Number value type) offset = refl
any-offset names (Character value) offset = refl
any-offset names (Mark punctuator) offset = refl

next-name : (names : List (List ℕ)) (counting : Counting) (tokens : List Placed) → begins (types.constants_start names) (types.AfterComma counting) tokens ≡ next_is (types.is_plain_name names) tokens
next-name names counting [] = refl
next-name names counting (token ∷ more) = any-offset names token.token token.offset

pub constants-comma : (names : List (List ℕ)) (inner : Parsers) (depth : ℕ) (whole : Outcome Placed Role (List Row × Role)) (read : List Row) (end : Role) (counting : Counting) (offset : ℕ) (tokens rest : List TokenRow) → Constants names inner depth whole read (types.AfterConstant end counting) (list_of tokens)
    → next_is (is_mark punctuator.Comma) (list_of tokens) ≡ true → token Nothing plain (mark_offset punctuator.Comma) (list_of tokens) ≡ Ok (offset, list_of rest) → length rest < length tokens → Constants names inner depth whole read (types.AfterComma counting) (list_of rest)
unfolding Constants
constants-comma names inner depth whole read end counting offset tokens rest going was e less =
    going-step going (next-comma names end counting (list_of tokens) ∙ was) None (list_of rest) (bind-ok (token Nothing plain (mark_offset punctuator.Comma) (list_of tokens)) (λ _ last. Ok (None, last)) offset (list_of rest) e) (fewer rest tokens less)

joined : (read : List Row) (x : Row) (more : List Row) → read ++ x ∷ more ≡ (read ++ x ∷ []) ++ more
joined [] x more = refl
joined (y ∷ read) x more = ap (λ xs. y ∷ xs) (joined read x more)

alone : (read : List Row) → read ++ [] ≡ read
alone [] = refl
alone (x ∷ read) = ap (λ xs. x ∷ xs) (alone read)

pub constants-step : (names : List (List ℕ)) (inner : Parsers) (depth : ℕ) (whole : Outcome Placed Role (List Row × Role)) (read : List Row) (counting : Counting) (x : Row) (tokens rest : List TokenRow) → Constants names inner depth whole read (types.AfterComma counting) (list_of tokens)
    → next_is (types.is_plain_name names) (list_of tokens) ≡ true → types.read_constant names inner depth counting (list_of tokens) ≡ Ok (x, list_of rest) → length rest < length tokens → Constants names inner depth whole (read ++ x ∷ []) (types.first_after counting x) (list_of rest)
unfolding Constants
constants-step names inner depth whole read counting x tokens rest going was e less =
    going-same (λ parts. finish read (types.AfterComma counting) (Some x ∷ parts)) (finish (read ++ x ∷ []) (types.first_after counting x)) (λ parts last. ap (λ xs. Ok ((xs, types.after_role (types.context_of (types.first_after counting x) parts)), last)) (joined read x (given parts)))
    (going-step going (next-name names counting (list_of tokens) ∙ was) (Some x) (list_of rest) (bind-ok (types.read_constant names inner depth counting (list_of tokens)) (λ c last. Ok (Some c, last)) x (list_of rest) e) (fewer rest tokens less))

pub constants-fault : (names : List (List ℕ)) (inner : Parsers) (depth : ℕ) (whole : Outcome Placed Role (List Row × Role)) (read : List Row) (counting : Counting) (tokens : List Placed) → Constants names inner depth whole read (types.AfterComma counting) tokens
    → next_is (types.is_plain_name names) tokens ≡ true → (fault : Fault Role × List Placed) → types.read_constant names inner depth counting tokens ≡ Err fault → whole ≡ Err fault
unfolding Constants
constants-fault names inner depth whole read counting tokens going was fault e = going-fault going (next-name names counting tokens ∙ was) fault (ap (λ o. bind o (λ c last. Ok (Some c, last))) e)

pub comma-fault : (names : List (List ℕ)) (inner : Parsers) (depth : ℕ) (whole : Outcome Placed Role (List Row × Role)) (read : List Row) (end : Role) (counting : Counting) (tokens : List Placed) → Constants names inner depth whole read (types.AfterConstant end counting) tokens
    → next_is (is_mark punctuator.Comma) tokens ≡ true → (fault : Fault Role × List Placed) → token Nothing plain (mark_offset punctuator.Comma) tokens ≡ Err fault → whole ≡ Err fault
unfolding Constants
comma-fault names inner depth whole read end counting tokens going was fault e = going-fault going (next-comma names end counting tokens ∙ was) fault (ap (λ o. bind o (λ _ last. Ok (None, last))) e)

pub constants-end : (names : List (List ℕ)) (inner : Parsers) (depth : ℕ) (whole : Outcome Placed Role (List Row × Role)) (read : List Row) (end : Role) (counting : Counting) (tokens : List Placed) → Constants names inner depth whole read (types.AfterConstant end counting) tokens
    → next_is (is_mark punctuator.Comma) tokens ≡ false → whole ≡ Ok ((read, end), tokens)
unfolding Constants
constants-end names inner depth whole read end counting tokens going ends = going-end going (next-comma names end counting tokens ∙ ends) ∙ ap (λ xs. Ok ((xs, end), tokens)) (alone read)

pub constants-end_comma : (names : List (List ℕ)) (inner : Parsers) (depth : ℕ) (whole : Outcome Placed Role (List Row × Role)) (read : List Row) (counting : Counting) (tokens : List Placed) → Constants names inner depth whole read (types.AfterComma counting) tokens
    → next_is (types.is_plain_name names) tokens ≡ false → whole ≡ Ok ((read, Nothing), tokens)
unfolding Constants
constants-end_comma names inner depth whole read counting tokens going ends = going-end going (next-name names counting tokens ∙ ends) ∙ ap (λ xs. Ok ((xs, Nothing), tokens)) (alone read)
