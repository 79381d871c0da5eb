-- The steps of the loops over tokens.
use Rattle.std.proofs.Common.{◌≡◌, ℕ, ◌+◌, ◌<◌, Bool, true, false, List, [], ◌∷◌, ◌++◌, length, refl, ap, sym, ◌∙◌, drop, Ok, Err, Option, Some, None, arith}
use Rattle.std.specs.Prelude.{option_and_then, unwrap_or}
use Rattle.std.specs.Option.{option_map_or, is_some}
use Rattle.std.proofs.lemmas.List.{length-map}
use Rattle.exact_read.specs.Reading.{Outcome, Wrong}
use Rattle.exact_read.specs.Grammar.{bind, read_map, read_many}
use Rattle.exact_read.specs.Going.{begins, Going}
use Rattle.exact_read.proofs.Loops.{going-start, going-step, going-end, going-same, bind-ok, map-ok}
use Rattle.c_token_spec.specs.declared.token.Keyword.{Keyword}
use Rattle.c_token_spec.specs.declared.token.Punctuator.TheVariants as punctuator
use Rattle.c_token_spec.specs.Lexical.{Placed, Token}
use Rattle.c_token.specs.declared.Token.{Token as TokenRow}
use Rattle.c_token.specs.Pieces.{placed_of}
use Rattle.c_syntax_spec.specs.declared.IntegerType.{IntegerType}
use Rattle.c_syntax_spec.specs.declared.IntegerType.TheVariants.{Int}
use Rattle.c_syntax_spec.specs.Expression as tree
use Rattle.c_parse_spec.specs.declared.Role.{Role}
use Rattle.c_parse_spec.specs.declared.Role.TheVariants.{Nothing}
use Rattle.c_parse_spec.specs.Leaves.{plain}
use Rattle.c_parse_spec.specs.Expressions.{integer_type_of}
use Rattle.c_parse_laws.specs.Classes.{is_mark, mark_offset}
use Rattle.c_parse_laws.specs.Parsers.{token, next_is, before}
use Rattle.c_parse_laws.specs.Types.{is_const, const_offset, read_consts, read_words, goes_on, word_of, integer_of}
use Rattle.c_parse_token.specs.Lists.{list_of}
use Rattle.c_parse_token.specs.Words.{first_of, first_with, next_word, with_next, type_next}

-- the next token begins an item, by a test of the token
pub begins-next : {C : Type 0} (test : C → Token → Bool) (context : C) (tokens : List Placed) → begins (λ c next. test c next.token) context tokens ≡ next_is (test context) tokens
begins-next test context [] = refl
begins-next test context (token ∷ more) = refl

-- fewer tokens are fewer on the list
pub fewer : (one two : List TokenRow) → length one < length two → length (list_of one) < length (list_of two)
fewer one two l = rw (length-map one placed_of, length-map two placed_of) l

-- offsets of `const` are being read, of which these were the first
pub Consts : (whole : Outcome Placed Role (Option ℕ)) → (first : Option ℕ) → List Placed → Type 0
Consts whole first rest = Going (λ (_ : Unit {0}) next. is_const next.token) (λ _. token Nothing plain const_offset) (λ _ _. tt {0}) whole (λ offsets last. Ok (first_with first offsets, last)) (tt {0}) rest

pub consts-start : (tokens : List Placed) → Consts (read_map first_of read_consts tokens) None tokens
unfolding Consts
consts-start tokens = going-start

with-first : (first : Option ℕ) (offset : ℕ) (offsets : List ℕ) → first_with first (offset ∷ offsets) ≡ first_with (Some (unwrap_or first offset)) offsets
with-first None offset offsets = refl
with-first (Some other) offset offsets = refl

pub consts-step : (whole : Outcome Placed Role (Option ℕ)) (first : Option ℕ) (tokens rest : List Placed) (offset : ℕ) → Consts whole first tokens → next_is is_const tokens ≡ true → token Nothing plain const_offset tokens ≡ Ok (offset, rest) → length rest < length tokens → Consts whole (Some (unwrap_or first offset)) rest
unfolding Consts
consts-step whole first tokens rest offset going was e less =
    going-same (λ offsets last. Ok (first_with first (offset ∷ offsets), last)) (λ offsets last. Ok (first_with (Some (unwrap_or first offset)) offsets, last)) (λ offsets last. ap (λ f. Ok (f, last)) (with-first first offset offsets))
    (going-step going (begins-next (λ (_ : Unit {0}). is_const) (tt {0}) tokens ∙ was) offset rest e less)

first-alone : (first : Option ℕ) → first_with first [] ≡ first
first-alone None = refl
first-alone (Some offset) = refl

pub consts-end : (whole : Outcome Placed Role (Option ℕ)) (first : Option ℕ) (tokens : List Placed) → Consts whole first tokens → next_is is_const tokens ≡ false → whole ≡ Ok (first, tokens)
unfolding Consts
consts-end whole first tokens going ends = going-end going (begins-next (λ (_ : Unit {0}). is_const) (tt {0}) tokens ∙ ends) ∙ ap (λ f. Ok (f, tokens)) (first-alone first)

-- `*` are being read, of which there were so many
pub Stars : (whole : Outcome Placed Role ℕ) → (stars : ℕ) → List Placed → Type 0
Stars whole stars rest = Going (λ (_ : Unit {0}) next. is_mark punctuator.Star next.token) (λ _. before (token Nothing plain (mark_offset punctuator.Star)) read_consts) (λ _ _. tt {0}) whole (λ offsets last. Ok (stars + length offsets, last)) (tt {0}) rest

pub stars-start : (tokens : List Placed) → Stars (read_map length (read_many (λ (_ : Unit {0}) next. is_mark punctuator.Star next.token) (λ _. before (token Nothing plain (mark_offset punctuator.Star)) read_consts) (λ _ _. tt {0}) (tt {0})) tokens) 0 tokens
unfolding Stars
stars-start tokens = going-same (λ offsets last. Ok (length offsets, last)) (λ offsets last. Ok (0 + length offsets, last)) (λ offsets last. ap (λ n. Ok (n, last)) (omega arith)) going-start

pub stars-step : (whole : Outcome Placed Role ℕ) (stars : ℕ) (tokens middle rest : List Placed) (offset : ℕ) (first : Option ℕ) → Stars whole stars tokens → next_is (is_mark punctuator.Star) tokens ≡ true → token Nothing plain (mark_offset punctuator.Star) tokens ≡ Ok (offset, middle) → read_map first_of read_consts middle ≡ Ok (first, rest) → length rest < length tokens → Stars whole (stars + 1) rest
unfolding Stars
stars-step whole stars tokens middle rest offset first going was e consts less =
    let c = map-ok first_of read_consts middle first rest consts in
    let item : before (token Nothing plain (mark_offset punctuator.Star)) read_consts tokens ≡ Ok (offset, rest) =
    bind-ok (token Nothing plain (mark_offset punctuator.Star) tokens) (λ x left. bind (read_consts left) (λ _ last. Ok (x, last))) offset middle e
    ∙ bind-ok (read_consts middle) (λ _ last. Ok (offset, last)) c.0 rest c.1 in
    going-same (λ offsets last. Ok (stars + length (offset ∷ offsets), last)) (λ offsets last. Ok (stars + 1 + length offsets, last)) (λ offsets last. ap (λ n. Ok (n, last)) (omega arith))
    (going-step going (begins-next (λ (_ : Unit {0}). is_mark punctuator.Star) (tt {0}) tokens ∙ was) offset rest item less)

pub stars-end : (whole : Outcome Placed Role ℕ) (stars : ℕ) (tokens : List Placed) → Stars whole stars tokens → next_is (is_mark punctuator.Star) tokens ≡ false → whole ≡ Ok (stars, tokens)
unfolding Stars
stars-end whole stars tokens going ends = going-end going (begins-next (λ (_ : Unit {0}). is_mark punctuator.Star) (tt {0}) tokens ∙ ends) ∙ ap (λ n. Ok (n, tokens)) (omega arith)

-- words of an integer type are being read, after these
pub Words : (whole : Outcome Placed Role tree.TypeSpecifier) → (words : List Keyword) → List Placed → Type 0
Words whole words rest = Going (λ before next. goes_on before next.token) (λ _. token Nothing plain (λ next. word_of next.token)) (λ before word. before ++ word ∷ []) whole (λ more last. Ok (integer_of (words ++ more), last)) words rest

pub words-start : (first : Keyword) (tokens : List Placed) → Words (read_map (λ words. integer_of (first ∷ words)) (read_words (first ∷ [])) tokens) (first ∷ []) tokens
unfolding Words
words-start first tokens = going-start

begins-word : (words : List Keyword) (tokens : List Placed) → begins (λ before next. goes_on before next.token) words tokens ≡ option_map_or (λ word. is_some (integer_type_of (words ++ word ∷ []))) (next_word tokens) false
begins-word words [] = refl
begins-word words (token ∷ more) = refl

joined : (words : List Keyword) (word : Keyword) (more : List Keyword) → words ++ word ∷ more ≡ (words ++ word ∷ []) ++ more
joined [] word more = refl
joined (other ∷ words) word more = ap (λ w. other ∷ w) (joined words word more)

-- the next keyword is read
read-word : (tokens : List Placed) (word : Keyword) → next_word tokens ≡ Some word → token Nothing plain (λ next. word_of next.token) tokens ≡ Ok (word, drop 1 tokens)
read-word [] word e = absurd (cc)
read-word (next ∷ more) word e = ap (λ w. option_map_or (λ x. Ok (x, more)) w (Err (Wrong Nothing, next ∷ more))) e

words-step : (whole : Outcome Placed Role tree.TypeSpecifier) (words : List Keyword) (word : Keyword) (tokens : List Placed) → Words whole words tokens → next_word tokens ≡ Some word → is_some (integer_type_of (words ++ word ∷ [])) ≡ true → length (drop 1 tokens) < length tokens → Words whole (words ++ word ∷ []) (drop 1 tokens)
unfolding Words
words-step whole words word tokens going next some less =
    going-same (λ more last. Ok (integer_of (words ++ word ∷ more), last)) (λ more last. Ok (integer_of ((words ++ word ∷ []) ++ more), last)) (λ more last. ap (λ w. Ok (integer_of w, last)) (joined words word more))
    (going-step going (begins-word words tokens ∙ ap (λ n. option_map_or (λ w. is_some (integer_type_of (words ++ w ∷ []))) n false) next ∙ some) word (drop 1 tokens) (read-word tokens word next) less)

-- a word that names a type with those before
pub words-more : (whole : Outcome Placed Role tree.TypeSpecifier) (words : List Keyword) (named : IntegerType) (tokens : List Placed) → Words whole words tokens → Some named ≡ type_next words tokens → length (drop 1 tokens) < length tokens → Words whole (with_next words tokens) (drop 1 tokens) × (named ≡ unwrap_or (integer_type_of (with_next words tokens)) Int)
words-more whole words named tokens going e less = by_word (next_word tokens) refl e
  where
    by_word : (word : Option Keyword) → next_word tokens ≡ word → Some named ≡ option_and_then (λ w. integer_type_of (words ++ w ∷ [])) word → Words whole (option_map_or (λ w. words ++ w ∷ []) word words) (drop 1 tokens) × (named ≡ unwrap_or (integer_type_of (option_map_or (λ w. words ++ w ∷ []) word words)) Int)
    by_word None next h = absurd (cc)
    by_word (Some word) next h = (words-step whole words word tokens going next (ap is_some (sym h)) less, ap (λ t. unwrap_or t Int) h)

words-alone : (words : List Keyword) → words ++ [] ≡ words
words-alone [] = refl
words-alone (word ∷ words) = ap (λ w. word ∷ w) (words-alone words)

pub words-end : (whole : Outcome Placed Role tree.TypeSpecifier) (words : List Keyword) (named : IntegerType) (tokens : List Placed) → Words whole words tokens → named ≡ unwrap_or (integer_type_of words) Int → None ≡ type_next words tokens → whole ≡ Ok (tree.Integer named, tokens)
unfolding Words
words-end whole words named tokens going is e =
    going-end going (begins-word words tokens ∙ by_word (next_word tokens) e) ∙ ap (λ w. Ok (integer_of w, tokens)) (words-alone words) ∙ ap (λ t. Ok (tree.Integer t, tokens)) (sym is)
  where
    by_word : (word : Option Keyword) → None ≡ option_and_then (λ w. integer_type_of (words ++ w ∷ [])) word → option_map_or (λ w. is_some (integer_type_of (words ++ w ∷ []))) word false ≡ false
    by_word None h = refl
    by_word (Some word) h = ap is_some (sym h)
