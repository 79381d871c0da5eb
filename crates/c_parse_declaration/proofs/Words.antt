-- The loop over words around a base.
use Rattle.std.proofs.Common.{◌≡◌, ℕ, ◌<◌, Bool, true, false, ◌||◌, List, [], ◌∷◌, length, drop, map, refl, ap, sym, ◌∙◌, Ok, Option, Some, None}
use Rattle.std.specs.Prelude.{option_map, unwrap_or}
use Rattle.std.specs.Option.{is_some}
use Rattle.c_token_spec.specs.declared.token.Keyword.{Keyword}
use Rattle.c_token_spec.specs.Lexical.{Placed}
use Rattle.c_syntax_spec.specs.Expression as tree
use Rattle.c_parse_spec.specs.declared.Role.{Role}
use Rattle.c_parse_spec.specs.declared.Role.TheVariants.{Nothing}
use Rattle.c_parse_spec.specs.Leaves.{plain}
use Rattle.c_parse_spec.specs.Expressions.{both}
use Rattle.exact_read.specs.Reading.{Outcome}
use Rattle.exact_read.specs.Grammar.{read_map}
use Rattle.exact_read.specs.Going.{Going}
use Rattle.exact_read.proofs.Loops.{going-start, going-step, going-end, going-same}
use Rattle.c_parse_laws.specs.Parsers.{token, next_is}
use Rattle.c_parse_laws.specs.Types.{no_storage}
use Rattle.c_parse_laws.specs.Specified.{read_around}
use Rattle.c_parse_laws.specs.Around.{LocalWord, LocalConst, LocalStatic, ExternalWord, ExternalConst, ExternalTypedef, ExternalExtern, ExternalStatic, ExternalInline, local_word, external_word, with_local, with_item, word_of, is_word, word_at, storage_of}
use Rattle.c_parse_token.specs.Words.{first_with}
use Rattle.c_parse_token.proofs.Steps.{begins-next}
use Rattle.c_parse_declaration.specs.Words.{next_says, summary, read_words}

-- what words say is gathered from the left
or-same : (a b c : Bool) → (a || (b || c)) ≡ ((a || b) || c)
or-same true b c = refl
or-same false b c = refl

or-none : (a : Bool) → (a || false) ≡ a
or-none true = refl
or-none false = refl

both-same : (one two three : tree.Storage) → both one (both two three) ≡ both (both one two) three
both-same one two three =
    let typedefs : Bool → tree.Storage = λ b. record { is_typedef = b; is_static = one.is_static || (two.is_static || three.is_static) } in
    let statics : Bool → tree.Storage = λ b. record { is_typedef = (one.is_typedef || two.is_typedef) || three.is_typedef; is_static = b } in
    ap typedefs (or-same one.is_typedef two.is_typedef three.is_typedef) ∙ ap statics (or-same one.is_static two.is_static three.is_static)

both-none : (one : tree.Storage) → both one no_storage ≡ one
both-none one =
    let typedefs : Bool → tree.Storage = λ b. record { is_typedef = b; is_static = one.is_static || false } in
    let statics : Bool → tree.Storage = λ b. record { is_typedef = one.is_typedef; is_static = b } in
    ap typedefs (or-none one.is_typedef) ∙ ap statics (or-none one.is_static)

first-offset : (first : Option ℕ) (offset : ℕ) (offsets : List ℕ) → first_with first (offset ∷ offsets) ≡ first_with (Some (unwrap_or first offset)) offsets
first-offset None offset offsets = refl
first-offset (Some other) offset offsets = refl

first-alone : (first : Option ℕ) → first_with first [] ≡ first
first-alone None = refl
first-alone (Some offset) = refl

-- words of a class are being read, after those that said this
abbrev gathered : {W : Type 0} → (with : W → tree.Storage → tree.Storage) → tree.Storage → Option ℕ → List (W × ℕ) → tree.Storage × Option ℕ
gathered with storage first words = (both storage (storage_of with words), first_with first (map (λ word. word.1) words))

abbrev Gathering : {W : Type 0} → (of : Keyword → Option W) → (with : W → tree.Storage → tree.Storage) → (whole : Outcome Placed Role (tree.Storage × Option ℕ)) → tree.Storage → Option ℕ → List Placed → Type 0
Gathering of with whole storage first rest = Going (λ (_ : Unit {0}) next. is_word of next.token) (λ _. token Nothing plain (word_at of)) (λ _ _. tt {0}) whole (λ words last. Ok (gathered with storage first words, last)) (tt {0}) rest

gathering-start : {W : Type 0} (of : Keyword → Option W) (with : W → tree.Storage → tree.Storage) (tokens : List Placed) → Gathering of with (read_map (summary with) (read_around (word_at of) (is_word of)) tokens) no_storage None tokens
gathering-start of with tokens = going-start

-- what the next token says, of a class
abbrev next_of : {W : Type 0} → (of : Keyword → Option W) → (with : W → tree.Storage → tree.Storage) → List Placed → Option (tree.Storage × ℕ)
next_of of with [] = None
next_of of with (next ∷ rest) = option_map (λ said. (said, next.offset)) (option_map (λ word. with word no_storage) (word_of of next.token))

next-local : (tokens : List Placed) → next_says false tokens ≡ next_of local_word with_local tokens
next-local [] = refl
next-local (next ∷ rest) = refl

next-item : (tokens : List Placed) → next_says true tokens ≡ next_of external_word with_item tokens
next-item [] = refl
next-item (next ∷ rest) = refl

next-word : {W : Type 0} (of : Keyword → Option W) (with : W → tree.Storage → tree.Storage) (said : tree.Storage) (offset : ℕ) (tokens : List Placed) → next_of of with tokens ≡ Some (said, offset)
    → (word : W) × (token Nothing plain (word_at of) tokens ≡ Ok ((word, offset), drop 1 tokens)) × (next_is (is_word of) tokens ≡ true) × (with word no_storage ≡ said)
next-word of with said offset [] e = absurd (cc)
next-word {W} of with said offset (next ∷ rest) e = by_word (word_of of next.token) refl e
  where
    by_word : (found : Option W) → word_of of next.token ≡ found → option_map {U = tree.Storage × ℕ} (λ s. (s, next.offset)) (option_map (λ w. with w no_storage) found) ≡ Some (said, offset)
        → (word : W) × (token Nothing plain (word_at of) (next ∷ rest) ≡ Ok ((word, offset), rest)) × (is_word of next.token ≡ true) × (with word no_storage ≡ said)
    by_word None is h = absurd (cc)
    by_word (Some word) is h =
        let parts : (with word no_storage, next.offset) ≡ (said, offset) = ap (λ o. unwrap_or o (said, offset)) h in
        (word, rw is (ap (λ (p : tree.Storage × ℕ). Ok ((word, p.1), rest)) parts), ap is_some is, ap (λ (p : tree.Storage × ℕ). p.0) parts)

gathering-step : {W : Type 0} (of : Keyword → Option W) (with : W → tree.Storage → tree.Storage) → ((word : W) (storage : tree.Storage) → with word storage ≡ both (with word no_storage) storage) → (whole : Outcome Placed Role (tree.Storage × Option ℕ)) (storage said : tree.Storage) (first : Option ℕ) (offset : ℕ) (tokens : List Placed)
    → Gathering of with whole storage first tokens → next_of of with tokens ≡ Some (said, offset) → length (drop 1 tokens) < length tokens → Gathering of with whole (both storage said) (Some (unwrap_or first offset)) (drop 1 tokens)
gathering-step {W} of with law whole storage said first offset tokens going e less =
    let next = next-word of with said offset tokens e in
    let offsets : List (W × ℕ) → List ℕ = map (λ word. word.1) in
    let same : (words : List (W × ℕ)) → gathered with storage first ((next.0, offset) ∷ words) ≡ gathered with (both storage said) (Some (unwrap_or first offset)) words =
    λ words.
    ap (λ s. (both storage s, first_with first (offset ∷ offsets words))) (law next.0 (storage_of with words))
    ∙ ap (λ s. (both storage (both s (storage_of with words)), first_with first (offset ∷ offsets words))) next.3
    ∙ ap (λ s. (s, first_with first (offset ∷ offsets words))) (both-same storage said (storage_of with words))
    ∙ ap (λ f. (both (both storage said) (storage_of with words), f)) (first-offset first offset (offsets words)) in
    going-same (λ words last. Ok (gathered with storage first ((next.0, offset) ∷ words), last)) (λ words last. Ok (gathered with (both storage said) (Some (unwrap_or first offset)) words, last)) (λ words last. ap (λ made. Ok (made, last)) (same words))
    (going-step going (begins-next (λ (_ : Unit {0}). is_word of) (tt {0}) tokens ∙ next.2) (next.0, offset) (drop 1 tokens) next.1 less)

no-word : {W : Type 0} (of : Keyword → Option W) (with : W → tree.Storage → tree.Storage) (tokens : List Placed) → next_of of with tokens ≡ None → next_is (is_word of) tokens ≡ false
no-word of with [] e = refl
no-word {W} of with (next ∷ rest) e = by_word (word_of of next.token) e
  where
    by_word : (word : Option W) → option_map {U = tree.Storage × ℕ} (λ said. (said, next.offset)) (option_map (λ w. with w no_storage) word) ≡ None → is_some word ≡ false
    by_word None h = refl
    by_word (Some word) h = absurd (cc)

gathering-end : {W : Type 0} (of : Keyword → Option W) (with : W → tree.Storage → tree.Storage) (whole : Outcome Placed Role (tree.Storage × Option ℕ)) (storage : tree.Storage) (first : Option ℕ) (tokens : List Placed) → Gathering of with whole storage first tokens → next_of of with tokens ≡ None → whole ≡ Ok ((storage, first), tokens)
gathering-end of with whole storage first tokens going e =
    going-end going (begins-next (λ (_ : Unit {0}). is_word of) (tt {0}) tokens ∙ no-word of with tokens e)
    ∙ ap (λ s. Ok ((s, first_with first []), tokens)) (both-none storage) ∙ ap (λ f. Ok ((storage, f), tokens)) (first-alone first)

-- the same of the words of locals, and of items
pub Words : (of_item : Bool) → (whole : Outcome Placed Role (tree.Storage × Option ℕ)) → tree.Storage → Option ℕ → List Placed → Type 0
Words false = Gathering local_word with_local
Words true = Gathering external_word with_item

local-law : (word : LocalWord) (storage : tree.Storage) → with_local word storage ≡ both (with_local word no_storage) storage
local-law LocalConst storage = refl
local-law LocalStatic storage = refl

item-law : (word : ExternalWord) (storage : tree.Storage) → with_item word storage ≡ both (with_item word no_storage) storage
item-law ExternalConst storage = refl
item-law ExternalTypedef storage = refl
item-law ExternalExtern storage = refl
item-law ExternalStatic storage = refl
item-law ExternalInline storage = refl

pub words-start : (of_item : Bool) (tokens : List Placed) → Words of_item (read_words of_item tokens) no_storage None tokens
unfolding Words
words-start false tokens = gathering-start local_word with_local tokens
words-start true tokens = gathering-start external_word with_item tokens

pub words-step : (of_item : Bool) (whole : Outcome Placed Role (tree.Storage × Option ℕ)) (storage said : tree.Storage) (first : Option ℕ) (offset : ℕ) (tokens : List Placed) → Words of_item whole storage first tokens → next_says of_item tokens ≡ Some (said, offset) → length (drop 1 tokens) < length tokens
    → Words of_item whole (both storage said) (Some (unwrap_or first offset)) (drop 1 tokens)
unfolding Words
words-step false whole storage said first offset tokens going e less = gathering-step local_word with_local local-law whole storage said first offset tokens going (sym (next-local tokens) ∙ e) less
words-step true whole storage said first offset tokens going e less = gathering-step external_word with_item item-law whole storage said first offset tokens going (sym (next-item tokens) ∙ e) less

pub words-end : (of_item : Bool) (whole : Outcome Placed Role (tree.Storage × Option ℕ)) (storage : tree.Storage) (first : Option ℕ) (tokens : List Placed) → Words of_item whole storage first tokens → next_says of_item tokens ≡ None → whole ≡ Ok ((storage, first), tokens)
unfolding Words
words-end false whole storage first tokens going e = gathering-end local_word with_local whole storage first tokens going (sym (next-local tokens) ∙ e)
words-end true whole storage first tokens going e = gathering-end external_word with_item whole storage first tokens going (sym (next-item tokens) ∙ e)
