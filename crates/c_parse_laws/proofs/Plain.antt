-- Parts whose tokens have no role, and whose parsers call none wrong, keep roles.
use Rattle.std.proofs.Common.{List, [], ◌∷◌, ◌++◌, ◌≡◌, ap, sym, inr, Bool, refl, ℕ, zero, suc, true, false, Ok, Err, cond, length, Option, Some, None, subst, not, ◌&&◌}
use Rattle.std.specs.Option.{is_some, option_map_or}
use Rattle.c_token_spec.specs.declared.token.Keyword.{Keyword}
use Rattle.c_token_spec.specs.declared.token.Keyword.TheVariants.{Const}
use Rattle.c_token_spec.specs.declared.token.Punctuator.TheVariants as punctuator
use Rattle.c_token_spec.specs.Lexical.{Placed, Token, Name as name_token, Word, Number as number_token, Character as character_token, Mark}
use Rattle.c_parse_spec.specs.declared.Role.{Role}
use Rattle.c_parse_spec.specs.declared.Role.TheVariants.{Nothing}
use Rattle.c_parse_spec.specs.Leaves.{Leaf, plain, marks, keyword_at, mark}
use Rattle.c_parse_spec.specs.Expressions as grammar
use Rattle.exact_read.specs.Reading.{Within, Wrong, Parser, plains, Outcome}
use Rattle.exact_read.specs.Exact.{Exact}
use Rattle.exact_read.specs.Grammar.{bind, read_at_most, read_many}
use Rattle.exact_read.proofs.Basics.{err, ok, err_again}
use Rattle.c_parse_laws.specs.Classes.{is_mark, mark_offset}
use Rattle.c_parse_laws.specs.Parsers.{before, token}
use Rattle.c_parse_laws.specs.Types.{is_const, const_offset, read_consts, read_pointer, goes_on, word_of, read_words}
use Rattle.c_parse_laws.proofs.Tokens.{leaves_of, TokenClass, unless_read, exact-tokens}
use Rattle.c_parse_laws.proofs.Pointers.{exact-consts, stop_pointer, exact-pointer}
use Rattle.c_parse_laws.proofs.Words.{none, WordsAre, some, exact-words}
use Rattle.c_parse_laws.specs.Firm.{Firm}
use Rattle.c_parse_laws.proofs.Marks.{mark-some}

-- tokens that nothing is asked at, and that open nothing
pub data Plain : List Leaf → Type 0 where
  empty : Plain []
  then : (t : Placed) (text : List Leaf) → Plain text → Plain (plain t ∷ text)

pub plain-append : (left right : List Leaf) → Plain left → Plain right → Plain (left ++ right)
plain-append left right empty q = q
plain-append left right (then t text p) q = then t (text ++ right) (plain-append text right p q)

plain_within : (text : List Leaf) → Plain text → (prefix following : List Leaf) → text ≡ prefix ++ following → Within marks prefix
plain_within text p [] following e = tt
plain_within text empty (u ∷ prefix) following e = absurd (cc)
plain_within text (then t rest p) (u ∷ prefix) following e =
    let head : plain t ≡ u = cc in
    let tail : rest ≡ prefix ++ following = cc in
    (ap marks.over (sym head), plain_within rest p prefix following tail)

plain_role : (text : List Leaf) → Plain text → (prefix : List Leaf) (u : Leaf) (following : List Leaf) → text ≡ prefix ++ u ∷ following → u.role ≡ Nothing
plain_role text empty [] u following e = absurd (cc)
plain_role text empty (v ∷ prefix) u following e = absurd (cc)
plain_role text (then t rest p) [] u following e = let head : plain t ≡ u = cc in ap (λ (l : Leaf). l.role) (sym head)
plain_role text (then t rest p) (v ∷ prefix) u following e = let tail : rest ≡ prefix ++ u ∷ following = cc in plain_role rest p prefix u following tail

-- the parser calls no token wrong
abbrev pub Never : {X : Type 0} → Parser Placed Role X → Type 0
Never {X} read = (tokens : List Placed) (kind : Role) (rest : List Placed) → read tokens ≡ err {X = X} (Wrong kind) rest → ⊥

pub roled-never : {X : Type 0} {entry : Placed → Bool} {S : X → List Leaf → Type 0} {stop : X → Placed → Bool} {read : Parser Placed Role X} → Exact marks entry S stop read → Never read → ((x : X) (text : List Leaf) → S x text → Plain text) → Firm entry S stop read
roled-never is never plain_is =
    record {
      exact = is;
      asks = λ tokens kind rest enters e. absurd (never tokens kind rest e);
      reports = λ x text u derives within enters n. inr (plain_role (n.before ++ u ∷ n.more) (plain_is n.value (n.before ++ u ∷ n.more) n.derives) n.before u n.more refl);
      firm = λ x text kind rest derives within enters e. absurd (never (plains marks text ++ rest) kind rest e);
      alike = λ x y one following two after s t same within enters. plain_within (two ++ after) (plain_is y (two ++ after) t) two after refl;
    }

-- items that call none wrong where they begin
pub many_never : {X C : Type 0} (starts : C → Placed → Bool) (item : C → Parser Placed Role X) (next : C → X → C) → ((c : C) (t : Placed) (more : List Placed) (kind : Role) (rest : List Placed) → starts c t ≡ true → item c (t ∷ more) ≡ err {X = X} (Wrong kind) rest → ⊥) → (c : C) → Never (read_many starts item next c)
many_never {X} {C} starts item next never c tokens = at_most (length tokens) c tokens
  where
    at_most : (n : ℕ) (c : C) → Never (read_at_most starts item next n c)
    at_most zero c tokens kind rest e = cc
    at_most (suc n) c [] kind rest e = cc
    at_most (suc n) c (t ∷ more) kind rest e = by_test (starts c t) refl (λ d tokens f. at_most n d tokens kind rest f) e
      where
        by_rest : (x : X) (o : Outcome Placed Role (List X)) → (o ≡ err {X = List X} (Wrong kind) rest → ⊥) → bind o (λ xs after. ok (x ∷ xs) after) ≡ err {X = List X} (Wrong kind) rest → ⊥
        by_rest x (Ok (xs, after)) fails e = cc
        by_rest x (Err (fault, after)) fails e = fails e

        by_item : (o : Outcome Placed Role X) → (o ≡ err {X = X} (Wrong kind) rest → ⊥) → ((d : C) (tokens : List Placed) → read_at_most starts item next n d tokens ≡ err {X = List X} (Wrong kind) rest → ⊥) → bind o (λ x middle. bind (read_at_most starts item next n (next c x) middle) (λ xs after. ok (x ∷ xs) after)) ≡ err {X = List X} (Wrong kind) rest → ⊥
        by_item (Ok (x, middle)) fails again e = by_rest x (read_at_most starts item next n (next c x) middle) (again (next c x) middle) e
        by_item (Err (fault, after)) fails again e = fails (err_again {X = X} {Y = List X} e)

        by_test : (b : Bool) → starts c t ≡ b → ((d : C) (tokens : List Placed) → read_at_most starts item next n d tokens ≡ err {X = List X} (Wrong kind) rest → ⊥) → cond b (bind (item c (t ∷ more)) (λ x middle. bind (read_at_most starts item next n (next c x) middle) (λ xs after. ok (x ∷ xs) after))) (ok [] (t ∷ more)) ≡ err {X = List X} (Wrong kind) rest → ⊥
        by_test true s again e = by_item (item c (t ∷ more)) (λ f. never c t more kind rest s f) again e
        by_test false s again e = cc

-- a token of a class that it is of
pub token_never : {X : Type 0} (class : Placed → Option X) (t : Placed) (more : List Placed) (kind : Role) (rest : List Placed) → is_some (class t) ≡ true → token Nothing plain class (t ∷ more) ≡ err {X = X} (Wrong kind) rest → ⊥
token_never {X} class t more kind rest found e = by_class (class t) found e
  where
    by_class : (o : Option X) → is_some o ≡ true → option_map_or (λ x. ok x more) o (err (Wrong Nothing) (t ∷ more)) ≡ err {X = X} (Wrong kind) rest → ⊥
    by_class None f e = cc
    by_class (Some x) f e = cc

-- tokens of a class
leaves_plain : {X : Type 0} (spell : X → Placed) (xs : List X) → Plain (leaves_of spell xs)
leaves_plain spell [] = empty
leaves_plain spell (x ∷ xs) = then (spell x) (leaves_of spell xs) (leaves_plain spell xs)

pub tokens_never : {X : Type 0} (class : Placed → Option X) (test : Placed → Bool) → ((t : Placed) → test t ≡ true → is_some (class t) ≡ true) → Never (read_many (λ (_ : Unit {0}). test) (λ _. token Nothing plain class) (λ _ _. tt {0}) (tt {0}))
tokens_never class test found = many_never (λ (_ : Unit {0}). test) (λ _. token Nothing plain class) (λ _ _. tt {0}) (λ c t more kind rest s e. token_never class t more kind rest (found t s) e) tt

pub roled-tokens : {X : Type 0} {class : Placed → Option X} {test : Placed → Bool} {spell : X → Placed} → TokenClass class test spell → ((t : Placed) → test t ≡ true → is_some (class t) ≡ true) → (entry : Placed → Bool)
    → Firm entry (λ xs text. text ≡ leaves_of spell xs) (λ xs t. unless_read xs entry t && not (test t)) (read_many (λ (_ : Unit {0}). test) (λ _. token Nothing plain class) (λ _ _. tt {0}) (tt {0}))
roled-tokens {class = class} {test = test} {spell = spell} kind found entry = roled-never (exact-tokens kind entry) (tokens_never class test found) (λ xs text e. subst Plain (sym e) (leaves_plain spell xs))

-- `const` and pointers
pub const_found : (t : Placed) → is_const t.token ≡ true → is_some (const_offset t) ≡ true
const_found t e = rw e refl

consts_never : Never read_consts
consts_never = tokens_never const_offset (λ t. is_const t.token) const_found

pub roled-consts : (entry : Placed → Bool) → Firm entry (λ xs text. text ≡ leaves_of (keyword_at Const) xs) (λ xs t. unless_read xs entry t && not (is_const t.token)) read_consts
roled-consts entry = roled-never (exact-consts entry) consts_never (λ xs text e. subst Plain (sym e) (leaves_plain (keyword_at Const) xs))

consts_plain : (text : List Leaf) → grammar.Consts text → Plain text
consts_plain text grammar.none = empty
consts_plain text (grammar.const t offset h) = then (keyword_at Const offset) t (consts_plain t h)

pub pointer_plain : (n : ℕ) (text : List Leaf) → grammar.Pointer n text → Plain text
pointer_plain n text grammar.none = empty
pointer_plain n text (grammar.star m offset consts rest h k) = then (mark punctuator.Star offset) (consts ++ rest) (plain-append consts rest (consts_plain consts h) (pointer_plain m rest k))

star_never : (t : Placed) (more : List Placed) (kind : Role) (rest : List Placed) → is_mark punctuator.Star t.token ≡ true → before (token Nothing plain (mark_offset punctuator.Star)) read_consts (t ∷ more) ≡ err {X = ℕ} (Wrong kind) rest → ⊥
star_never t more kind rest s e = by_first (token Nothing plain (mark_offset punctuator.Star) (t ∷ more)) (λ f. token_never (mark_offset punctuator.Star) t more kind rest (ap is_some (mark-some punctuator.Star t s)) f) e
  where
    by_consts : (x : ℕ) (o : Outcome Placed Role (List ℕ)) → (o ≡ err {X = List ℕ} (Wrong kind) rest → ⊥) → bind o (λ _ after. ok x after) ≡ err {X = ℕ} (Wrong kind) rest → ⊥
    by_consts x (Ok (xs, after)) never e = cc
    by_consts x (Err (fault, after)) never e = never (err_again {X = List ℕ} {Y = ℕ} e)

    by_first : (o : Outcome Placed Role ℕ) → (o ≡ err {X = ℕ} (Wrong kind) rest → ⊥) → bind o (λ x middle. bind (read_consts middle) (λ _ after. ok x after)) ≡ err {X = ℕ} (Wrong kind) rest → ⊥
    by_first (Ok (x, middle)) never e = by_consts x (read_consts middle) (λ f. consts_never middle kind rest f) e
    by_first (Err (fault, after)) never e = never e

pub pointer_never : Never read_pointer
pointer_never tokens kind rest e = by_stars (stars tokens) (λ f. stars_never tokens kind rest f) e
  where
    stars : Parser Placed Role (List ℕ)
    stars = read_many (λ (_ : Unit {0}) next. is_mark punctuator.Star next.token) (λ _. before (token Nothing plain (mark_offset punctuator.Star)) read_consts) (λ _ _. tt {0}) (tt {0})

    stars_never : Never stars
    stars_never = many_never (λ (_ : Unit {0}) next. is_mark punctuator.Star next.token) (λ _. before (token Nothing plain (mark_offset punctuator.Star)) read_consts) (λ _ _. tt {0}) (λ c t more kind rest s e. star_never t more kind rest s e) tt

    by_stars : (o : Outcome Placed Role (List ℕ)) → (o ≡ err {X = List ℕ} (Wrong kind) rest → ⊥) → bind o (λ xs after. ok (length xs) after) ≡ err {X = ℕ} (Wrong kind) rest → ⊥
    by_stars (Ok (xs, after)) never e = cc
    by_stars (Err (fault, after)) never e = never (err_again {X = List ℕ} {Y = ℕ} e)

pub roled-pointer : (entry : Placed → Bool) → Firm entry grammar.Pointer (stop_pointer entry) read_pointer
roled-pointer entry = roled-never (exact-pointer entry) pointer_never pointer_plain

-- words of an integer type
words_plain : (words more : List Keyword) (text : List Leaf) → WordsAre words more text → Plain text
words_plain words more text (none ws) = empty
words_plain words more text (some ws w xs offset t e are) = then (keyword_at w offset) t (words_plain (ws ++ w ∷ []) xs t are)

word_found : (words : List Keyword) (t : Token) → goes_on words t ≡ true → is_some (word_of t) ≡ true
word_found words (Word w) e = refl
word_found words (name_token spelling) e = absurd (cc)
word_found words (number_token value type) e = absurd (cc)
word_found words (character_token value) e = absurd (cc)
word_found words (Mark p) e = absurd (cc)

pub roled-words : (words : List Keyword) → Firm (λ _. true) (WordsAre words) (λ more t. not (goes_on (words ++ more) t.token)) (read_words words)
roled-words words =
    roled-never (exact-words words)
    (many_never (λ words next. goes_on words next.token) (λ words. token Nothing plain (λ next. word_of next.token)) (λ words w. words ++ w ∷ []) (λ ws t more kind rest s e. token_never (λ next. word_of next.token) t more kind rest (word_found ws t.token s) e) words)
    (λ more text are. words_plain words more text are)
