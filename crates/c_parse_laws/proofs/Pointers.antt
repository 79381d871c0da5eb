-- `const` and `*` are read exactly.
use Rattle.std.proofs.Common.{◌≡◌, ℕ, Some, None, ap, cond, refl, Bool, not, ◌&&◌, List, [], ◌∷◌, ◌++◌, zero, suc, true, false, ◌∙◌, IsTrue, ◌||◌, length, sym, subst, Ok}
use Rattle.c_token_spec.specs.declared.token.Keyword.TheVariants.{Const}
use Rattle.c_token_spec.specs.declared.token.Punctuator.TheVariants as punctuator
use Rattle.c_token_spec.specs.Lexical.{Token, Name as name_token, Word, Number as number_token, Character as character_token, Mark, Placed}
use Rattle.c_parse_spec.specs.declared.Role.TheVariants.{Nothing}
use Rattle.c_parse_spec.specs.Leaves.{keyword_at, marks, Leaf, plain, mark}
use Rattle.c_parse_spec.specs.Expressions as grammar
use Rattle.exact_read.specs.Reading.{plains, Stops}
use Rattle.exact_read.specs.Exact.{Exact}
use Rattle.exact_read.specs.Grammar.{none, One, anything, Many, some, stop_many, read_many, read_map, bind}
use Rattle.exact_read.proofs.Parts.{stops_anything, exact-map, exact-same}
use Rattle.exact_read.proofs.Many.{Items, exact-many}
use Rattle.exact_read.proofs.Stop.{exact-stop, exact-enter}
use Rattle.c_parse_laws.specs.Classes.{mark_offset, is_mark}
use Rattle.c_parse_laws.specs.Parsers.{token, before}
use Rattle.c_parse_laws.specs.Types.{is_const, const_offset, read_consts, read_pointer}
use Rattle.c_parse_laws.proofs.Marks.{exact-mark, mark-passes, one-mark, mark-one}
use Rattle.exact_read.proofs.Contexts.{many-context_same}
use Rattle.c_parse_laws.proofs.Tokens.{TokenClass, leaves_of, unless_read, exact-tokens, Kept, exact-before, or_right, context_read}

-- `const`
const-token : (k : Token) (o offset : ℕ) → cond (is_const k) (Some o) None ≡ Some offset → record { token = k; offset = o } ≡ keyword_at Const offset
const-token (Word Const) o offset e = let same : o ≡ offset = cc in ap (keyword_at Const) same
const-token (Word other) o offset e = absurd (cc)
const-token (name_token spelling) o offset e = absurd (cc)
const-token (number_token value type) o offset e = absurd (cc)
const-token (character_token value) o offset e = absurd (cc)
const-token (Mark p) o offset e = absurd (cc)

pub const_class : TokenClass const_offset (λ t. is_const t.token) (keyword_at Const)
const_class = record { back = λ t x e. const-token t.token t.offset x e; self = λ x. refl; passes = λ x. refl; sample = 0 }

pub exact-consts : (entry : Placed → Bool) → Exact marks entry (λ xs text. text ≡ leaves_of (keyword_at Const) xs) (λ xs t. unless_read xs entry t && not (is_const t.token)) read_consts
exact-consts entry = exact-tokens const_class entry

pub consts_are : (xs : List ℕ) → grammar.Consts (leaves_of (keyword_at Const) xs)
consts_are [] = grammar.none
consts_are (x ∷ xs) = grammar.const (leaves_of (keyword_at Const) xs) x (consts_are xs)

pub are_consts : (text : List Leaf) → grammar.Consts text → (xs : List ℕ) × (text ≡ leaves_of (keyword_at Const) xs)
are_consts text grammar.none = ([], refl)
are_consts text (grammar.const t offset h) = let r = are_consts t h in (offset ∷ r.0, ap (λ t. plain (keyword_at Const offset) ∷ t) r.1)

-- a `*` and `const` after it
abbrev pub StarText : ℕ → List Leaf → Type 0
StarText = Kept (One plain (mark_offset punctuator.Star)) (λ (xs : List ℕ) text. text ≡ leaves_of (keyword_at Const) xs)

always : (xs : List ℕ) (t : Placed) → (unless_read xs anything t && not (is_const t.token)) ≡ not (is_const t.token)
always [] t = refl
always (x ∷ xs) t = refl

exact-star : Exact marks anything StarText (λ _ t. not (is_const t.token)) (before (token Nothing plain (mark_offset punctuator.Star)) read_consts)
exact-star =
    exact-before (exact-mark anything punctuator.Star Nothing plain (λ t. refl))
    (λ x. exact-stop (λ _ t. not (is_const t.token)) (λ xs text h t. always xs t) (exact-consts anything))
    record {
      ends = λ x y left right rest one two stops. stops_anything (plains marks right ++ rest);
      goes_on = λ x left one. ([], [], refl);
    }

-- where pointers end
abbrev pub stop_pointer : (entry : Placed → Bool) → ℕ → Placed → Bool
stop_pointer entry zero t = entry t && not (is_mark punctuator.Star t.token)
stop_pointer entry (suc n) t = not (is_const t.token) && not (is_mark punctuator.Star t.token)

abbrev ends_star : (entry : Placed → Bool) → (read : Bool) → Placed → Bool
ends_star entry true t = not (is_const t.token)
ends_star entry false t = entry t

star_const : (k : Token) → is_mark punctuator.Star k ≡ true → is_const k ≡ false
star_const (Mark p) e = refl
star_const (name_token spelling) e = refl
star_const (Word w) e = absurd (cc)
star_const (number_token value type) e = refl
star_const (character_token value) e = refl

star_items : (entry : Placed → Bool) → Items marks (λ (_ : Bool) t. is_mark punctuator.Star t.token) (ends_star entry) (λ _. StarText) (λ _ _ t. not (is_const t.token)) (λ (_ : Bool) (_ : ℕ). true)
star_items entry =
    record {
      begins = λ c x text k. (plain k.is_first.token, k.right, k.cut ∙ ap (λ t. t ++ k.right) k.is_first.cut, mark-passes punctuator.Star k.is_first.token x k.is_first.is);
      opens_next = λ c x rest stops. opens rest stops;
      stops_item = λ c x rest stops. ends rest stops;
    }
  where
    opens : (rest : List Placed) → Stops (λ t. not (is_const t.token)) rest → Stops (λ t. is_mark punctuator.Star t.token || not (is_const t.token)) rest
    opens [] h = tt
    opens (t ∷ rest) h = or_right (is_mark punctuator.Star t.token) (not (is_const t.token)) h

    by_test : (k : Token) (b : Bool) → is_mark punctuator.Star k ≡ b → IsTrue (b || not (is_const k)) → IsTrue (not (is_const k))
    by_test k true e h = rw (star_const k e) refl
    by_test k false e h = h

    ends : (rest : List Placed) → Stops (λ t. is_mark punctuator.Star t.token || not (is_const t.token)) rest → Stops (λ t. not (is_const t.token)) rest
    ends [] h = tt
    ends (t ∷ rest) h = by_test t.token (is_mark punctuator.Star t.token) refl h

abbrev Stars : (read : Bool) → List ℕ → List Leaf → Type 0
Stars = Many (λ (_ : Bool) (_ : ℕ). true) (λ _. StarText)

stars_pointer : (c : Bool) (xs : List ℕ) (text : List Leaf) → Stars c xs text → grammar.Pointer (length xs) text
stars_pointer c xs text (none d) = grammar.none
stars_pointer c xs text (some d x ys left right k rest) =
    let cut : left ++ right ≡ plain (mark punctuator.Star x) ∷ leaves_of (keyword_at Const) k.second ++ right =
    ap (λ t. t ++ right) (k.cut ∙ ap (λ t. t ++ k.right) (one-mark punctuator.Star plain x k.left k.is_first) ∙ ap (λ t. plain (mark punctuator.Star x) ∷ t) k.is_second) in
    subst (λ t. grammar.Pointer (suc (length ys)) t) (sym cut) (grammar.star (length ys) x (leaves_of (keyword_at Const) k.second) right (consts_are k.second) (stars_pointer true ys right rest))

pointer_stars : (c : Bool) (n : ℕ) (text : List Leaf) → grammar.Pointer n text → (xs : List ℕ) × ((n ≡ length xs) × Stars c xs text)
pointer_stars c n text grammar.none = ([], (refl, none c))
pointer_stars c n text (grammar.star m offset consts more h rest) =
    let r = pointer_stars true m more rest in
    let k = are_consts consts h in (
      offset ∷ r.0,
      (
        ap suc r.1.0,
        subst (λ t. Stars c (offset ∷ r.0) t) (refl)
            (some c offset r.0 (plain (mark punctuator.Star offset) ∷ consts) more (record { second = k.0; left = plain (mark punctuator.Star offset) ∷ []; right = consts; is_first = mark-one punctuator.Star plain offset; is_second = k.1; cut = refl }) r.1.1),
      ),
    )

pointer_stop : (entry : Placed → Bool) (xs : List ℕ) → stop_pointer entry (length xs) ≡ stop_many (λ (_ : Bool) t. is_mark punctuator.Star t.token) (ends_star entry) (λ (_ : Bool) (_ : ℕ). true) false xs
pointer_stop entry [] = refl
pointer_stop entry (x ∷ xs) = ap {B = Placed → Bool} (λ (c : Bool) (t : Placed). ends_star entry c t && not (is_mark punctuator.Star t.token)) (sym (context_read xs))

pub exact-pointer : (entry : Placed → Bool) → Exact marks entry grammar.Pointer (stop_pointer entry) read_pointer
exact-pointer entry =
    exact-same entry grammar.Pointer read_pointer (λ t h. or_right (is_mark punctuator.Star t.token) (entry t) h)
    (λ n text m. subst (λ k. grammar.Pointer k text) (sym m.is) (stars_pointer false m.inner text m.derives))
    (λ n text h. let r = pointer_stars false n text h in record { inner = r.0; is = r.1.0; derives = r.1.1 })
    same
    (exact-map length (stop_pointer entry) (λ xs. pointer_stop entry xs) (exact-many (star_items entry) (λ c. exact-enter (λ t. is_mark punctuator.Star t.token) exact-star) false))
  where
    same : (tokens : List Placed) → read_pointer tokens ≡ read_map length (read_many (λ (_ : Bool) t. is_mark punctuator.Star t.token) (λ _. before (token Nothing plain (mark_offset punctuator.Star)) read_consts) (λ (_ : Bool) (_ : ℕ). true) false) tokens
    same tokens =
        ap (λ o. bind o (λ x rest. Ok (length x, rest)))
        (many-context_same (λ (_ : Unit {0}) t. is_mark punctuator.Star t.token) (λ _. before (token Nothing plain (mark_offset punctuator.Star)) read_consts) (λ _ _. tt {0}) (λ (_ : Bool). tt {0}) (λ (_ : Bool) (_ : ℕ). true) (λ d x. refl) false tokens)
