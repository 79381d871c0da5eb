-- Types with the bracket after them keep roles.
use Rattle.std.proofs.Common.{◌≡◌, Bool, true, false, List, refl, sym, ◌∙◌, ℕ, [], ◌∷◌, ap, Some, Ok, Err, zero, suc, IsTrue, ◌++◌, ◌≤◌, not, ◌&&◌}
use Rattle.c_token_spec.specs.declared.token.Keyword.{Keyword}
use Rattle.c_token_spec.specs.declared.token.Keyword.TheVariants.{Const, Void}
use Rattle.c_token_spec.specs.declared.token.Punctuator.TheVariants as punctuator
use Rattle.c_token_spec.specs.Lexical.{Word, Token, Name as name_token, Number as number_token, Character as character_token, Mark, Placed}
use Rattle.c_syntax_spec.specs.Expression as tree
use Rattle.c_parse_spec.specs.declared.Role.{Role}
use Rattle.c_parse_spec.specs.declared.Role.TheVariants.{Nothing}
use Rattle.c_parse_spec.specs.Leaves.{Leaf, plain, keyword_at, mark, marks}
use Rattle.c_parse_spec.specs.Expressions as grammar
use Rattle.c_parse_spec.specs.Limits.{nesting_limit}
use Rattle.exact_read.specs.Reading.{Outcome, plains, Stops}
use Rattle.exact_read.specs.Grammar.{bind, read_then, Then, Map, anything, read_map}
use Rattle.c_parse_laws.specs.Classes.{begins_type, is_mark, mark_offset}
use Rattle.c_parse_laws.specs.Exactness.{Closed, TypeFacts}
use Rattle.c_parse_laws.specs.Parsers.{Parsers, token, before}
use Rattle.c_parse_laws.specs.Types.{goes_on, no_storage, Head, head_of, is_const, const_offset, first_or, read_consts, read_type_specifier, read_specifiers, read_pointer, read_type_name}
use Rattle.c_parse_laws.proofs.Marks.{roled-closed}
use Rattle.c_parse_laws.specs.Beside.{FirmBeside}
use Rattle.c_parse_laws.specs.Endings.{Ending, WordsAround, BraceToo, WordsToo, goes_on_with, SpecifiersEnd, stop_specifiers}
use Rattle.c_parse_laws.specs.Specified.{first_at, read_specified, rich_specified}
use Rattle.c_parse_laws.proofs.IntegerWords.{six, word_six}
use Rattle.c_parse_laws.proofs.Tokens.{leaves_of}
use Rattle.c_parse_laws.proofs.Pointers.{const_class, stop_pointer}
use Rattle.c_parse_laws.proofs.TypeFirsts.{specifiers_first}
use Rattle.c_parse_laws.proofs.Members.{Inside}
use Rattle.c_parse_laws.proofs.Ended.{specified, with_end}
use Rattle.c_parse_laws.proofs.Specifiers.{Around, specified_same, roled-specified}
use Rattle.exact_read.proofs.RoleBasics.{roled-same}
use Rattle.exact_read.proofs.RoleThen.{roled-then}
use Rattle.c_parse_laws.specs.Firm.{Firm}
use Rattle.c_parse_laws.proofs.Firm.{firm-map}
use Rattle.c_parse_laws.specs.Declarators.{Whole}
use Rattle.c_parse_laws.proofs.Plain.{const_found, roled-pointer}

-- a keyword that is none of the six goes on with no words of an integer type
pub no_more_words : (words : List Keyword) (w : Keyword) → six w ≡ false → goes_on words (Word w) ≡ false
no_more_words words w e = by_test (goes_on words (Word w)) refl
  where
    by_test : (b : Bool) → goes_on words (Word w) ≡ b → goes_on words (Word w) ≡ false
    by_test true f = absurd (let g : false ≡ true = sym e ∙ word_six words w f in cc)
    by_test false f = f

pub word_ends : (w : Keyword) → six w ≡ false → (e : Ending) → goes_on_with e (Word w) ≡ false
word_ends w h WordsAround = refl
word_ends w h BraceToo = refl
word_ends w h (WordsToo words) = no_more_words words w h

-- `const` around a type specifier
parts_of : (position : grammar.Position) (s : tree.Storage) (text : List Leaf) → grammar.Words position s text → position ≡ grammar.Elsewhere → (xs : List ℕ) × ((text ≡ leaves_of (keyword_at Const) xs) × (s ≡ no_storage))
parts_of position s text (grammar.none p) e = ([], (refl, refl))
parts_of position s text (grammar.const p q t offset h) e = let r = parts_of p q t h e in (offset ∷ r.0, (ap (λ l. plain (keyword_at Const offset) ∷ l) r.1.0, r.1.1))
parts_of position s text (grammar.typedef q t offset h) e = absurd (cc)
parts_of position s text (grammar.extern q t offset h) e = absurd (cc)
parts_of position s text (grammar.inline q t offset h) e = absurd (cc)
parts_of position s text (grammar.static_external q t offset h) e = absurd (cc)
parts_of position s text (grammar.static_local q t offset h) e = absurd (cc)

const_words : (xs : List ℕ) → grammar.Words grammar.Elsewhere no_storage (leaves_of (keyword_at Const) xs)
const_words [] = grammar.none grammar.Elsewhere
const_words (x ∷ xs) = grammar.const grammar.Elsewhere no_storage (leaves_of (keyword_at Const) xs) x (const_words xs)

const_head : (names : List (List ℕ)) (k : Token) (o : ℕ) (h : Head) → head_of names k o ≡ Some h → is_const k ≡ false
const_head names (Word Const) o h e = absurd (cc)
const_head names (Word other) o h e = refl
const_head names (name_token spelling) o h e = refl
const_head names (number_token value type) o h e = refl
const_head names (character_token value) o h e = refl
const_head names (Mark p) o h e = refl

around_part : Around grammar.Elsewhere const_offset is_const (keyword_at Const) (λ _. no_storage)
around_part =
    record {
      kind = const_class;
      to_words = const_words;
      from_words = λ s text h. parts_of grammar.Elsewhere s text h refl;
      ends_base = λ x e. word_ends Const refl e;
      no_head = const_head;
    }

map_pointwise : {X Y : Type 0} (f g : X → Y) → ((x : X) → f x ≡ g x) → (o : Outcome Placed Role X) → bind o (λ x r. Ok (f x, r)) ≡ bind {Y = Y} o (λ x r. Ok (g x, r))
map_pointwise f g same (Ok (x, rest)) = ap (λ y. Ok (y, rest)) (same x)
map_pointwise f g same (Err fault) = refl

specifiers_same : (names : List (List ℕ)) (inner : Parsers) (depth : ℕ) (counting : grammar.Counting) (tokens : List Placed) → read_specifiers names inner depth counting tokens ≡ read_specified const_offset is_const (keyword_at Const) (λ _. no_storage) names inner depth counting tokens
specifiers_same names inner depth counting tokens = map_pointwise first second same (read_then read_consts (λ _. read_then (read_type_specifier names inner depth counting) (λ _. read_consts)) tokens)
  where
    first : List ℕ × (((Head × ℕ) × tree.TypeSpecifier) × List ℕ) → tree.Specifiers
    first made = tree.Specified no_storage made.1.0.1 (first_or made.0 made.1.0.0.1)

    second : List ℕ × (((Head × ℕ) × tree.TypeSpecifier) × List ℕ) → tree.Specifiers
    second made = tree.Specified (grammar.both no_storage no_storage) made.1.0.1 (first_at (keyword_at Const) made.0 made.1.0.0.1)

    by_words : (xs : List ℕ) (offset : ℕ) (base : tree.TypeSpecifier) → tree.Specified no_storage base (first_or xs offset) ≡ tree.Specified (grammar.both no_storage no_storage) base (first_at (keyword_at Const) xs offset)
    by_words [] offset base = refl
    by_words (x ∷ xs) offset base = refl

    same : (made : List ℕ × (((Head × ℕ) × tree.TypeSpecifier) × List ℕ)) → first made ≡ second made
    same made = by_words made.0 made.1.0.0.1 made.1.0.1

-- a type and its bracket
abbrev Typed : Type 0
Typed = (tree.Specifiers × Ending) × ℕ

abbrev TypedText : (names : List (List ℕ)) → (depth : ℕ) → (counting : grammar.Counting) → Typed → List Leaf → Type 0
TypedText names depth counting = Then (λ (pair : tree.Specifiers × Ending). SpecifiersEnd names grammar.Elsewhere depth counting pair.0 pair.1) (λ _. grammar.Pointer)

abbrev type_of : Typed → tree.TypeName
type_of typed = tree.Pointers typed.0.0 typed.1

text_type : (names : List (List ℕ)) (depth : ℕ) (counting : grammar.Counting) (type : tree.TypeName) (text : List Leaf) → Map type_of (Closed plain punctuator.RightParenthesis (TypedText names depth counting)) type text → Closed plain punctuator.RightParenthesis (grammar.TypeName names depth counting) type text
text_type names depth counting type text m =
    let c = m.derives in
    let t = c.derives in
    record { inside = c.inside; close = c.close; cut = c.cut; derives = rw (m.is, t.cut) (grammar.type_name depth counting m.inner.0.0 m.inner.1 t.left t.right (specified names grammar.Elsewhere depth counting m.inner.0.0 m.inner.0.1 t.left t.first) t.second) }

typed_by : (names : List (List ℕ)) (depth : ℕ) (counting : grammar.Counting) (type : tree.TypeName) (inside : List Leaf) → grammar.TypeName names depth counting type inside → (typed : Typed) × ((type ≡ type_of typed) × TypedText names depth counting typed inside)
typed_by names depth counting type inside (grammar.type_name d c s n left stars h k) =
    let w = with_end names grammar.Elsewhere d c s left h in
    (((s, w.end), n), (refl, record { left = left; right = stars; cut = refl; first = w.derives; second = k }))

type_text : (names : List (List ℕ)) (depth : ℕ) (counting : grammar.Counting) (type : tree.TypeName) (text : List Leaf) → Closed plain punctuator.RightParenthesis (grammar.TypeName names depth counting) type text → Map type_of (Closed plain punctuator.RightParenthesis (TypedText names depth counting)) type text
type_text names depth counting type text c =
    let r = typed_by names depth counting type c.inside c.derives in
    record { inner = r.0; is = r.1.0; derives = record { inside = c.inside; close = c.close; cut = c.cut; derives = r.1.1 } }

type_closes : (typed : Typed) (close : ℕ) → IsTrue (stop_pointer (stop_specifiers is_const typed.0.0 typed.0.1) typed.1 (mark punctuator.RightParenthesis close))
type_closes ((s, WordsAround), zero) close = refl
type_closes ((s, BraceToo), zero) close = refl
type_closes ((s, WordsToo words), zero) close = refl
type_closes ((s, e), suc n) close = refl

-- what expressions ask of types
pub type_facts : (names : List (List ℕ)) → TypeFacts names
type_facts names = record { begins = begins; some = some_type }
  where
    begins : (depth : ℕ) (counting : grammar.Counting) (type : tree.TypeName) (text : List Leaf) → grammar.TypeName names depth counting type text → (u : Leaf) × (more : List Leaf) × (text ≡ u ∷ more) × (begins_type names u.token.token ≡ true)
    begins depth counting type text (grammar.type_name d c s n left stars h k) =
        let w = with_end names grammar.Elsewhere d c s left h in
        let f = specifiers_first names d c s w.end left w.derives in
        (f.leaf, f.more ++ stars, ap (λ l. l ++ stars) f.cut, f.yes)

    some_type : (depth : ℕ) (counting : grammar.Counting) → (type : tree.TypeName) × (text : List Leaf) × grammar.TypeName names depth counting type text
    some_type depth counting = (_, _, grammar.type_name depth counting _ 0 _ [] (grammar.specifiers grammar.Elsewhere depth counting no_storage no_storage tree.Void [] (plain (keyword_at Void 0) ∷ []) [] (grammar.none grammar.Elsewhere) (grammar.void depth counting 0) (grammar.none grammar.Elsewhere)) grammar.none)

pub roled-specifiers : (names : List (List ℕ)) (inner : Parsers) (depth : ℕ) (counting : grammar.Counting) → (suc depth ≤ nesting_limit → Whole names inner (suc depth) (grammar.count_at counting)) → Whole names inner depth (grammar.count_at counting) → Inside names inner depth (grammar.count_at counting)
    → FirmBeside anything (SpecifiersEnd names grammar.Elsewhere depth counting) (stop_specifiers is_const) (read_specifiers names inner depth counting)
roled-specifiers names inner depth counting deeper whole inside =
    record {
      both = rich_specified const_offset is_const (keyword_at Const) (λ _. no_storage) names inner depth counting;
      is = roled-specified around_part const_found names inner depth counting deeper whole inside;
      same = λ tokens. specifiers_same names inner depth counting tokens ∙ specified_same const_offset is_const (keyword_at Const) (λ _. no_storage) names inner depth counting tokens;
    }

pub roled-type_name : (names : List (List ℕ)) (inner : Parsers) (depth : ℕ) (counting : grammar.Counting) → (suc depth ≤ nesting_limit → Whole names inner (suc depth) (grammar.count_at counting)) → Whole names inner depth (grammar.count_at counting) → Inside names inner depth (grammar.count_at counting)
    → Firm anything (Closed plain punctuator.RightParenthesis (grammar.TypeName names depth counting)) (λ _. anything) (before (read_type_name names inner depth counting) (token Nothing plain (mark_offset punctuator.RightParenthesis)))
roled-type_name names inner depth counting deeper whole inside =
    roled-same anything (Closed plain punctuator.RightParenthesis (grammar.TypeName names depth counting)) (before (read_type_name names inner depth counting) (token Nothing plain (mark_offset punctuator.RightParenthesis))) (λ t h. h) (text_type names depth counting) (type_text names depth counting) same
    (firm-map type_of (λ _. anything) (λ x. refl)
    (roled-closed {stop = λ (typed : Typed). stop_pointer (stop_specifiers is_const typed.0.0 typed.0.1) typed.1} punctuator.RightParenthesis Nothing plain (λ t. refl) (λ t. refl)
    (roled-then spec.is (λ pair. roled-pointer (stop_specifiers is_const pair.0 pair.1))
    record {
      ends = λ pair n left right rest one two stops. pointer_ends pair.1 n right rest two stops;
      goes_on = λ pair left one. (0, [], grammar.none);
    })
    type_closes))
  where
    spec : FirmBeside anything (SpecifiersEnd names grammar.Elsewhere depth counting) (stop_specifiers is_const) (read_specifiers names inner depth counting)
    spec = roled-specifiers names inner depth counting deeper whole inside

    and-first : (a b : Bool) → IsTrue (a && b) → IsTrue a
    and-first true b h = refl
    and-first false b h = absurd (cc)

    star_ends : (e : Ending) → IsTrue (not (is_const (Mark punctuator.Star)) && not (goes_on_with e (Mark punctuator.Star)))
    star_ends WordsAround = refl
    star_ends BraceToo = refl
    star_ends (WordsToo words) = refl

    pointer_ends : (e : Ending) (n : ℕ) (right : List Leaf) (rest : List Placed) → grammar.Pointer n right → Stops (stop_pointer (λ t. not (is_const t.token) && not (goes_on_with e t.token)) n) rest → Stops (λ t. not (is_const t.token) && not (goes_on_with e t.token)) (plains marks right ++ rest)
    pointer_ends e n right [] grammar.none stops = tt
    pointer_ends e n right (t ∷ rest) grammar.none stops = and-first (not (is_const t.token) && not (goes_on_with e t.token)) (not (is_mark punctuator.Star t.token)) stops
    pointer_ends e n right rest (grammar.star m offset consts text h k) stops = star_ends e

    by_close : (p : tree.Specifiers × Ending) (n : ℕ) (o : Outcome Placed Role ℕ) → bind {Y = tree.TypeName} o (λ _ after. Ok (tree.Pointers p.0 n, after)) ≡ bind {X = Typed} (bind o (λ _ after. Ok ((p, n), after))) (λ typed r. Ok (type_of typed, r))
    by_close p n (Ok (offset, rest)) = refl
    by_close p n (Err fault) = refl

    by_pointer : (p : tree.Specifiers × Ending) (o : Outcome Placed Role ℕ)
        → bind {Y = tree.TypeName} (bind {X = tree.Specifiers × ℕ} (bind o (λ n after. Ok ((p.0, n), after))) (λ pair r. Ok (tree.Pointers pair.0 pair.1, r))) (λ type rest. bind (token Nothing plain (mark_offset punctuator.RightParenthesis) rest) (λ _ after. Ok (type, after)))
        ≡ bind {X = Typed} (bind {X = Typed} {Y = Typed} (bind o (λ n after. Ok ((p, n), after))) (λ typed rest. bind (token Nothing plain (mark_offset punctuator.RightParenthesis) rest) (λ _ after. Ok (typed, after)))) (λ typed r. Ok (type_of typed, r))
    by_pointer p (Ok (n, rest)) = by_close p n (token Nothing plain (mark_offset punctuator.RightParenthesis) rest)
    by_pointer p (Err fault) = refl

    by_specifiers : (o : Outcome Placed Role (tree.Specifiers × Ending))
        → bind {Y = tree.TypeName} (bind {X = tree.Specifiers × ℕ} (bind {X = tree.Specifiers} (bind o (λ (p : tree.Specifiers × Ending) r. Ok (p.0, r))) (λ s rest. bind (read_pointer rest) (λ n after. Ok ((s, n), after)))) (λ pair r. Ok (tree.Pointers pair.0 pair.1, r))) (λ type rest. bind (token Nothing plain (mark_offset punctuator.RightParenthesis) rest) (λ _ after. Ok (type, after)))
        ≡ bind {X = Typed} (bind {X = Typed} {Y = Typed} (bind o (λ p rest. bind (read_pointer rest) (λ n after. Ok ((p, n), after)))) (λ typed rest. bind (token Nothing plain (mark_offset punctuator.RightParenthesis) rest) (λ _ after. Ok (typed, after)))) (λ typed r. Ok (type_of typed, r))
    by_specifiers (Ok (p, rest)) = by_pointer p (read_pointer rest)
    by_specifiers (Err fault) = refl

    same : (tokens : List Placed) → before (read_type_name names inner depth counting) (token Nothing plain (mark_offset punctuator.RightParenthesis)) tokens ≡ read_map type_of (before (read_then spec.both (λ _. read_pointer)) (token Nothing plain (mark_offset punctuator.RightParenthesis))) tokens
    same tokens =
        ap (λ (o : Outcome Placed Role tree.Specifiers). bind {Y = tree.TypeName} (bind {X = tree.Specifiers × ℕ} (bind o (λ s rest. bind (read_pointer rest) (λ n after. Ok ((s, n), after)))) (λ pair r. Ok (tree.Pointers pair.0 pair.1, r))) (λ type rest. bind (token Nothing plain (mark_offset punctuator.RightParenthesis) rest) (λ _ after. Ok (type, after)))) (spec.same tokens)
        ∙ by_specifiers (spec.both tokens)
