-- The words of declarations, and the tokens of operators: nothing is defined by them alone.
use Rattle.std.proofs.Common.{◌≡◌, ℕ, ◌+◌, Bool, true, false, List, [], ◌∷◌, ◌++◌, map, Option, Some, refl, sym, ap, subst, ◌∙◌, append_assoc}
use Rattle.std.specs.Option.{is_some}
use Rattle.std.proofs.lemmas.List.{map-append}
use Rattle.c_token_spec.specs.declared.token.Keyword.{Keyword}
use Rattle.c_token_spec.specs.declared.token.Keyword.TheVariants.{Char, Signed, Unsigned, Short, Int, Long}
use Rattle.c_token_spec.specs.declared.token.Punctuator.TheVariants.{LeftBrace}
use Rattle.c_token_spec.specs.Lexical.{Name, Mark}
use Rattle.c_syntax_spec.specs.declared.Access.{Access}
use Rattle.c_syntax_spec.specs.declared.Access.TheVariants.{Dot, Arrow}
use Rattle.c_syntax_spec.specs.declared.UnaryOperator.{UnaryOperator}
use Rattle.c_syntax_spec.specs.declared.UnaryOperator.TheVariants.{AddressOf}
use Rattle.c_syntax_spec.specs.declared.BinaryOperator.{BinaryOperator}
use Rattle.c_syntax_spec.specs.declared.BinaryOperator.TheVariants.{LogicalOr}
use Rattle.c_syntax_spec.specs.declared.IntegerType.{IntegerType}
use Rattle.c_syntax_spec.specs.Expression as tree
use Rattle.c_parse_spec.specs.Leaves.{Leaf, plain, keyword_at, named}
use Rattle.c_parse_spec.specs.Expressions as grammar
use Rattle.c_parse_laws.proofs.IntegerWords.{six, word_six, first_words}
use Rattle.c_parse_spec.specs.Initials.{Begun, Nothing, Keyword as AfterWord, Tagged, completes}
use Rattle.c_parse_laws.specs.InitialValues.{each}
use Rattle.c_parse_laws.proofs.InitialTokens.{at, is_plain_mark, is_plain_word, is_closing, is_opening, is_tag_word, opening_after, word_after, tag_after, no_list, word_no_brace, never, Stage, Fresh, Loose}
use Rattle.c_parse_laws.proofs.Scans.{Passes, stays, passes, passes_list, put, joined, same_found, same_text, shown, Runs, append, empty, token, closes}

-- ---- operators

pub access_plain : (access : Access) → is_plain_mark (grammar.access_mark access) ≡ true
access_plain Dot = refl
access_plain Arrow = refl

pub unary_plain : (operator : UnaryOperator) → is_plain_mark (grammar.unary_mark operator) ≡ true
unary_plain AddressOf = refl
unary_plain other = refl

pub binary_plain : (operator : BinaryOperator) → is_plain_mark (grammar.binary_mark operator) ≡ true
binary_plain LogicalOr = refl
binary_plain other = refl

-- ---- words

pub consts_runs : {begin : Stage} {inner v : Bool} {text : List Leaf} → grammar.Consts text → Runs begin Loose inner v text []
consts_runs grammar.none = empty
consts_runs (grammar.const _ _ rest) = token refl (consts_runs rest)

pub pointer_runs : {begin : Stage} {inner v : Bool} {pointers : ℕ} {text : List Leaf} → grammar.Pointer pointers text → Runs begin Loose inner v text []
pointer_runs grammar.none = empty
pointer_runs (grammar.star _ _ _ _ consts rest) = token refl (append (consts_runs consts) (pointer_runs rest))

pub words_runs : {begin : Stage} {inner v : Bool} {position : grammar.Position} {storage : tree.Storage} {text : List Leaf} → grammar.Words position storage text → Runs begin Loose inner v text []
words_runs (grammar.none _) = empty
words_runs (grammar.const _ _ _ _ rest) = token refl (words_runs rest)
words_runs (grammar.typedef _ _ _ rest) = token refl (words_runs rest)
words_runs (grammar.extern _ _ _ rest) = token refl (words_runs rest)
words_runs (grammar.inline _ _ _ rest) = token refl (words_runs rest)
words_runs (grammar.static_external _ _ _ rest) = token refl (words_runs rest)
words_runs (grammar.static_local _ _ _ rest) = token refl (words_runs rest)

-- ---- integer types

abbrev ArePlain : List (Keyword × ℕ) → Type 0
ArePlain [] = Unit {0}
ArePlain (w ∷ words) = (is_plain_word w.0 ≡ true) × ArePlain words

six_plain : (word : Keyword) → six word ≡ true → is_plain_word word ≡ true
six_plain Char e = refl
six_plain Signed e = refl
six_plain Unsigned e = refl
six_plain Short e = refl
six_plain Int e = refl
six_plain Long e = refl
six_plain other e = absurd (cc)

abbrev keywords : List (Keyword × ℕ) → List Keyword
keywords words = map (λ (w : Keyword × ℕ). w.0) words

-- the words after a first one and some others
more_plain : (word : Keyword) (before : List Keyword) (words : List (Keyword × ℕ)) → is_some (grammar.integer_type_of (word ∷ (before ++ keywords words))) ≡ true → ArePlain words
more_plain word before [] e = tt
more_plain word before (w ∷ words) e =
    let same : before ++ (w.0 ∷ keywords words) ≡ (before ++ w.0 ∷ []) ++ keywords words = sym (append_assoc before (w.0 ∷ []) (keywords words)) in
    let here : is_some (grammar.integer_type_of (word ∷ ((before ++ w.0 ∷ []) ++ keywords words))) ≡ true = subst (λ ws. is_some (grammar.integer_type_of (word ∷ ws)) ≡ true) same e in
    (six_plain w.0 (word_six (word ∷ before) w.0 (first_words word (before ++ w.0 ∷ []) (keywords words) here)), more_plain word (before ++ w.0 ∷ []) words here)

words_plain : (words : List (Keyword × ℕ)) → is_some (grammar.integer_type_of (keywords words)) ≡ true → ArePlain words
words_plain [] e = tt
words_plain (w ∷ words) e = (six_plain w.0 (word_six [] w.0 (first_words w.0 [] (keywords words) e)), more_plain w.0 [] words e)

plain_words : {begin : Stage} {inner v : Bool} (words : List (Keyword × ℕ)) → ArePlain words → Runs begin Loose inner v (map (λ (w : Keyword × ℕ). plain (keyword_at w.0 w.1)) words) []
plain_words [] h = empty
plain_words (w ∷ words) h = token h.0 (plain_words words h.1)

pub integer_runs : {begin : Stage} {inner v : Bool} {type : IntegerType} (words : List (Keyword × ℕ)) → grammar.integer_type_of (keywords words) ≡ Some type → Runs begin Loose inner v (map (λ (w : Keyword × ℕ). plain (keyword_at w.0 w.1)) words) []
integer_runs words e = plain_words words (words_plain words (ap is_some e))

-- ---- tags

word_passes : (v : Bool) (u : Leaf) (depth : ℕ) (b : Begun) (rest : List Leaf) → is_tag_word u.token.token ≡ true → Passes (at depth v b) (u ∷ rest) [] (v ∷ []) (at depth v AfterWord) rest
word_passes v u depth b rest e =
    passes (at depth v b) (at depth v AfterWord) u rest (never v _ (no_list b u.token.token (word_no_brace u.token.token e))) (word_after u.token.token depth v b e)

tag_passes : (v : Bool) (n : tree.Name) (depth : ℕ) (rest : List Leaf) → Passes (at depth v AfterWord) (plain (named n) ∷ rest) [] (v ∷ []) (at depth v Tagged) rest
tag_passes v n depth rest = passes (at depth v AfterWord) (at depth v Tagged) (plain (named n)) rest (never v _ (no_list AfterWord (Name n.spelling) refl)) (tag_after n.spelling depth v)

-- `struct` or `enum` and a tag alone
pub tag_runs : {begin : Stage} {inner v : Bool} {word : Leaf} (n : tree.Name) → is_tag_word word.token.token ≡ true → Runs begin Loose inner v (word ∷ plain (named n) ∷ []) []
tag_runs {v = v} {word = word} n e = record {
  run = λ rest depth b deep fits. record {
    left = Tagged;
    fits = tt;
    is = same_found (none v) refl (joined (word_passes v word depth b (plain (named n) ∷ rest) e) (tag_passes v n depth rest));
  };
}
  where
    none : (v : Bool) → [] ≡ shown v []
    none true = refl
    none false = refl

-- what precedes the `{` of a definition
record Begins (v : Bool) (name : List Leaf) (depth : ℕ) (rest : List Leaf) : Type 0 where
  begun : Begun
  completes_list : completes begun (Mark LeftBrace) ≡ true
  is : Passes (at depth v AfterWord) (name ++ rest) [] (each v name) (at depth v begun) rest

name_begins : {names : List (List ℕ)} {tag : Option tree.Name} {name : List Leaf} (v : Bool) (depth : ℕ) (rest : List Leaf) → grammar.Tag names tag name → Begins v name depth rest
name_begins v depth rest grammar.none = record { begun = AfterWord; completes_list = refl; is = stays (at depth v AfterWord) rest }
name_begins v depth rest (grammar.tag n _) = record { begun = Tagged; completes_list = refl; is = tag_passes v n depth rest }

-- a specifier with a list
pub definition_runs : {begin : Stage} {inner v : Bool} {names : List (List ℕ)} {tag : Option tree.Name} {word : Leaf} {name inside : List Leaf} {found : List ℕ}
    (opener closer : Leaf) → is_tag_word word.token.token ≡ true → opener.token.token ≡ Mark LeftBrace → is_closing closer.token.token ≡ true → grammar.Tag names tag name → Runs Fresh Loose true v inside found
    → Runs begin Loose inner v (word ∷ name ++ (opener ∷ inside ++ closer ∷ [])) (opener.token.offset ∷ found)
definition_runs {v = v} {word = word} {name = name} {inside = inside} {found = found} opener closer e f g tagged h = record {
  run = λ rest depth b deep fits.
      let list : List Leaf = opener ∷ (inside ++ closer ∷ rest) in
      let n = name_begins v depth list tagged in
      let complete : completes n.begun opener.token.token ≡ true = ap (completes n.begun) f ∙ n.completes_list in
      let opening : is_opening opener.token.token ≡ true = ap is_opening f in
      let inner_is = closes closer rest depth g h in
      let list_is = joined (passes_list (at depth v n.begun) (at (depth + 1) v Nothing) opener (inside ++ closer ∷ rest) complete (opening_after opener.token.token depth v n.begun opening)) inner_is in
      record {
        left = Nothing;
        fits = tt;
        is = same_text (ap (λ t. word ∷ t) (texts name rest))
            (same_found (counted v) (ap (λ vs. v ∷ vs) (sym (map-append (λ _. v) name (opener ∷ inside ++ closer ∷ []))))
            (joined (word_passes v word depth b (name ++ list) e) (joined n.is list_is)));
      };
}
  where
    texts : (name rest : List Leaf) → name ++ (opener ∷ (inside ++ closer ∷ rest)) ≡ (name ++ (opener ∷ inside ++ closer ∷ [])) ++ rest
    texts name rest = ap (λ t. name ++ opener ∷ t) (sym (append_assoc inside (closer ∷ []) rest)) ∙ sym (append_assoc name (opener ∷ inside ++ closer ∷ []) rest)

    counted : (v : Bool) → put v opener.token.offset [] ++ shown v found ≡ shown v (opener.token.offset ∷ found)
    counted true = refl
    counted false = refl
