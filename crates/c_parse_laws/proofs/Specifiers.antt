-- Specifiers keep roles, with where they end.
use Rattle.std.proofs.Common.{◌≡◌, ℕ, Bool, false, List, Option, Some, [], ◌∷◌, ◌++◌, refl, ap, sym, ◌∙◌, subst, true, IsTrue, ◌&&◌, not, Ok, Err, suc, ◌≤◌, None}
use Rattle.std.specs.Prelude.{option_map}
use Rattle.c_token_spec.specs.declared.token.Keyword.TheVariants.{Void}
use Rattle.c_token_spec.specs.Lexical.{Placed, Token}
use Rattle.c_syntax_spec.specs.Expression as tree
use Rattle.c_parse_spec.specs.declared.Role.{Role}
use Rattle.c_parse_spec.specs.Leaves.{Leaf, keyword_at, first_offset, plain, marks}
use Rattle.c_parse_spec.specs.Expressions as grammar
use Rattle.exact_read.specs.Reading.{Outcome, plains, Stops}
use Rattle.exact_read.specs.Grammar.{Then, Map, anything, bind, read_map, nothing}
use Rattle.c_parse_laws.specs.Parsers.{Parsers}
use Rattle.c_parse_laws.specs.Types.{Head, head_of, read_type_specifier, HeadVoid}
use Rattle.c_parse_laws.specs.Endings.{Ending, goes_on_with, base_ending, ending, SpecifiersEnd, WordsAround, stop_specifiers}
use Rattle.c_parse_laws.specs.Rich.{Ended, rich_type_specifier}
use Rattle.c_parse_laws.specs.Specified.{first_at, ending_after, read_around, read_specified, rich_specified}
use Rattle.c_parse_laws.proofs.Tokens.{TokenClass, leaves_of, unless_read}
use Rattle.c_parse_laws.proofs.Members.{Inside}
use Rattle.c_parse_laws.proofs.TypeSpecifiers.{TypeSpecifierText, text_base, base_text, without_end, base_same, stop_ended, roled-type_specifier}
use Rattle.exact_read.proofs.RoleBasics.{roled-same, roled-stop}
use Rattle.exact_read.proofs.RoleThen.{roled-then}
use Rattle.c_parse_laws.specs.Firm.{Firm}
use Rattle.c_parse_laws.proofs.Firm.{firm-map}
use Rattle.c_parse_laws.specs.Declarators.{Whole}
use Rattle.c_parse_laws.proofs.Plain.{roled-tokens}
use Rattle.std.specs.Option.{is_some}
use Rattle.c_parse_spec.specs.Limits.{nesting_limit}

-- a class of words around a type specifier
pub record Around {X : Type 0} (position : grammar.Position) (class : Placed → Option X) (test : Token → Bool) (spell : X → Placed) (storage : List X → tree.Storage) : Type 0 where
  pub kind : TokenClass class (λ t. test t.token) spell
  pub to_words : (xs : List X) → grammar.Words position (storage xs) (leaves_of spell xs)
  pub from_words : (s : tree.Storage) (text : List Leaf) → grammar.Words position s text → (xs : List X) × ((text ≡ leaves_of spell xs) × (s ≡ storage xs))
  -- no keyword goes on with a type specifier, and none is the first of one
  pub ends_base : (x : X) (e : Ending) → goes_on_with e (spell x).token ≡ false
  pub no_head : (names : List (List ℕ)) (k : Token) (o : ℕ) (h : Head) → head_of names k o ≡ Some h → test k ≡ false

abbrev Made : (X : Type 0) → Type 0
Made X = List X × (((Head × ℕ) × Ended) × List X)

abbrev SpecifiedText : {X : Type 0} → (spell : X → Placed) → (names : List (List ℕ)) → (depth : ℕ) → (counting : grammar.Counting) → Made X → List Leaf → Type 0
SpecifiedText {X} spell names depth counting = Then (λ (xs : List X) text. text ≡ leaves_of spell xs) (λ _. Then (TypeSpecifierText names depth counting) (λ _ (xs : List X) text. text ≡ leaves_of spell xs))

abbrev made_specifiers : {X : Type 0} → (spell : X → Placed) → (storage : List X → tree.Storage) → Made X → tree.Specifiers × Ending
made_specifiers spell storage made = (tree.Specified (grammar.both (storage made.0) (storage made.1.1)) made.1.0.1.0 (first_at spell made.0 made.1.0.0.1), ending_after made.1.1 made.1.0.1.1)

-- as the grammar has them
first_same : {X : Type 0} (spell : X → Placed) (xs : List X) (leaf : Leaf) (more : List Leaf) (offset : ℕ) → leaf.token.offset ≡ offset → first_offset (leaves_of spell xs ++ leaf ∷ more) ≡ first_at spell xs offset
first_same spell [] leaf more offset e = e
first_same spell (x ∷ xs) leaf more offset e = refl

after_same : {X : Type 0} (spell : X → Placed) (base : tree.TypeSpecifier) (middle : List Leaf) (xs : List X) (e : Ending) → e ≡ base_ending base middle → ending_after xs e ≡ ending base middle (leaves_of spell xs)
after_same spell base middle [] e same = same
after_same spell base middle (x ∷ xs) e same = refl

text_specifiers : {X : Type 0} {position : grammar.Position} {class : Placed → Option X} {test : Token → Bool} {spell : X → Placed} {storage : List X → tree.Storage} → Around position class test spell storage → (names : List (List ℕ)) (depth : ℕ) (counting : grammar.Counting) (pair : tree.Specifiers × Ending) (text : List Leaf)
    → Map (made_specifiers spell storage) (SpecifiedText spell names depth counting) pair text → SpecifiersEnd names position depth counting pair.0 pair.1 text
text_specifiers {X} {position} {class} {test} {spell} {storage} around names depth counting pair text m =
    let t = m.derives in
    let u = t.second in
    let made = m.inner in
    let b = text_base names depth counting made.1.0 u.left u.first in
    let offset : first_offset (t.left ++ u.left) ≡ first_at spell made.0 made.1.0.0.1 =
    ap first_offset (ap (λ l. l ++ u.left) t.first ∙ ap (λ l. leaves_of spell made.0 ++ l) b.cut) ∙ first_same spell made.0 b.leaf b.more made.1.0.0.1 b.there in
    subst (λ (p : tree.Specifiers × Ending). SpecifiersEnd names position depth counting p.0 p.1 text) (sym m.is)
    (record {
      one = storage made.0;
      two = storage made.1.1;
      base = made.1.0.1.0;
      before = t.left;
      middle = u.left;
      after = u.right;
      words_before = subst (grammar.Words position (storage made.0)) (sym t.first) (around.to_words made.0);
      is_base = b.end.derives;
      words_after = subst (grammar.Words position (storage made.1.1)) (sym u.second) (around.to_words made.1.1);
      is = ap (λ p. tree.Specified (grammar.both (storage made.0) (storage made.1.1)) made.1.0.1.0 p) (sym offset);
      cut = t.cut ∙ ap (λ l. t.left ++ l) u.cut;
      is_end = after_same spell made.1.0.1.0 u.left made.1.1 made.1.0.1.1 b.end.is ∙ ap (λ l. ending made.1.0.1.0 u.left l) (sym u.second);
    })

specifiers_text : {X : Type 0} {position : grammar.Position} {class : Placed → Option X} {test : Token → Bool} {spell : X → Placed} {storage : List X → tree.Storage} → Around position class test spell storage → (names : List (List ℕ)) (depth : ℕ) (counting : grammar.Counting) (pair : tree.Specifiers × Ending) (text : List Leaf)
    → SpecifiersEnd names position depth counting pair.0 pair.1 text → Map (made_specifiers spell storage) (SpecifiedText spell names depth counting) pair text
specifiers_text {X} {position} {class} {test} {spell} {storage} around names depth counting pair text h =
    let f = around.from_words h.one h.before h.words_before in
    let g = around.from_words h.two h.after h.words_after in
    let b = base_text names depth counting h.base h.middle h.is_base in
    let at = text_base names depth counting (b.head, (h.base, base_ending h.base h.middle)) h.middle b.derives in
    let offset : first_offset (h.before ++ h.middle) ≡ first_at spell f.0 b.head.1 =
    ap first_offset (ap (λ l. l ++ h.middle) f.1.0 ∙ ap (λ l. leaves_of spell f.0 ++ l) at.cut) ∙ first_same spell f.0 at.leaf at.more b.head.1 at.there in
    record {
      inner = (f.0, ((b.head, (h.base, base_ending h.base h.middle)), g.0));
      is = pair_same (h.is ∙ same_specified f.1.1 g.1.1 offset) (h.is_end ∙ ap (λ l. ending h.base h.middle l) g.1.0 ∙ sym (after_same spell h.base h.middle g.0 (base_ending h.base h.middle) refl));
      derives = record { left = h.before; right = h.middle ++ h.after; cut = h.cut; first = f.1.0; second = record { left = h.middle; right = h.after; cut = refl; first = b.derives; second = g.1.0 } };
    }
  where
    same_specified : {a b c d : tree.Storage} {base : tree.TypeSpecifier} {p q : ℕ} → a ≡ c → b ≡ d → p ≡ q → tree.Specified (grammar.both a b) base p ≡ tree.Specified (grammar.both c d) base q
    same_specified x y z = rw (x, y, z) refl

    pair_same : {a b : tree.Specifiers} {e f : Ending} → a ≡ b → e ≡ f → ◌≡◌ {A = tree.Specifiers × Ending} (a, e) (b, f)
    pair_same p q = rw (p, q) refl

-- they keep roles
and-true-left : (a b : Bool) → a ≡ true → IsTrue b → IsTrue (a && b)
and-true-left true b e h = h
and-true-left false b e h = absurd (cc)

and-first : (a b : Bool) → IsTrue (a && b) → IsTrue a
and-first true b h = refl
and-first false b h = absurd (cc)

and-swapped : (a b : Bool) → (a && b) ≡ (b && a)
and-swapped true true = refl
and-swapped true false = refl
and-swapped false true = refl
and-swapped false false = refl

unless_true : {X : Type 0} (xs : List X) (t : Placed) → unless_read xs anything t ≡ true
unless_true [] t = refl
unless_true (x ∷ xs) t = refl

raw_stop : {X : Type 0} (test : Token → Bool) (e : Ending) (xs : List X) (t : Placed) → (unless_read xs (λ t. not (goes_on_with e t.token)) t && not (test t.token)) ≡ (not (test t.token) && not (goes_on_with (ending_after xs e) t.token))
raw_stop test e [] t = and-swapped (not (goes_on_with e t.token)) (not (test t.token))
raw_stop test e (x ∷ xs) t = and-swapped true (not (test t.token))

-- the parsers give the same
pub specified_same : {X : Type 0} (class : Placed → Option X) (test : Token → Bool) (spell : X → Placed) (storage : List X → tree.Storage) (names : List (List ℕ)) (inner : Parsers) (depth : ℕ) (counting : grammar.Counting) (tokens : List Placed)
    → read_specified class test spell storage names inner depth counting tokens ≡ read_map (λ (pair : tree.Specifiers × Ending). pair.0) (rich_specified class test spell storage names inner depth counting) tokens
specified_same {X} class test spell storage names inner depth counting tokens = by_words (read_around class test tokens)
  where
    plain_made : List X × (((Head × ℕ) × tree.TypeSpecifier) × List X) → tree.Specifiers
    plain_made made = tree.Specified (grammar.both (storage made.0) (storage made.1.1)) made.1.0.1 (first_at spell made.0 made.1.0.0.1)

    by_after : (xs : List X) (b : (Head × ℕ) × Ended) (o : Outcome Placed Role (List X))
        → bind (bind {Y = List X × (((Head × ℕ) × tree.TypeSpecifier) × List X)} (bind {Y = ((Head × ℕ) × tree.TypeSpecifier) × List X} o (λ ys after. Ok ((without_end b, ys), after))) (λ y after. Ok ((xs, y), after))) (λ made r. Ok (tree.Specified (grammar.both (storage made.0) (storage made.1.1)) made.1.0.1 (first_at spell made.0 made.1.0.0.1), r))
        ≡ bind {Y = tree.Specifiers} (bind {Y = tree.Specifiers × Ending} (bind {Y = Made X} (bind {Y = ((Head × ℕ) × Ended) × List X} o (λ ys after. Ok ((b, ys), after))) (λ y after. Ok ((xs, y), after))) (λ made r. Ok (made_specifiers spell storage made, r))) (λ pair r. Ok (pair.0, r))
    by_after xs b (Ok (ys, rest)) = refl
    by_after xs b (Err fault) = refl

    by_base : (xs : List X) (o : Outcome Placed Role ((Head × ℕ) × Ended))
        → bind (bind {Y = List X × (((Head × ℕ) × tree.TypeSpecifier) × List X)} (bind {Y = ((Head × ℕ) × tree.TypeSpecifier) × List X} (bind {Y = (Head × ℕ) × tree.TypeSpecifier} o (λ b rest. Ok (without_end b, rest))) (λ b rest. bind (read_around class test rest) (λ ys after. Ok ((b, ys), after)))) (λ y after. Ok ((xs, y), after))) (λ made r. Ok (tree.Specified (grammar.both (storage made.0) (storage made.1.1)) made.1.0.1 (first_at spell made.0 made.1.0.0.1), r))
        ≡ bind {Y = tree.Specifiers} (bind {Y = tree.Specifiers × Ending} (bind {Y = Made X} (bind {Y = ((Head × ℕ) × Ended) × List X} o (λ b rest. bind (read_around class test rest) (λ ys after. Ok ((b, ys), after)))) (λ y after. Ok ((xs, y), after))) (λ made r. Ok (made_specifiers spell storage made, r))) (λ pair r. Ok (pair.0, r))
    by_base xs (Ok (b, rest)) = by_after xs b (read_around class test rest)
    by_base xs (Err fault) = refl

    by_words : (o : Outcome Placed Role (List X))
        → bind (bind {Y = List X × (((Head × ℕ) × tree.TypeSpecifier) × List X)} o (λ xs rest. bind (bind {Y = ((Head × ℕ) × tree.TypeSpecifier) × List X} (read_type_specifier names inner depth counting rest) (λ b more. bind (read_around class test more) (λ ys after. Ok ((b, ys), after)))) (λ y after. Ok ((xs, y), after)))) (λ made r. Ok (tree.Specified (grammar.both (storage made.0) (storage made.1.1)) made.1.0.1 (first_at spell made.0 made.1.0.0.1), r))
        ≡ bind {Y = tree.Specifiers} (bind {Y = tree.Specifiers × Ending} (bind {Y = Made X} o (λ xs rest. bind (bind {Y = ((Head × ℕ) × Ended) × List X} (rich_type_specifier names inner depth counting rest) (λ b more. bind (read_around class test more) (λ ys after. Ok ((b, ys), after)))) (λ y after. Ok ((xs, y), after)))) (λ made r. Ok (made_specifiers spell storage made, r))) (λ pair r. Ok (pair.0, r))
    by_words (Ok (xs, rest)) =
        ap (λ (o : Outcome Placed Role ((Head × ℕ) × tree.TypeSpecifier)). bind (bind {Y = List X × (((Head × ℕ) × tree.TypeSpecifier) × List X)} (bind {Y = ((Head × ℕ) × tree.TypeSpecifier) × List X} o (λ b more. bind (read_around class test more) (λ ys after. Ok ((b, ys), after)))) (λ y after. Ok ((xs, y), after))) (λ made r. Ok (tree.Specified (grammar.both (storage made.0) (storage made.1.1)) made.1.0.1 (first_at spell made.0 made.1.0.0.1), r))) (base_same names inner depth counting rest)
        ∙ by_base xs (rich_type_specifier names inner depth counting rest)
    by_words (Err fault) = refl

pub roled-specified : {X : Type 0} {position : grammar.Position} {class : Placed → Option X} {test : Token → Bool} {spell : X → Placed} {storage : List X → tree.Storage} → Around position class test spell storage → ((t : Placed) → test t.token ≡ true → is_some (class t) ≡ true) → (names : List (List ℕ)) (inner : Parsers) (depth : ℕ) (counting : grammar.Counting)
    → (suc depth ≤ nesting_limit → Whole names inner (suc depth) (grammar.count_at counting)) → Whole names inner depth (grammar.count_at counting) → Inside names inner depth (grammar.count_at counting)
    → Firm anything (λ (pair : tree.Specifiers × Ending). SpecifiersEnd names position depth counting pair.0 pair.1) (λ (pair : tree.Specifiers × Ending). stop_specifiers test pair.0 pair.1) (rich_specified class test spell storage names inner depth counting)
roled-specified {X} {position} {class} {test} {spell} {storage} around found names inner depth counting deeper whole inside =
    roled-same anything (λ (pair : tree.Specifiers × Ending). SpecifiersEnd names position depth counting pair.0 pair.1) (rich_specified class test spell storage names inner depth counting) (λ t h. h) (text_specifiers around names depth counting) (specifiers_text around names depth counting) (λ tokens. refl)
    (firm-map (made_specifiers spell storage) (λ (pair : tree.Specifiers × Ending). stop_specifiers test pair.0 pair.1) (λ made. refl)
    (roled-stop (λ (made : Made X) t. not (test t.token) && not (goes_on_with (ending_after made.1.1 made.1.0.1.1) t.token)) (λ made text one t. raw_stop test made.1.0.1.1 made.1.1 t)
    (roled-then (roled-tokens around.kind found anything)
    (λ xs. roled-then (roled-type_specifier names inner depth counting (λ t. unless_read xs anything t && not (test t.token)) deeper whole inside) (λ made. roled-tokens around.kind found (stop_ended made.1))
    record {
      ends = λ made ys left right rest one two stops. base_ends made.1 ys right rest two stops;
      goes_on = λ made left one. ([], [], refl);
    })
    record {
      ends = λ xs y left right rest one two stops. around_ends xs y.0 two.left two.right right rest two.cut two.first;
      goes_on = λ xs left one. ((((HeadVoid, 0), (tree.Void, WordsAround)), []), plain (keyword_at Void 0) ∷ [], record { left = plain (keyword_at Void 0) ∷ []; right = []; cut = refl; first = record { left = plain (keyword_at Void 0) ∷ []; right = []; cut = refl; first = record { token = keyword_at Void 0; is = refl; cut = refl }; second = nothing }; second = refl });
    })))
  where
    base_ends : (x : Ended) (ys : List X) (right : List Leaf) (rest : List Placed) → right ≡ leaves_of spell ys → Stops (λ t. unless_read ys (stop_ended x) t && not (test t.token)) rest → Stops (stop_ended x) (plains marks right ++ rest)
    base_ends x ys right rest cut stops = subst (λ r. Stops (stop_ended x) (plains marks r ++ rest)) (sym cut) (by_words ys rest stops)
      where
        by_words : (ys : List X) (rest : List Placed) → Stops (λ t. unless_read ys (stop_ended x) t && not (test t.token)) rest → Stops (stop_ended x) (plains marks (leaves_of spell ys) ++ rest)
        by_words [] [] stops = tt
        by_words [] (t ∷ rest) stops = and-first (stop_ended x t) (not (test t.token)) stops
        by_words (y ∷ ys) rest stops = rw (around.ends_base y x.1) refl

    head_some : (names : List (List ℕ)) (k : Token) (o : ℕ) (h : Head × ℕ) → option_map (λ (head : Head). (head, o)) (head_of names k o) ≡ Some h → (head : Head) × (head_of names k o ≡ Some head)
    head_some names k o h e = by_head (head_of names k o) refl e
      where
        by_head : (f : Option Head) → head_of names k o ≡ f → option_map (λ (head : Head). (head, o)) f ≡ Some h → (head : Head) × (head_of names k o ≡ Some head)
        by_head None g e = absurd (cc)
        by_head (Some head) g e = (head, g)

    around_ends : (xs : List X) (made : (Head × ℕ) × Ended) (left more right : List Leaf) (rest : List Placed) → right ≡ left ++ more → TypeSpecifierText names depth counting made left → Stops (λ t. unless_read xs anything t && not (test t.token)) (plains marks right ++ rest)
    around_ends xs made left more right rest cut b =
        let o = b.first in
        let h = head_some names o.token.token o.token.offset made.0 o.is in
        let no : test o.token.token ≡ false = around.no_head names o.token.token o.token.offset h.0 h.1 in
        subst (λ r. Stops (λ t. unless_read xs anything t && not (test t.token)) (plains marks r ++ rest)) (sym (cut ∙ ap (λ l. l ++ more) (b.cut ∙ ap (λ l. l ++ b.right) o.cut)))
        (and-true-left (unless_read xs anything o.token) (not (test o.token.token)) (unless_true xs o.token) (rw no refl))
