-- The lengths of an array keep roles.
use Rattle.std.proofs.Common.{◌≡◌, Bool, true, false, refl, ◌||◌, ℕ, ◌≤◌, ltb-false, suc, List, [], ◌∷◌, ◌++◌, ap, ◌∙◌, append_assoc, sym, subst, not, ◌&&◌, IsTrue}
use Rattle.std.specs.Prelude.{nat_lt}
use Rattle.c_token_spec.specs.declared.token.Punctuator.TheVariants as punctuator
use Rattle.c_token_spec.specs.Lexical.{Placed}
use Rattle.c_syntax_spec.specs.Expression as tree
use Rattle.c_parse_spec.specs.declared.Role.TheVariants.{OperandEnd, Nothing}
use Rattle.c_parse_spec.specs.Leaves.{opens, is_over, Leaf, expected, mark, marks, plain}
use Rattle.c_parse_spec.specs.Expressions as grammar
use Rattle.c_parse_spec.specs.Limits.{nesting_limit}
use Rattle.exact_read.specs.Reading.{plains, Stops}
use Rattle.exact_read.specs.Grammar.{One, anything, first, Many, none, some, Map, Then, Or, Nothing as Empty, second, nothing, read_map, read_then, read_many}
use Rattle.exact_read.proofs.Contexts.{many-context_same}
use Rattle.exact_read.proofs.Parts.{stops_anything, both}
use Rattle.exact_read.proofs.Many.{Items}
use Rattle.c_parse_laws.specs.Classes.{mark_offset, is_mark}
use Rattle.c_parse_laws.specs.Exactness.{Closed}
use Rattle.c_parse_laws.specs.Parsers.{token, Parsers, before, following, choose}
use Rattle.c_parse_laws.specs.Types.{expressions_of, read_length, read_lengths, read_dimensions}
use Rattle.c_parse_laws.proofs.Marks.{Following, mark-passes, one-mark, mark-one, roled-closed, mark-self, roled-opened, mark-some, after_begins, after_silent, roled-choose, roled-choice, map_begins, map_silent}
use Rattle.c_parse_laws.proofs.Samples.{zero_tree, zero_text, zero_conditional}
use Rattle.c_parse_laws.proofs.Counts.{From, more_enough, onwards, itself}
use Rattle.c_parse_laws.proofs.Tokens.{stops_or_true}
use Rattle.c_parse_laws.proofs.Firsts.{conditional_first, first_not_mark}
use Rattle.exact_read.proofs.RoleBasics.{roled-same, roled-enter, roled-stop}
use Rattle.exact_read.proofs.RoleBegins.{Begins}
use Rattle.exact_read.proofs.RoleThen.{roled-then}
use Rattle.c_parse_laws.specs.Firm.{Firm}
use Rattle.c_parse_laws.proofs.Firm.{firm-map, firm-many, firm-nothing}
use Rattle.c_parse_laws.specs.Declarators.{Whole}

or-false : (a : Bool) → (a || false) ≡ false → a ≡ false
or-false true e = absurd (cc)
or-false false e = refl

pub within_opens : (depth : ℕ) (t : Placed) → is_over (opens depth t) ≡ false → depth ≤ nesting_limit
within_opens depth t e = ltb-false nesting_limit depth (or-false (nat_lt nesting_limit depth) e)

-- a length and its bracket
abbrev pub ValueText : (names : List (List ℕ)) → (depth count : ℕ) → tree.Expression → List Leaf → Type 0
ValueText names depth count = Closed (expected OperandEnd) punctuator.RightBracket (grammar.Conditional names (suc depth) count)

pub zero_value : (names : List (List ℕ)) (depth count : ℕ) → ValueText names depth count zero_tree (zero_text ++ expected OperandEnd (mark punctuator.RightBracket 0) ∷ [])
zero_value names depth count = record { inside = zero_text; close = 0; derives = zero_conditional names (suc depth) count; cut = refl }

abbrev pub LengthText : (names : List (List ℕ)) → (depth count : ℕ) → tree.Expression → List Leaf → Type 0
LengthText names depth count = Following (One (opens (suc depth)) (mark_offset punctuator.LeftBracket)) (λ _. ValueText names depth count)

-- one after the other: the operators of a length precede the next
abbrev next_length : {least : ℕ} → From least → tree.Expression → From least
next_length from x = onwards from (grammar.operators x)

abbrev LengthFrom : (names : List (List ℕ)) → (depth : ℕ) → {least : ℕ} → From least → tree.Expression → List Leaf → Type 0
LengthFrom names depth from = LengthText names depth (grammar.count_at from.counting)

length_items : (names : List (List ℕ)) (depth least : ℕ) → Items marks (λ (_ : From least) t. is_mark punctuator.LeftBracket t.token) (λ _ _. true) (λ (from : From least). LengthFrom names depth from) (λ _ _. anything) (λ (from : From least) x. next_length from x)
length_items names depth least =
    record {
      begins = λ c x text b. (opens (suc depth) b.is_first.token, b.right, b.cut ∙ ap (λ t. t ++ b.right) b.is_first.cut, mark-passes punctuator.LeftBracket b.is_first.token b.first b.is_first.is);
      opens_next = λ c x rest stops. stops_or_true (λ t. is_mark punctuator.LeftBracket t.token) rest;
      stops_item = λ c x rest stops. stops_anything rest;
    }

abbrev LengthsText : (names : List (List ℕ)) → (depth : ℕ) → {least : ℕ} → From least → List tree.Expression → List Leaf → Type 0
LengthsText names depth {least} = Many (λ (from : From least) x. next_length from x) (λ (from : From least). LengthFrom names depth from)

opening-length : (names : List (List ℕ)) (depth count : ℕ) (x : tree.Expression) (left right : List Leaf) (b : LengthText names depth count x left)
    → left ++ right ≡ opens (suc depth) (mark punctuator.LeftBracket b.first) ∷ b.is_second.inside ++ expected OperandEnd (mark punctuator.RightBracket b.is_second.close) ∷ right
opening-length names depth count x left right b =
    ap (λ t. t ++ right) (b.cut ∙ ap (λ t. t ++ b.right) (one-mark punctuator.LeftBracket (opens (suc depth)) b.first b.left b.is_first) ∙ ap (λ t. opens (suc depth) (mark punctuator.LeftBracket b.first) ∷ t) b.is_second.cut)
    ∙ ap (λ t. opens (suc depth) (mark punctuator.LeftBracket b.first) ∷ t) (append_assoc b.is_second.inside (expected OperandEnd (mark punctuator.RightBracket b.is_second.close) ∷ []) right)

many_lengths : (names : List (List ℕ)) (depth least : ℕ) (from : From least) (xs : List tree.Expression) (text : List Leaf) → LengthsText names depth from xs text → grammar.Lengths names depth from.counting (expressions_of xs) text
many_lengths names depth least from xs text (none d) = grammar.no_lengths depth d.counting
many_lengths names depth least from xs text (some d x ys left right b rest) =
    subst (λ t. grammar.Lengths names depth d.counting (expressions_of (x ∷ ys)) t) (sym (opening-length names depth (grammar.count_at d.counting) x left right b))
    (grammar.some_length depth d.counting x (expressions_of ys) b.is_second.inside right b.first b.is_second.close b.is_second.derives (many_lengths names depth least (next_length d x) ys right rest))

lengths_many : (names : List (List ℕ)) (depth least : ℕ) (counting : grammar.Counting) (enough : least ≤ grammar.count_at counting) (e : tree.Expressions) (text : List Leaf) → grammar.Lengths names depth counting e text
    → (xs : List tree.Expression) × ((e ≡ expressions_of xs) × LengthsText names depth {least = least} (record { counting = counting; enough = enough }) xs text)
lengths_many names depth least counting enough e text (grammar.no_lengths d c) = ([], (refl, none (record { counting = c; enough = enough })))
lengths_many names depth least counting enough e text (grammar.some_length d c x rest inside right offset close h more) =
    let r = lengths_many names d least (grammar.advance c (grammar.operators x)) (more_enough least c (grammar.operators x) enough) rest right more in (
      x ∷ r.0,
      (
        ap (tree.expressions x) r.1.0,
        subst (λ t. LengthsText names d {least = least} (record { counting = c; enough = enough }) (x ∷ r.0) (opens (suc d) (mark punctuator.LeftBracket offset) ∷ t)) (append_assoc inside (expected OperandEnd (mark punctuator.RightBracket close) ∷ []) right)
            (some (record { counting = c; enough = enough }) x r.0 (opens (suc d) (mark punctuator.LeftBracket offset) ∷ inside ++ expected OperandEnd (mark punctuator.RightBracket close) ∷ []) right
            (record {
              first = offset;
              left = opens (suc d) (mark punctuator.LeftBracket offset) ∷ [];
              right = inside ++ expected OperandEnd (mark punctuator.RightBracket close) ∷ [];
              is_first = mark-one punctuator.LeftBracket (opens (suc d)) offset;
              is_second = record { inside = inside; close = close; derives = h; cut = refl };
              cut = refl;
            })
            r.1.1),
      ),
    )

-- all lengths, of which the first may be left out
abbrev DimensionsOf : (names : List (List ℕ)) → (depth : ℕ) → (counting : grammar.Counting) → Bool × tree.Expressions → List Leaf → Type 0
DimensionsOf names depth counting pair text = grammar.Dimensions names depth counting pair.0 pair.1 text

abbrev OpenText : (names : List (List ℕ)) → (depth : ℕ) → (counting : grammar.Counting) → Bool × tree.Expressions → List Leaf → Type 0
OpenText names depth counting = Map (λ lengths. (true, lengths)) (Following (One plain (mark_offset punctuator.RightBracket)) (λ _. grammar.Lengths names depth counting))

abbrev GivenText : (names : List (List ℕ)) → (depth : ℕ) → (counting : grammar.Counting) → Bool × tree.Expressions → List Leaf → Type 0
GivenText names depth counting = Map (λ (pair : tree.Expression × tree.Expressions). (false, tree.expressions pair.0 pair.1)) (Then (ValueText names depth (grammar.count_at counting)) (λ x. grammar.Lengths names depth (grammar.advance counting (grammar.operators x))))

abbrev SomeText : (names : List (List ℕ)) → (depth : ℕ) → (counting : grammar.Counting) → Bool × tree.Expressions → List Leaf → Type 0
SomeText names depth counting = Following (One (opens (suc depth)) (mark_offset punctuator.LeftBracket)) (λ _. Or (OpenText names depth counting) (GivenText names depth counting))

abbrev DimensionsText : (names : List (List ℕ)) → (depth : ℕ) → (counting : grammar.Counting) → Bool × tree.Expressions → List Leaf → Type 0
DimensionsText names depth counting = Or (SomeText names depth counting) (Empty (false, tree.no_expressions))

some_dimensions : (names : List (List ℕ)) (depth offset : ℕ) (counting : grammar.Counting) (pair : Bool × tree.Expressions) (text : List Leaf) → Or (OpenText names depth counting) (GivenText names depth counting) pair text → DimensionsOf names depth counting pair (opens (suc depth) (mark punctuator.LeftBracket offset) ∷ text)
some_dimensions names depth offset counting pair text (first m) =
    let b = m.derives in
    let cut : text ≡ plain (mark punctuator.RightBracket b.first) ∷ b.right = b.cut ∙ ap (λ t. t ++ b.right) (one-mark punctuator.RightBracket plain b.first b.left b.is_first) in
    subst (λ (p : Bool × tree.Expressions). DimensionsOf names depth counting p (opens (suc depth) (mark punctuator.LeftBracket offset) ∷ text)) (sym m.is)
    (subst (λ t. grammar.Dimensions names depth counting true m.inner (opens (suc depth) (mark punctuator.LeftBracket offset) ∷ t)) (sym cut) (grammar.left_out depth counting m.inner b.right offset b.first b.is_second))
some_dimensions names depth offset counting pair text (second m) =
    let t = m.derives in
    let v = t.first in
    let cut : text ≡ v.inside ++ expected OperandEnd (mark punctuator.RightBracket v.close) ∷ t.right = t.cut ∙ ap (λ l. l ++ t.right) v.cut ∙ append_assoc v.inside (expected OperandEnd (mark punctuator.RightBracket v.close) ∷ []) t.right in
    subst (λ (p : Bool × tree.Expressions). DimensionsOf names depth counting p (opens (suc depth) (mark punctuator.LeftBracket offset) ∷ text)) (sym m.is)
    (subst (λ t. grammar.Dimensions names depth counting false (tree.expressions m.inner.0 m.inner.1) (opens (suc depth) (mark punctuator.LeftBracket offset) ∷ t)) (sym cut)
    (grammar.given depth counting (tree.expressions m.inner.0 m.inner.1) (opens (suc depth) (mark punctuator.LeftBracket offset) ∷ v.inside ++ expected OperandEnd (mark punctuator.RightBracket v.close) ∷ t.right)
    (grammar.some_length depth counting m.inner.0 m.inner.1 v.inside t.right offset v.close v.derives t.second)))

text_dimensions : (names : List (List ℕ)) (depth : ℕ) (counting : grammar.Counting) (pair : Bool × tree.Expressions) (text : List Leaf) → DimensionsText names depth counting pair text → DimensionsOf names depth counting pair text
text_dimensions names depth counting pair text (first b) =
    subst (λ t. DimensionsOf names depth counting pair t) (sym (b.cut ∙ ap (λ t. t ++ b.right) (one-mark punctuator.LeftBracket (opens (suc depth)) b.first b.left b.is_first))) (some_dimensions names depth b.first counting pair b.right b.is_second)
text_dimensions names depth counting pair text (second nothing) = grammar.given depth counting tree.no_expressions [] (grammar.no_lengths depth counting)

given_text : (names : List (List ℕ)) (depth : ℕ) (counting : grammar.Counting) (lengths : tree.Expressions) (text : List Leaf) → grammar.Lengths names depth counting lengths text → DimensionsText names depth counting (false, lengths) text
given_text names depth counting lengths text (grammar.no_lengths d c) = second nothing
given_text names depth counting lengths text (grammar.some_length d c x rest inside right offset close h more) =
    first (record {
      first = offset;
      left = opens (suc d) (mark punctuator.LeftBracket offset) ∷ [];
      right = inside ++ expected OperandEnd (mark punctuator.RightBracket close) ∷ right;
      is_first = mark-one punctuator.LeftBracket (opens (suc d)) offset;
      is_second = second (record {
        inner = (x, rest);
        is = refl;
        derives = record {
          left = inside ++ expected OperandEnd (mark punctuator.RightBracket close) ∷ [];
          right = right;
          cut = sym (append_assoc inside (expected OperandEnd (mark punctuator.RightBracket close) ∷ []) right);
          first = record { inside = inside; close = close; derives = h; cut = refl };
          second = more;
        };
      });
      cut = refl;
    })

dimensions_text : (names : List (List ℕ)) (depth : ℕ) (counting : grammar.Counting) (is_open : Bool) (lengths : tree.Expressions) (text : List Leaf) → grammar.Dimensions names depth counting is_open lengths text → DimensionsText names depth counting (is_open, lengths) text
dimensions_text names depth counting is_open lengths text (grammar.given d c l t h) = given_text names d c l t h
dimensions_text names depth counting is_open lengths text (grammar.left_out d c l t offset close h) =
    first (record {
      first = offset;
      left = opens (suc d) (mark punctuator.LeftBracket offset) ∷ [];
      right = plain (mark punctuator.RightBracket close) ∷ t;
      is_first = mark-one punctuator.LeftBracket (opens (suc d)) offset;
      is_second = first (record {
        inner = l;
        is = refl;
        derives = record { first = close; left = plain (mark punctuator.RightBracket close) ∷ []; right = t; is_first = mark-one punctuator.RightBracket plain close; is_second = h; cut = refl };
      });
      cut = refl;
    })

-- where nothing is read, what was asked before
abbrev pub stop_dimensions : (entry : Placed → Bool) → Bool × tree.Expressions → Placed → Bool
stop_dimensions entry (true, lengths) t = not (is_mark punctuator.LeftBracket t.token)
stop_dimensions entry (false, tree.no_expressions) t = entry t && not (is_mark punctuator.LeftBracket t.token)
stop_dimensions entry (false, tree.expressions x rest) t = not (is_mark punctuator.LeftBracket t.token)

none_same : (entry : Placed → Bool) (x : Bool × tree.Expressions) (text : List Leaf) (t : Placed) → Empty (false, tree.no_expressions) x text → both entry (λ t. not (is_mark punctuator.LeftBracket t.token)) t ≡ stop_dimensions entry x t
none_same entry x text t nothing = refl

and_right : (a b : Bool) → IsTrue (a && b) → IsTrue b
and_right true b h = h
and_right false b h = absurd (cc)

none_begins : (entry : Placed → Bool) (x : Bool × tree.Expressions) (text : List Leaf) (rest : List Placed) → Empty (false, tree.no_expressions) x text → Stops (stop_dimensions entry x) rest → Stops (λ t. not (is_mark punctuator.LeftBracket t.token)) (plains marks text ++ rest)
none_begins entry x text [] nothing stops = tt
none_begins entry x text (t ∷ rest) nothing stops = and_right (entry t) (not (is_mark punctuator.LeftBracket t.token)) stops

some_same : (names : List (List ℕ)) (depth : ℕ) (counting : grammar.Counting) (entry : Placed → Bool) (x : Bool × tree.Expressions) (text : List Leaf) (t : Placed) → Or (OpenText names depth counting) (GivenText names depth counting) x text → not (is_mark punctuator.LeftBracket t.token) ≡ stop_dimensions entry x t
some_same names depth counting entry x text t (first m) = ap (λ (p : Bool × tree.Expressions). stop_dimensions entry p t) (sym m.is)
some_same names depth counting entry x text t (second m) = ap (λ (p : Bool × tree.Expressions). stop_dimensions entry p t) (sym m.is)

pub roled-value : (names : List (List ℕ)) (inner : Parsers) (depth least count : ℕ) → Whole names inner depth least → least ≤ count → suc depth ≤ nesting_limit
    → Firm anything (ValueText names depth count) (λ _. anything) (before (inner.conditional (suc depth) count) (token OperandEnd (expected OperandEnd) (mark_offset punctuator.RightBracket)))
roled-value names inner depth least count whole enough small = roled-closed punctuator.RightBracket OperandEnd (expected OperandEnd) (λ t. refl) (λ t. refl) (whole small count enough) (λ x close. refl)

pub roled-length : (names : List (List ℕ)) (inner : Parsers) (depth least : ℕ) → Whole names inner depth least → (from : From least) → Firm anything (LengthFrom names depth from) (λ _. anything) (read_length inner depth from.counting)
roled-length names inner depth least whole from =
    roled-opened (mark_offset punctuator.LeftBracket) Nothing (opens (suc depth)) (λ t. refl) (λ t. refl) (mark punctuator.LeftBracket 0) 0 (mark-self punctuator.LeftBracket 0)
    (λ offset. (zero_tree, zero_text ++ expected OperandEnd (mark punctuator.RightBracket 0) ∷ [], zero_value names depth (grammar.count_at from.counting)))
    (λ offset t is within. roled-value names inner depth least (grammar.count_at from.counting) whole from.enough (within_opens (suc depth) t within))

length_begins : (names : List (List ℕ)) (depth count : ℕ) (t : Placed) → is_mark punctuator.LeftBracket t.token ≡ true → Begins marks (LengthText names depth count) t
length_begins names depth count t e =
    after_begins (mark_offset punctuator.LeftBracket) (opens (suc depth)) (λ t. refl) t t.offset (mark-some punctuator.LeftBracket t e) (zero_tree, zero_text ++ expected OperandEnd (mark punctuator.RightBracket 0) ∷ [], zero_value names depth count)

roled-many_lengths : (names : List (List ℕ)) (inner : Parsers) (depth least : ℕ) → Whole names inner depth least → (from : From least)
    → Firm anything (LengthsText names depth from) (λ _ t. not (is_mark punctuator.LeftBracket t.token))
    (read_many (λ (_ : grammar.Counting) next. is_mark punctuator.LeftBracket next.token) (λ so_far. read_length inner depth so_far) (λ so_far x. grammar.advance so_far (grammar.operators x)) from.counting)
roled-many_lengths names inner depth least whole from =
    roled-same anything (LengthsText names depth from) (read_many (λ (_ : grammar.Counting) next. is_mark punctuator.LeftBracket next.token) (λ so_far. read_length inner depth so_far) (λ so_far x. grammar.advance so_far (grammar.operators x)) from.counting)
    (λ t h. stops_or_true (λ t. is_mark punctuator.LeftBracket t.token) (t ∷ [])) (λ xs text h. h) (λ xs text h. h)
    (many-context_same (λ (_ : grammar.Counting) next. is_mark punctuator.LeftBracket next.token) (λ so_far. read_length inner depth so_far) (λ so_far x. grammar.advance so_far (grammar.operators x)) (λ (f : From least). f.counting) (λ (f : From least) x. next_length f x) (λ f x. refl) from)
    (firm-many (length_items names depth least) (λ f t e. length_begins names depth (grammar.count_at f.counting) t e) (λ f. after_silent (mark_offset punctuator.LeftBracket) (opens (suc depth)) (λ t. refl))
    (λ f. roled-enter (λ t. is_mark punctuator.LeftBracket t.token) (roled-length names inner depth least whole f)) from)

pub roled-lengths : (names : List (List ℕ)) (inner : Parsers) (depth least : ℕ) (counting : grammar.Counting) → least ≤ grammar.count_at counting → Whole names inner depth least → Firm anything (grammar.Lengths names depth counting) (λ _ t. not (is_mark punctuator.LeftBracket t.token)) (read_lengths inner depth counting)
roled-lengths names inner depth least counting enough whole =
    roled-same anything (grammar.Lengths names depth counting) (read_lengths inner depth counting) (λ t h. h)
    (λ e text m. subst (λ v. grammar.Lengths names depth counting v text) (sym m.is) (many_lengths names depth least (record { counting = counting; enough = enough }) m.inner text m.derives))
    (λ e text h. let r = lengths_many names depth least counting enough e text h in record { inner = r.0; is = r.1.0; derives = r.1.1 })
    (λ tokens. refl)
    (firm-map expressions_of (λ _ t. not (is_mark punctuator.LeftBracket t.token)) (λ xs. refl) (roled-many_lengths names inner depth least whole (record { counting = counting; enough = enough })))

roled-open : (names : List (List ℕ)) (inner : Parsers) (depth : ℕ) (counting : grammar.Counting) → Whole names inner depth (grammar.count_at counting) → Firm anything (OpenText names depth counting) (λ _ t. not (is_mark punctuator.LeftBracket t.token)) (read_map (λ lengths. (true, lengths)) (following (token Nothing plain (mark_offset punctuator.RightBracket)) (λ _. read_lengths inner depth counting)))
roled-open names inner depth counting whole =
    firm-map (λ lengths. (true, lengths)) (λ _ t. not (is_mark punctuator.LeftBracket t.token)) (λ x. refl)
    (roled-opened (mark_offset punctuator.RightBracket) Nothing plain (λ t. refl) (λ t. refl) (mark punctuator.RightBracket 0) 0 (mark-self punctuator.RightBracket 0)
    (λ x. (tree.no_expressions, [], grammar.no_lengths depth counting)) (λ x t is within. roled-lengths names inner depth (grammar.count_at counting) counting (itself counting) whole))

roled-given : (names : List (List ℕ)) (inner : Parsers) (depth : ℕ) (counting : grammar.Counting) → Whole names inner depth (grammar.count_at counting) → suc depth ≤ nesting_limit
    → Firm anything (GivenText names depth counting) (λ _ t. not (is_mark punctuator.LeftBracket t.token)) (read_map (λ pair. (false, tree.expressions pair.0 pair.1)) (read_then (before (inner.conditional (suc depth) (grammar.count_at counting)) (token OperandEnd (expected OperandEnd) (mark_offset punctuator.RightBracket))) (λ first. read_lengths inner depth (grammar.advance counting (grammar.operators first)))))
roled-given names inner depth counting whole small =
    firm-map (λ (pair : tree.Expression × tree.Expressions). (false, tree.expressions pair.0 pair.1)) (λ _ t. not (is_mark punctuator.LeftBracket t.token)) (λ x. refl)
    (roled-then (roled-value names inner depth (grammar.count_at counting) (grammar.count_at counting) whole (itself counting) small)
    (λ x. roled-lengths names inner depth (grammar.count_at counting) (grammar.advance counting (grammar.operators x)) (more_enough (grammar.count_at counting) counting (grammar.operators x) (itself counting)) whole)
    record {
      ends = λ x y left right rest one two stops. stops_anything (plains marks right ++ rest);
      goes_on = λ x left one. (tree.no_expressions, [], grammar.no_lengths depth (grammar.advance counting (grammar.operators x)));
    })

some_open : (names : List (List ℕ)) (depth : ℕ) (counting : grammar.Counting) → (x : Bool × tree.Expressions) × (right : List Leaf) × Or (OpenText names depth counting) (GivenText names depth counting) x right
some_open names depth counting = ((true, tree.no_expressions), plain (mark punctuator.RightBracket 0) ∷ [], first (record { inner = tree.no_expressions; is = refl; derives = record { first = 0; left = plain (mark punctuator.RightBracket 0) ∷ []; right = []; is_first = mark-one punctuator.RightBracket plain 0; is_second = grammar.no_lengths depth counting; cut = refl } }))

pub roled-dimensions_from : (names : List (List ℕ)) (inner : Parsers) (depth : ℕ) (counting : grammar.Counting) (entry : Placed → Bool) → Whole names inner depth (grammar.count_at counting) → Firm entry (λ (pair : Bool × tree.Expressions) text. grammar.Dimensions names depth counting pair.0 pair.1 text) (stop_dimensions entry) (read_dimensions inner depth counting)
roled-dimensions_from names inner depth counting entry whole =
    roled-same entry (DimensionsOf names depth counting) (read_dimensions inner depth counting) (λ t h. h) (text_dimensions names depth counting) (λ pair text h. dimensions_text names depth counting pair.0 pair.1 text h) (λ tokens. refl)
    (roled-choose (is_mark punctuator.LeftBracket)
    record {
      first_begins = λ x text b. (opens (suc depth) (mark punctuator.LeftBracket b.first), b.right, b.cut ∙ ap (λ l. l ++ b.right) (one-mark punctuator.LeftBracket (opens (suc depth)) b.first b.left b.is_first), mark-passes punctuator.LeftBracket (mark punctuator.LeftBracket b.first) b.first (mark-self punctuator.LeftBracket b.first));
      second_begins = λ x text rest one stops. none_begins entry x text rest one stops;
    }
    (λ t e. after_begins (mark_offset punctuator.LeftBracket) (opens (suc depth)) (λ t. refl) t t.offset (mark-some punctuator.LeftBracket t e) (some_open names depth counting))
    (after_silent (mark_offset punctuator.LeftBracket) (opens (suc depth)) (λ t. refl))
    (roled-enter (both entry (λ t. is_mark punctuator.LeftBracket t.token)) (roled-stop (stop_dimensions entry) (λ x text b t. some_same names depth counting entry x b.right t b.is_second) some_exact))
    (roled-stop (stop_dimensions entry) (λ x text one t. none_same entry x text t one) (firm-nothing (both entry (λ t. not (is_mark punctuator.LeftBracket t.token))) (false, tree.no_expressions))))
  where
    value_first : (x : Bool × tree.Expressions) (text : List Leaf) (rest : List Placed) → GivenText names depth counting x text → Stops (λ t. not (is_mark punctuator.RightBracket t.token)) (plains marks text ++ rest)
    value_first x text rest m =
        let v = m.derives.first in
        let f = conditional_first names (suc depth) (grammar.count_at counting) m.inner.0 v.inside v.derives in
        first_not_mark names punctuator.RightBracket refl text rest
        (record { leaf = f.leaf; more = (f.more ++ expected OperandEnd (mark punctuator.RightBracket v.close) ∷ []) ++ m.derives.right; cut = m.derives.cut ∙ ap (λ t. t ++ m.derives.right) (v.cut ∙ ap (λ t. t ++ expected OperandEnd (mark punctuator.RightBracket v.close) ∷ []) f.cut); yes = f.yes })

    some_exact : Firm anything (SomeText names depth counting) (λ _ t. not (is_mark punctuator.LeftBracket t.token))
        (following (token Nothing (opens (suc depth)) (mark_offset punctuator.LeftBracket)) (λ _. choose (is_mark punctuator.RightBracket)
        (read_map (λ lengths. (true, lengths)) (following (token Nothing plain (mark_offset punctuator.RightBracket)) (λ _. read_lengths inner depth counting)))
        (read_map (λ pair. (false, tree.expressions pair.0 pair.1)) (read_then (before (inner.conditional (suc depth) (grammar.count_at counting)) (token OperandEnd (expected OperandEnd) (mark_offset punctuator.RightBracket))) (λ first. read_lengths inner depth (grammar.advance counting (grammar.operators first)))))))
    some_exact =
        roled-opened (mark_offset punctuator.LeftBracket) Nothing (opens (suc depth)) (λ t. refl) (λ t. refl) (mark punctuator.LeftBracket 0) 0 (mark-self punctuator.LeftBracket 0)
        (λ offset. some_open names depth counting)
        (λ offset t is within. roled-choice (is_mark punctuator.RightBracket)
        record {
          first_begins = λ x text m. (plain (mark punctuator.RightBracket m.derives.first), m.derives.right, m.derives.cut ∙ ap (λ t. t ++ m.derives.right) (one-mark punctuator.RightBracket plain m.derives.first m.derives.left m.derives.is_first), mark-passes punctuator.RightBracket (mark punctuator.RightBracket m.derives.first) m.derives.first (mark-self punctuator.RightBracket m.derives.first));
          second_begins = λ x text rest m stops. value_first x text rest m;
        }
        (λ t e. map_begins (λ lengths. (true, lengths)) t (after_begins (mark_offset punctuator.RightBracket) plain (λ t. refl) t t.offset (mark-some punctuator.RightBracket t e) (tree.no_expressions, [], grammar.no_lengths depth counting)))
        (map_silent (λ lengths. (true, lengths)) (after_silent (mark_offset punctuator.RightBracket) plain (λ t. refl)))
        (roled-open names inner depth counting whole)
        (roled-given names inner depth counting whole (within_opens (suc depth) t within)))

pub roled-dimensions : (names : List (List ℕ)) (inner : Parsers) (depth : ℕ) (counting : grammar.Counting) → Whole names inner depth (grammar.count_at counting) → Firm anything (λ (pair : Bool × tree.Expressions) text. grammar.Dimensions names depth counting pair.0 pair.1 text) (λ _ t. not (is_mark punctuator.LeftBracket t.token)) (read_dimensions inner depth counting)
roled-dimensions names inner depth counting whole =
    roled-stop (λ _ t. not (is_mark punctuator.LeftBracket t.token)) (λ x text h t. same x t) (roled-dimensions_from names inner depth counting anything whole)
  where
    same : (x : Bool × tree.Expressions) (t : Placed) → stop_dimensions anything x t ≡ not (is_mark punctuator.LeftBracket t.token)
    same (true, lengths) t = refl
    same (false, tree.no_expressions) t = refl
    same (false, tree.expressions y rest) t = refl
