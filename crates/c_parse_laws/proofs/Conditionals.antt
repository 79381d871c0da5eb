-- Conditional expressions keep roles.
use Rattle.std.proofs.Common.{ℕ, suc, ◌+◌, List, ◌≤◌, ◌≡◌, [], ◌∷◌, ◌++◌, ap, ◌∙◌, append_assoc, sym, subst, append-nil, refl, Bool, true, false, not, ◌&&◌, IsTrue, arith}
use Rattle.c_token_spec.specs.declared.token.Punctuator.TheVariants as punctuator
use Rattle.c_token_spec.specs.Lexical.{Placed}
use Rattle.c_syntax_spec.specs.Expression as tree
use Rattle.c_parse_spec.specs.declared.Role.TheVariants.{OperandEnd, Nothing}
use Rattle.c_parse_spec.specs.Leaves.{Leaf, expected, operates, mark, marks}
use Rattle.c_parse_spec.specs.Expressions.{operators, Conditional, Binary, conditional, logical_or}
use Rattle.c_parse_spec.specs.Limits.{operator_limit}
use Rattle.exact_read.specs.Reading.{Stops, plains}
use Rattle.exact_read.specs.Grammar.{Map, One, Or, Nothing as Empty, anything, first, second, nothing, read_map, read_nothing}
use Rattle.exact_read.proofs.Parts.{stops_anything, both}
use Rattle.c_parse_laws.specs.Classes.{mark_offset, is_mark}
use Rattle.c_parse_laws.specs.Stops.{stop_conditional, stop_binary}
use Rattle.c_parse_laws.specs.Parsers.{Parsers, token, following, before, read_choice, choose, read_conditional}
use Rattle.c_parse_laws.specs.Exactness.{Closed}
use Rattle.c_parse_laws.proofs.Marks.{Following, one-mark, mark-one, roled-closed, roled-following, mark-self, roled-opened, mark-some, roled-choose, after_begins, after_silent}
use Rattle.c_parse_laws.proofs.Samples.{zero_tree, zero_text, zero_conditional}
use Rattle.c_parse_laws.proofs.Suffixes.{within_operates}
use Rattle.c_parse_laws.proofs.Levels.{Operands, roled-binary}
use Rattle.exact_read.proofs.RoleBasics.{roled-enter, roled-stop, roled-same}
use Rattle.c_parse_laws.specs.Firm.{Firm}
use Rattle.c_parse_laws.proofs.Firm.{firm-map, firm-nothing}

-- the values after a test
abbrev pub ValuesText : (names : List (List ℕ)) → (depth count : ℕ) → (test : tree.Expression) → (offset : ℕ) → tree.Expression → List Leaf → Type 0
ValuesText names depth count test offset =
    Following (Closed (expected OperandEnd) punctuator.Colon (Conditional names depth (suc count))) (λ y. Map (λ z. tree.Conditional test y z offset) (Conditional names depth (suc count + operators y)))

abbrev pub ChoiceText : (names : List (List ℕ)) → (depth count : ℕ) → (test : tree.Expression) → tree.Expression → List Leaf → Type 0
ChoiceText names depth count test = Following (One (operates (suc count)) (mark_offset punctuator.Question)) (λ offset. ValuesText names depth count test offset)

abbrev pub MoreText : (names : List (List ℕ)) → (depth count : ℕ) → (test : tree.Expression) → tree.Expression → List Leaf → Type 0
MoreText names depth count test = Or (ChoiceText names depth (count + operators test) test) (Empty test)

abbrev pub ConditionalText : (names : List (List ℕ)) → (depth count : ℕ) → tree.Expression → List Leaf → Type 0
ConditionalText names depth count = Following (Binary names 10 depth count) (λ test. MoreText names depth count test)

-- conditional expressions keep roles after one operator more
abbrev pub Branches : (names : List (List ℕ)) → Parsers → (depth count : ℕ) → Type 0
Branches names inner depth count = (c : ℕ) → suc count ≤ c → suc count ≤ operator_limit → Firm anything (Conditional names depth c) stop_conditional (inner.conditional depth c)

values_conditional : (names : List (List ℕ)) (depth count : ℕ) (test : tree.Expression) (left : List Leaf) (offset : ℕ) (x : tree.Expression) (text : List Leaf) → Binary names 10 depth count test left → ValuesText names depth (count + operators test) test offset x text
    → Conditional names depth count x (left ++ operates (suc (count + operators test)) (mark punctuator.Question offset) ∷ text)
values_conditional names depth count test left offset x text h b =
    let m = b.is_second in
    let c = b.is_first in
    let same : text ≡ c.inside ++ expected OperandEnd (mark punctuator.Colon c.close) ∷ b.right = b.cut ∙ ap (λ t. t ++ b.right) c.cut ∙ append_assoc c.inside (expected OperandEnd (mark punctuator.Colon c.close) ∷ []) b.right in
    rw (m.is, same) (conditional depth count test b.first m.inner left c.inside b.right offset c.close h c.derives m.derives)

more_conditional : (names : List (List ℕ)) (depth count : ℕ) (test : tree.Expression) (left : List Leaf) (x : tree.Expression) (text : List Leaf) → Binary names 10 depth count test left → MoreText names depth count test x text → Conditional names depth count x (left ++ text)
more_conditional names depth count test left x text h (first b) =
    subst (λ t. Conditional names depth count x (left ++ t)) (sym (b.cut ∙ ap (λ t. t ++ b.right) (one-mark punctuator.Question (operates (suc (count + operators test))) b.first b.left b.is_first)))
    (values_conditional names depth count test left b.first x b.right h b.is_second)
more_conditional names depth count test left x text h (second nothing) = subst (λ t. Conditional names depth count test t) (sym (append-nil left)) (logical_or depth count test left h)

text_conditional : (names : List (List ℕ)) (depth count : ℕ) (x : tree.Expression) (text : List Leaf) → ConditionalText names depth count x text → Conditional names depth count x text
text_conditional names depth count x text b = subst (λ t. Conditional names depth count x t) (sym b.cut) (more_conditional names depth count b.first b.left x b.right b.is_first b.is_second)

conditional_text : (names : List (List ℕ)) (depth count : ℕ) (x : tree.Expression) (text : List Leaf) → Conditional names depth count x text → ConditionalText names depth count x text
conditional_text names depth count x text (logical_or d c y t h) = record { first = y; left = t; right = []; is_first = h; is_second = second nothing; cut = sym (append-nil t) }
conditional_text names depth count x text (conditional d c y z w test one two offset colon h k l) =
    record {
      first = y;
      left = test;
      right = operates (suc (c + operators y)) (mark punctuator.Question offset) ∷ one ++ expected OperandEnd (mark punctuator.Colon colon) ∷ two;
      is_first = h;
      is_second = first (record {
        first = offset;
        left = operates (suc (c + operators y)) (mark punctuator.Question offset) ∷ [];
        right = one ++ expected OperandEnd (mark punctuator.Colon colon) ∷ two;
        is_first = mark-one punctuator.Question (operates (suc (c + operators y))) offset;
        is_second = record {
          first = z;
          left = one ++ expected OperandEnd (mark punctuator.Colon colon) ∷ [];
          right = two;
          is_first = record { inside = one; close = colon; derives = k; cut = refl };
          is_second = record { inner = w; is = refl; derives = l };
          cut = sym (append_assoc one (expected OperandEnd (mark punctuator.Colon colon) ∷ []) two);
        };
        cut = refl;
      });
      cut = refl;
    }

and-swap : (a b : Bool) → (b && not a) ≡ (not a && b)
and-swap true true = refl
and-swap true false = refl
and-swap false true = refl
and-swap false false = refl

and-right : (a b : Bool) → IsTrue (a && b) → IsTrue b
and-right true b h = h
and-right false b h = absurd (cc)

and-left : (a b : Bool) → IsTrue (a && b) → IsTrue a
and-left true b h = refl
and-left false b h = absurd (cc)

stops-right : (one two : Placed → Bool) (rest : List Placed) → Stops (λ t. one t && two t) rest → Stops two rest
stops-right one two [] h = tt
stops-right one two (t ∷ rest) h = and-right (one t) (two t) h

stops-left : (one two : Placed → Bool) (rest : List Placed) → Stops (λ t. one t && two t) rest → Stops one rest
stops-left one two [] h = tt
stops-left one two (t ∷ rest) h = and-left (one t) (two t) h

empty_same : (test x : tree.Expression) (text : List Leaf) (t : Placed) → Empty test x text → (stop_binary 10 test t && not (is_mark punctuator.Question t.token)) ≡ stop_conditional x t
empty_same test x text t nothing = and-swap (is_mark punctuator.Question t.token) (stop_binary 10 test t)

empty_second : (test x : tree.Expression) (text : List Leaf) (rest : List Placed) → Empty test x text → Stops (stop_conditional x) rest → Stops (λ t. not (is_mark punctuator.Question t.token)) (plains marks text ++ rest)
empty_second test x text rest nothing stops = stops-left (λ t. not (is_mark punctuator.Question t.token)) (stop_binary 10 test) rest stops

question_first : (names : List (List ℕ)) (depth c : ℕ) (test x : tree.Expression) (text : List Leaf) (b : ChoiceText names depth c test x text) → text ≡ operates (suc c) (mark punctuator.Question b.first) ∷ b.right
question_first names depth c test x text b = b.cut ∙ ap (λ t. t ++ b.right) (one-mark punctuator.Question (operates (suc c)) b.first b.left b.is_first)

more_ends : (names : List (List ℕ)) (depth count : ℕ) (test x : tree.Expression) (text : List Leaf) (rest : List Placed) → MoreText names depth count test x text → Stops (stop_conditional x) rest → Stops (stop_binary 10 test) (plains marks text ++ rest)
more_ends names depth count test x text rest (first b) stops = subst (λ t. Stops (stop_binary 10 test) (plains marks t ++ rest)) (sym (question_first names depth (count + operators test) test x text b)) refl
more_ends names depth count test x text rest (second nothing) stops = stops-right (λ t. not (is_mark punctuator.Question t.token)) (stop_binary 10 test) rest stops

roled-values : (names : List (List ℕ)) (inner : Parsers) (depth count c offset : ℕ) (test : tree.Expression) → Branches names inner depth count → count ≤ c → suc c ≤ operator_limit
    → Firm anything (ValuesText names depth c test offset) stop_conditional (following (before (inner.conditional depth (suc c)) (token OperandEnd (expected OperandEnd) (mark_offset punctuator.Colon))) (λ y. read_map (λ z. tree.Conditional test y z offset) (inner.conditional depth (suc c + operators y))))
roled-values names inner depth count c offset test branches least most =
    roled-following (roled-closed punctuator.Colon OperandEnd (expected OperandEnd) (λ t. refl) (λ t. refl) (branches (suc c) (omega arith) (omega arith)) (λ x close. refl))
    (λ y left one within. roled-enter anything (firm-map (λ z. tree.Conditional test y z offset) stop_conditional (λ z. refl) (branches (suc c + operators y) (omega arith) (omega arith))))
    record {
      ends = λ y x left right rest one two stops. stops_anything (plains marks right ++ rest);
      goes_on = λ y left one. (tree.Conditional test y zero_tree offset, zero_text, record { inner = zero_tree; is = refl; derives = zero_conditional names depth (suc c + operators y) });
    }

some_values : (names : List (List ℕ)) (depth c : ℕ) (test : tree.Expression) (offset : ℕ) → (x : tree.Expression) × (right : List Leaf) × ValuesText names depth c test offset x right
some_values names depth c test offset = (
  tree.Conditional test zero_tree zero_tree offset,
  zero_text ++ expected OperandEnd (mark punctuator.Colon 0) ∷ zero_text,
  record {
    first = zero_tree;
    left = zero_text ++ expected OperandEnd (mark punctuator.Colon 0) ∷ [];
    right = zero_text;
    is_first = record { inside = zero_text; close = 0; derives = zero_conditional names depth (suc c); cut = refl };
    is_second = record { inner = zero_tree; is = refl; derives = zero_conditional names depth (suc c + 0) };
    cut = refl;
  },
)

roled-test : (names : List (List ℕ)) (inner : Parsers) (depth count c : ℕ) (test : tree.Expression) → Branches names inner depth count → count ≤ c → Firm anything (ChoiceText names depth c test) stop_conditional (read_choice inner depth c test)
roled-test names inner depth count c test branches least =
    roled-opened (mark_offset punctuator.Question) Nothing (operates (suc c)) (λ t. refl) (λ t. refl) (mark punctuator.Question 0) 0 (mark-self punctuator.Question 0)
    (some_values names depth c test)
    (λ offset t is within. roled-values names inner depth count c offset test branches least (within_operates (suc c) t within))

roled-more : (names : List (List ℕ)) (inner : Parsers) (depth count : ℕ) (test : tree.Expression) → Branches names inner depth count → Firm (stop_binary 10 test) (MoreText names depth count test) stop_conditional (choose (is_mark punctuator.Question) (read_choice inner depth (count + operators test) test) (read_nothing test))
roled-more names inner depth count test branches =
    roled-choose (is_mark punctuator.Question)
    record {
      first_begins = λ x text b. (operates (suc (count + operators test)) (mark punctuator.Question b.first), b.right, question_first names depth (count + operators test) test x text b, refl);
      second_begins = λ x text rest one stops. empty_second test x text rest one stops;
    }
    (λ t e. after_begins (mark_offset punctuator.Question) (operates (suc (count + operators test))) (λ t. refl) t t.offset (mark-some punctuator.Question t e) (some_values names depth (count + operators test) test t.offset))
    (after_silent (mark_offset punctuator.Question) (operates (suc (count + operators test))) (λ t. refl))
    (roled-enter (both (stop_binary 10 test) (λ t. is_mark punctuator.Question t.token)) (roled-test names inner depth count (count + operators test) test branches (omega arith)))
    (roled-stop stop_conditional (λ x text one t. empty_same test x text t one) (firm-nothing (both (stop_binary 10 test) (λ t. not (is_mark punctuator.Question t.token))) test))

pub roled-conditional : (names : List (List ℕ)) (inner : Parsers) (depth count : ℕ) → Operands names inner depth count → Branches names inner depth count → Firm anything (Conditional names depth count) stop_conditional (read_conditional inner depth count)
roled-conditional names inner depth count is branches =
    roled-same anything (Conditional names depth count) (read_conditional inner depth count) (λ t h. h) (text_conditional names depth count) (conditional_text names depth count) (λ tokens. refl)
    (roled-following (roled-binary names inner depth count 10 (omega arith) is count (omega arith))
    (λ test left one within. roled-more names inner depth count test branches)
    record {
      ends = λ test x left right rest one two stops. more_ends names depth count test x right rest two stops;
      goes_on = λ test left one. (test, [], second nothing);
    })
