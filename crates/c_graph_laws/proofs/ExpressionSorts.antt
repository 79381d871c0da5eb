-- The terms of typed expressions are well sorted, and so are their tests.
use Rattle.std.proofs.Common.{◌≡◌, ℕ, ◌^◌, ◌<◌, Bool, true, false, cond, refl, sym, subst, arith, List, [], ◌++◌, Option, Some, None, ℤ, map, unwrap_or}
use Rattle.std.specs.Prelude.{All}
use Rattle.std.proofs.lemmas.List.Elements.{All-nil, All-append, All-map, All-weaker}
use Rattle.term_core_spec.specs.declared.Width.TheVariants.{W8, W16, W32, W64}
use Rattle.term_core_spec.specs.declared.Sort.TheVariants.{Truth, Word}
use Rattle.term_core_spec.specs.Term.{Term, open_term, constant, not_term, equal, less, zero_extend}
use Rattle.term_core_spec.specs.Sort.{sort_of, sort_of_atom, sort_of_unary, sort_of_binary}
use Rattle.c_types_spec.specs.declared.Scalar.{Scalar}
use Rattle.c_types_spec.specs.declared.Arithmetic.{Arithmetic}
use Rattle.c_types_spec.specs.declared.Arithmetic.TheVariants as arithmetic
use Rattle.c_types_spec.specs.declared.Comparison.{Comparison}
use Rattle.c_types_spec.specs.declared.Comparison.TheVariants as comparison
use Rattle.c_types_spec.specs.declared.Direction.{Direction}
use Rattle.c_types_spec.specs.declared.Direction.TheVariants.{Up, Down}
use Rattle.c_types_spec.specs.declared.Order.{Order}
use Rattle.c_types_spec.specs.declared.Order.TheVariants.{PointerFirst, IndexFirst}
use Rattle.c_types_spec.specs.Types.{word}
use Rattle.c_types_spec.specs.Values.{bits_of}
use Rattle.c_types_spec.specs.Core.{Core, Constant, ReadLocal, GlobalAddress, Load, Target, Convert, Operate, Compare, Move, Within, Aligned, Choose, type_of}
use Rattle.c_types_spec.specs.HasType as typed
use Rattle.c_types_spec.specs.HasType.{Scope, HasType, is_shift}
use Rattle.c_graph_spec.specs.State.{width_of, number, value_constant, local, is_set}
use Rattle.c_graph_spec.specs.Values.{Globals, Object, object, at_width, computed, compared, scaled, scaled_by, exponent, moved, loaded, Terms, of_word, comparison_test, tests_zero, zero_test, terms, value_term}
use Rattle.c_graph_spec.specs.Guards.{operator_tests, is_aligned, is_pointer_moved, under, in_order, tests}
use Rattle.c_graph_laws.proofs.Extents.{scalar, IsPlain, byte, half, full, IsPromoted, promoted, IsAlignment, one_byte, two_bytes, four_bytes, HasExtents}
use Rattle.c_graph_laws.proofs.Bits.{bits_below}
use Rattle.c_graph_laws.proofs.Moves.{exponent_is}
use Rattle.c_graph_laws.proofs.Sorted.{IsTest, IsOf, Is32, one, not_sorted, or_sorted, words_sorted, equal_sorted, less_sorted, constant_sorted, number_sorted, choose_sorted, at_width_sorted, wide_sorted, computed_sorted, operator_tests_sorted, count_sorted, compared_sorted, set_if_sorted, loaded_sorted, read_tests_sorted, unary_sorted}

-- ---- the type of an expression

pub type_is : (scope : Scope) (target : Option Scalar) (x : Core) (t : Scalar) → HasType scope target x t → type_of x ≡ t
type_is scope target _ _ (typed.constant t value narrow is) = refl
type_is scope target _ _ (typed.read_local t index offset narrow is) = refl
type_is scope target _ _ (typed.global_address name is) = refl
type_is scope target _ _ (typed.load t address displacement offset narrow is) = refl
type_is scope target _ _ (typed.stored_to t offset narrow is) = refl
type_is scope target _ _ (typed.convert t source operand narrow is) = refl
type_is scope target _ _ (typed.operate operator t left right offset plain is_promoted a b) = refl
type_is scope target _ _ (typed.shift operator t count left right offset shifts is_promoted a b) = refl
type_is scope target _ _ (typed.compare operator t left right a b) = refl
type_is scope target _ _ (typed.move direction order size t pointer index offset a b) = refl
type_is scope target _ _ (typed.within bound t index offset a) = type_is scope target index t a
type_is scope target _ _ (typed.aligned alignment pointer offset is_alignment a) = refl
type_is scope target _ _ (typed.choose t tested test first second a b c) = refl

pub plain_is : (x : Core) → HasExtents x → IsPlain (type_of x)
plain_is (Constant t value) h = h
plain_is (ReadLocal t index offset) h = h
plain_is (GlobalAddress name) h = full false
plain_is (Load t address displacement offset) h = h.0
plain_is (Target t offset) h = h
plain_is (Convert t operand) h = h.0
plain_is (Operate operator t left right offset) h = from t h.0
  where
    from : (t : Scalar) → IsPromoted t → IsPlain t
    from _ (promoted sign) = full sign
plain_is (Compare operator left right) h = full true
plain_is (Move direction order size pointer index offset) h = full false
plain_is (Within bound index offset) h = plain_is index h.1
plain_is (Aligned alignment pointer offset) h = full false
plain_is (Choose t test first second) h = h.0

-- ---- terms

-- an expression's terms and tests are sorted
pub record AreSorted (list : List Term) (x : Terms) (t : Scalar) : Type 0 where
  pub tests : All IsTest list
  pub word : IsOf x.word t
  pub truth : IsTest x.truth

word_terms : (t : Scalar) → IsPlain t → (list : List Term) (x : Term) → All IsTest list → IsOf x t → AreSorted list (of_word t x) t
word_terms t plain list x are e = record { tests = are; word = e; truth = not_sorted (equal x (constant (width_of t) 0)) (equal_sorted (width_of t) x (constant (width_of t) 0) e (zero_sorted t plain)) }
  where
    zero_sorted : (t : Scalar) → IsPlain t → IsOf (constant (width_of t) 0) t
    zero_sorted _ (byte s) = constant_sorted W8 0 (omega arith)
    zero_sorted _ (half s) = constant_sorted W16 0 (omega arith)
    zero_sorted _ (full s) = constant_sorted W32 0 (omega arith)

pub constant_value_sorted : (t : Scalar) → IsPlain t → (v : ℤ) → IsOf (value_constant t v) t
constant_value_sorted _ (byte s) v = constant_sorted W8 (bits_of 8 v) (bits_below 8 v)
constant_value_sorted _ (half s) v = constant_sorted W16 (bits_of 16 v) (bits_below 16 v)
constant_value_sorted _ (full s) v = constant_sorted W32 (bits_of 32 v) (bits_below 32 v)

open_sorted : (t : Scalar) (index : ℕ) → IsOf (open_term (local index t)) t
unfolding sort_of sort_of_atom
open_sorted t index = refl

set_sorted : (index : ℕ) → IsTest (open_term (is_set index))
unfolding sort_of sort_of_atom
set_sorted index = refl

scaled_32 : (size : ℕ) → size < 2 ^ 31 → (x : Term) → Is32 x → Is32 (scaled W32 size x)
scaled_32 size few x e = at (exponent 32 size) refl
  where
    at : (o : Option ℕ) → exponent 32 size ≡ o → Is32 (scaled_by W32 o size x)
    at None is = words_sorted _ W32 x (constant W32 size) e (constant_sorted W32 size (omega arith))
    at (Some k) is = let found = exponent_is 32 size k is in words_sorted _ W32 x (constant W32 k) e (constant_sorted W32 k (omega (arith, found.1)))

scaled_64 : (size : ℕ) → size < 2 ^ 31 → (x : Term) → sort_of x ≡ Some (Word W64) → sort_of (scaled W64 size x) ≡ Some (Word W64)
scaled_64 size few x e = at (exponent 32 size) refl
  where
    at : (o : Option ℕ) → exponent 32 size ≡ o → sort_of (scaled_by W64 o size x) ≡ Some (Word W64)
    at None is = words_sorted _ W64 x (constant W64 size) e (constant_sorted W64 size (omega arith))
    at (Some k) is = let found = exponent_is 32 size k is in words_sorted _ W64 x (constant W64 k) e (constant_sorted W64 k (omega (arith, found.1)))

moved_32 : (direction : Direction) (x y : Term) → Is32 x → Is32 y → Is32 (moved direction x y)
moved_32 Up x y e d = words_sorted _ W32 x y e d
moved_32 Down x y e d = words_sorted _ W32 x y e d

moved_sorted : (direction : Direction) (size : ℕ) → size < 2 ^ 31 → (x : Term) (t : Scalar) → IsPlain t → (y : Term) → Is32 x → IsOf y t → IsTest (is_pointer_moved direction size x t y)
unfolding sort_of_unary
moved_sorted direction size few x t plain y ex ey =
    less_sorted W64 (moved direction (zero_extend W64 x) (scaled W64 size (at_width t W64 y))) (constant W64 (2 ^ 32))
    (at direction (unary_sorted _ x _ _ ex refl) (scaled_64 size few (at_width t W64 y) (wide_sorted t plain y ey))) (constant_sorted W64 (2 ^ 32) (omega arith))
  where
    at : (direction : Direction) → sort_of (zero_extend W64 x) ≡ Some (Word W64) → sort_of (scaled W64 size (at_width t W64 y)) ≡ Some (Word W64)
        → sort_of (moved direction (zero_extend W64 x) (scaled W64 size (at_width t W64 y))) ≡ Some (Word W64)
    at Up e d = words_sorted _ W64 _ _ e d
    at Down e d = words_sorted _ W64 _ _ e d

alignment_sorted : (alignment : ℕ) → IsAlignment alignment → (x : Term) → Is32 x → IsTest (is_aligned alignment x)
unfolding sort_of sort_of_atom sort_of_unary sort_of_binary
alignment_sorted _ one_byte x e = rw e refl
alignment_sorted _ two_bytes x e = rw e refl
alignment_sorted _ four_bytes x e = rw e refl

under_sorted : (condition : Term) (list : List Term) → IsTest condition → All IsTest list → All IsTest (map (under condition) list)
under_sorted condition list e are =
    All-map IsTest (under condition) list (All-weaker IsTest (λ test. IsTest (under condition test)) (λ test is. or_sorted (not_term condition) test (not_sorted condition e) is) list are)

ordered : (order : Order) (a b : List Term) → All IsTest a → All IsTest b → All IsTest (in_order order a b)
ordered PointerFirst a b first second = All-append IsTest a b first second
ordered IndexFirst a b first second = All-append IsTest b a second first

comparison_sorted : (operator : Comparison) (t : Scalar) → IsPlain t → (right : Core) (x y : Terms) → IsOf x.word t → IsTest x.truth → IsOf y.word t → IsTest (comparison_test operator t right x y)
comparison_sorted operator t plain right x y ex et ey = at (tests_zero operator right)
  where
    zero : (operator : Comparison) → IsTest (zero_test operator x.truth)
    zero comparison.Equal = not_sorted x.truth et
    zero comparison.NotEqual = et
    zero comparison.Less = et
    zero comparison.Greater = et
    zero comparison.LessOrEqual = et
    zero comparison.GreaterOrEqual = et

    at : (b : Bool) → IsTest (cond b (zero_test operator x.truth) (compared operator t x.word y.word))
    at true = zero operator
    at false = compared_sorted operator t plain x.word y.word ex ey

module _ (globals : Globals) (placed : (name : List ℕ) → unwrap_or (globals name) 0 < 2 ^ 32) (o : Object) (base_sorted : Is32 o.base) (small : o.displacement < 2 ^ 32) where
  abbrev Goes : Core → Scalar → Type 0
  Goes x t = AreSorted (tests globals o x) (terms globals o x) t

  -- operators that are not shifts: both operands have the type
  operate_sorted : (operator : Arithmetic) (t : Scalar) (left right : Core) (offset : ℕ) → is_shift operator ≡ false → IsPromoted t → type_of right ≡ t → Goes left t → Goes right t
      → Goes (Operate operator t left right offset) t
  unfolding tests terms
  operate_sorted operator _ left right offset plain (promoted sign) e a b =
      subst (λ (u : Scalar). AreSorted (tests globals o left ++ (tests globals o right ++ operator_tests operator (scalar 32 sign) u (value_term globals o left) (value_term globals o right)))
      (of_word (scalar 32 sign) (computed operator (scalar 32 sign) (value_term globals o left) (at_width u W32 (value_term globals o right)))) (scalar 32 sign)) (sym e)
      (word_terms (scalar 32 sign) (full sign) _ _
      (All-append IsTest (tests globals o left) _ a.tests (All-append IsTest (tests globals o right) _ b.tests (operator_tests_sorted (value_term globals o left) (value_term globals o right) a.word b.word operator sign)))
      (computed_sorted (value_term globals o left) (value_term globals o right) a.word b.word operator sign))

  shift_tests : (operator : Arithmetic) (sign : Bool) (u : Scalar) → is_shift operator ≡ true → IsPlain u → (x y : Term) → IsOf y u → All IsTest (operator_tests operator (scalar 32 sign) u x y)
  unfolding operator_tests
  shift_tests arithmetic.ShiftLeft sign u shifts plain x y e = one (less y (constant (width_of u) 32)) (count_sorted u plain y e)
  shift_tests arithmetic.ShiftRight sign u shifts plain x y e = one (less y (constant (width_of u) 32)) (count_sorted u plain y e)
  shift_tests arithmetic.Add sign u shifts plain x y e = absurd (cc)
  shift_tests arithmetic.Subtract sign u shifts plain x y e = absurd (cc)
  shift_tests arithmetic.Multiply sign u shifts plain x y e = absurd (cc)
  shift_tests arithmetic.Divide sign u shifts plain x y e = absurd (cc)
  shift_tests arithmetic.Remainder sign u shifts plain x y e = absurd (cc)
  shift_tests arithmetic.And sign u shifts plain x y e = absurd (cc)
  shift_tests arithmetic.Or sign u shifts plain x y e = absurd (cc)
  shift_tests arithmetic.Xor sign u shifts plain x y e = absurd (cc)

  shift_sorted : (operator : Arithmetic) (t : Scalar) (left right : Core) (offset : ℕ) → is_shift operator ≡ true → IsPromoted t → IsPlain (type_of right) → Goes left t → Goes right (type_of right)
      → Goes (Operate operator t left right offset) t
  unfolding tests terms
  shift_sorted operator _ left right offset shifts (promoted sign) plain a b =
      word_terms (scalar 32 sign) (full sign) _ _
      (All-append IsTest (tests globals o left) _ a.tests (All-append IsTest (tests globals o right) _ b.tests
      (shift_tests operator sign (type_of right) shifts plain (value_term globals o left) (value_term globals o right) b.word)))
      (computed_sorted (value_term globals o left) (at_width (type_of right) W32 (value_term globals o right)) a.word
      (at_width_sorted (type_of right) (scalar 32 sign) plain (full sign) (value_term globals o right) b.word) operator sign)

  pub sorted : (scope : Scope) (target : Option Scalar) (x : Core) (t : Scalar) → HasType scope target x t → HasExtents x → Goes x t
  unfolding tests terms
  sorted scope target _ _ (typed.constant t value narrow is) h = word_terms t h [] (value_constant t value) (All-nil IsTest) (constant_value_sorted t h value)
  sorted scope target _ _ (typed.read_local t index offset narrow is) h = word_terms t h _ (open_term (local index t)) (one (open_term (is_set index)) (set_sorted index)) (open_sorted t index)
  sorted scope target _ _ (typed.global_address name is) h = word_terms word (full false) [] _ (All-nil IsTest) (number_sorted _ (placed name))
  sorted scope target _ _ (typed.load t address displacement offset narrow a) h =
      let inner = sorted scope target address word a h.2 in
      let at = object (value_term globals o address) displacement in
      word_terms t h.0 _ (loaded t at) (All-append IsTest (tests globals o address) _ inner.tests (read_tests_sorted t h.0 at inner.word (omega (arith, h.1)))) (loaded_sorted t h.0 at inner.word (omega (arith, h.1)))
  sorted scope target _ _ (typed.stored_to t offset narrow is) h = word_terms t h _ (loaded t o) (read_tests_sorted t h o base_sorted small) (loaded_sorted t h o base_sorted small)
  sorted scope target _ _ (typed.convert t source operand narrow a) h =
      let inner = sorted scope target operand source a h.1 in
      word_terms t h.0 _ _ inner.tests
      (at_width_sorted (type_of operand) t (plain_is operand h.1) h.0 (value_term globals o operand) (subst (λ (u : Scalar). IsOf (value_term globals o operand) u) (sym (type_is scope target operand source a)) inner.word))
  sorted scope target _ _ (typed.operate operator t left right offset plain is_promoted a b) h =
      operate_sorted operator t left right offset plain h.0 (type_is scope target right t b) (sorted scope target left t a h.1) (sorted scope target right t b h.2)
  sorted scope target _ _ (typed.shift operator t count left right offset shifts is_promoted a b) h =
      shift_sorted operator t left right offset shifts h.0 (plain_is right h.2) (sorted scope target left t a h.1)
      (subst (λ (u : Scalar). Goes right u) (sym (type_is scope target right count b)) (sorted scope target right count b h.2))
  sorted scope target _ _ (typed.compare operator t left right a b) h =
      let x = subst (λ (u : Scalar). Goes left u) (sym (type_is scope target left t a)) (sorted scope target left t a h.0) in
      let y = subst (λ (u : Scalar). Goes right u) (sym (type_is scope target left t a)) (sorted scope target right t b h.1) in
      let test = comparison_sorted operator (type_of left) (plain_is left h.0) right (terms globals o left) (terms globals o right) x.word x.truth y.word in
      record { tests = All-append IsTest (tests globals o left) (tests globals o right) x.tests y.tests; word = set_if_sorted _ test; truth = test }
  sorted scope target _ _ (typed.move direction order size t pointer index offset a b) h =
      let p = sorted scope target pointer word a h.1 in
      let i = subst (λ (u : Scalar). Goes index u) (sym (type_is scope target index t b)) (sorted scope target index t b h.2) in
      word_terms word (full false) _ _
      (All-append IsTest (in_order order (tests globals o pointer) (tests globals o index)) _ (ordered order (tests globals o pointer) (tests globals o index) p.tests i.tests)
      (one _ (moved_sorted direction size h.0 (value_term globals o pointer) (type_of index) (plain_is index h.2) (value_term globals o index) p.word i.word)))
      (moved_32 direction (value_term globals o pointer) _ p.word (scaled_32 size h.0 _ (at_width_sorted (type_of index) (scalar 32 false) (plain_is index h.2) (full false) (value_term globals o index) i.word)))
  sorted scope target _ _ (typed.within bound t index offset a) h =
      let i = sorted scope target index t a h.1 in
      let at_type = subst (λ (u : Scalar). IsOf (value_term globals o index) u) (sym (type_is scope target index t a)) i.word in
      record {
        tests = All-append IsTest (tests globals o index) _ i.tests
            (one _ (less_sorted W32 _ (number bound) (at_width_sorted (type_of index) (scalar 32 false) (plain_is index h.1) (full false) (value_term globals o index) at_type) (number_sorted bound (omega (arith, h.0)))));
        word = i.word;
        truth = i.truth;
      }
  sorted scope target _ _ (typed.aligned alignment pointer offset is_alignment a) h =
      let p = sorted scope target pointer word a h.1 in
      record { tests = All-append IsTest (tests globals o pointer) _ p.tests (one _ (alignment_sorted alignment h.0 (value_term globals o pointer) p.word)); word = p.word; truth = p.truth }
  sorted scope target _ _ (typed.choose t tested test first second a b c) h =
      let x = sorted scope target test tested a h.1 in
      let y = sorted scope target first t b h.2 in
      let z = sorted scope target second t c h.3 in
      record {
        tests = All-append IsTest (tests globals o test) _ x.tests
            (All-append IsTest _ _ (under_sorted _ (tests globals o first) x.truth y.tests) (under_sorted _ (tests globals o second) (not_sorted _ x.truth) z.tests));
        word = choose_sorted _ _ _ (Word (width_of t)) x.truth y.word z.word;
        truth = choose_sorted _ _ _ Truth x.truth y.truth z.truth;
      }
