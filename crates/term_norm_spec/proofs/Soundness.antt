-- The normal form keeps sort and value.
use Rattle.std.proofs.Common.{◌≡◌, List, [], ◌∷◌, Some, refl, sym, ap, ◌∙◌, subst}
use Rattle.std.proofs.lemmas.Bool.{and_parts}
use Rattle.term_core_spec.specs.declared.Width.{Width}
use Rattle.term_core_spec.specs.declared.Width.TheVariants.{W8, W16, W32, W64}
use Rattle.term_core_spec.specs.declared.Sort.{Sort}
use Rattle.term_core_spec.specs.declared.Sort.TheVariants as sort
use Rattle.term_core_spec.specs.declared.UnaryOperator.{UnaryOperator}
use Rattle.term_core_spec.specs.declared.UnaryOperator.TheVariants as unary
use Rattle.term_core_spec.specs.declared.WordOperator.{WordOperator}
use Rattle.term_core_spec.specs.declared.WordOperator.TheVariants as word
use Rattle.term_core_spec.specs.declared.BinaryOperator.{BinaryOperator}
use Rattle.term_core_spec.specs.declared.BinaryOperator.TheVariants as binary
use Rattle.term_core_spec.specs.declared.TernaryOperator.{TernaryOperator}
use Rattle.term_core_spec.specs.declared.TernaryOperator.TheVariants as ternary
use Rattle.term_core_spec.specs.declared.QuaternaryOperator.{QuaternaryOperator}
use Rattle.term_core_spec.specs.declared.QuaternaryOperator.TheVariants as quaternary
use Rattle.term_core_spec.specs.Term.{Term, Leaf, Unary, Binary, Ternary, Quaternary, Octonary, not_term, complement, and_term, or_term, less, on_words}
use Rattle.term_core_spec.specs.Sort.{sort_of, sort_of_unary, sort_of_binary, is_truth, is_word, same_sort}
use Rattle.term_core_spec.specs.Value.{value}
use Rattle.term_core_spec.proofs.Sorts.{sort_if-some, with_one-some, with_two-some, same_sort-true, word_width, load_is}
use Rattle.memory_spec.specs.Runs.{Run, AreBytes}
use Rattle.term_norm_spec.specs.Normal.{normal_unary, normal_word, normal_binary, normal_ternary, normal_quaternary, normal_octonary, normal}
use Rattle.term_norm_spec.proofs.Truths.{keeps_not, keeps_and, keeps_or, keeps_choose}
use Rattle.term_norm_spec.proofs.Words.{words_of, sort-words, keeps_complement, keeps_bit_and, keeps_bit_or, keeps_bit_xor, keeps_add, keeps_subtract, keeps_multiply, keeps_less}
use Rattle.term_norm_spec.proofs.Equals.{alike_of, keeps_equal}
use Rattle.term_norm_spec.proofs.Cuts.{zero_extend_of, sign_extend_of, low_of, byte_parts, shift_left_by_0, shift_right_by_0, shift_right_signed_by_0, keeps_shift, keeps_zero_extend, keeps_sign_extend, keeps_low, keeps_byte, keeps_join, join_two_is, join_four_is, join_eight_is}
use Rattle.term_norm_spec.proofs.Loads.{choose_is, keeps_load}
use Rattle.term_norm_spec.proofs.Keeps.{Keeps, keeps_itself, keeps_then, keeps_value_of_two, unary_keeps, binary_keeps, ternary_keeps, quaternary_keeps}

not_is : (x : Term) (s : Sort) → sort_of (not_term x) ≡ Some s → (s ≡ sort.Truth) × (sort_of x ≡ Some sort.Truth)
unfolding sort_of sort_of_unary
not_is x s h =
    let parts = with_one-some (sort_of_unary unary.Not) (sort_of x) s h in
    let tests = sort_if-some (is_truth parts.0) sort.Truth s parts.2 in
    (sym tests.1, parts.1 ∙ ap Some (same_sort-true parts.0 sort.Truth tests.0))

complement_is : (x : Term) (s : Sort) → sort_of (complement x) ≡ Some s → (w : Width) × (s ≡ sort.Word w) × (sort_of x ≡ Some (sort.Word w))
unfolding sort_of sort_of_unary
complement_is x s h =
    let parts = with_one-some (sort_of_unary unary.Complement) (sort_of x) s h in
    let tests = sort_if-some (is_word parts.0) parts.0 s parts.2 in
    let width = word_width parts.0 tests.0 in
    (width.0, sym tests.1 ∙ width.1, parts.1 ∙ ap Some width.1)

and_is : (x y : Term) (s : Sort) → sort_of (and_term x y) ≡ Some s → (s ≡ sort.Truth) × (sort_of x ≡ Some sort.Truth) × (sort_of y ≡ Some sort.Truth)
unfolding sort_of sort_of_binary
and_is x y s h =
    let parts = with_two-some (sort_of_binary binary.And) (sort_of x) (sort_of y) s h in
    let tests = sort_if-some _ sort.Truth s parts.4 in
    let both = and_parts (is_truth parts.0) (is_truth parts.1) tests.0 in
    (sym tests.1, parts.2 ∙ ap Some (same_sort-true parts.0 sort.Truth both.0), parts.3 ∙ ap Some (same_sort-true parts.1 sort.Truth both.1))

or_is : (x y : Term) (s : Sort) → sort_of (or_term x y) ≡ Some s → (s ≡ sort.Truth) × (sort_of x ≡ Some sort.Truth) × (sort_of y ≡ Some sort.Truth)
unfolding sort_of sort_of_binary
or_is x y s h =
    let parts = with_two-some (sort_of_binary binary.Or) (sort_of x) (sort_of y) s h in
    let tests = sort_if-some _ sort.Truth s parts.4 in
    let both = and_parts (is_truth parts.0) (is_truth parts.1) tests.0 in
    (sym tests.1, parts.2 ∙ ap Some (same_sort-true parts.0 sort.Truth both.0), parts.3 ∙ ap Some (same_sort-true parts.1 sort.Truth both.1))

less_is : (x y : Term) (s : Sort) → sort_of (less x y) ≡ Some s → (w : Width) × (s ≡ sort.Truth) × (sort_of x ≡ Some (sort.Word w)) × (sort_of y ≡ Some (sort.Word w))
unfolding sort_of sort_of_binary
less_is x y s h =
    let parts = with_two-some (sort_of_binary binary.Less) (sort_of x) (sort_of y) s h in
    let tests = sort_if-some _ sort.Truth s parts.4 in
    let both = and_parts (is_word parts.0) (same_sort parts.0 parts.1) tests.0 in
    let width = word_width parts.0 both.0 in
    (width.0, sym tests.1, parts.2 ∙ ap Some width.1, parts.3 ∙ ap Some (sym (same_sort-true parts.0 parts.1 both.1) ∙ width.1))

module _ (runs : List Run) where
  -- at an equal sort
  back : (s p : Sort) (t u : Term) → s ≡ p → Keeps runs p t u → Keeps runs s t u
  back s p t u e kept = subst (λ q. Keeps runs q t u) (sym e) kept

  keeps_unary : (operator : UnaryOperator) (x : Term) (s : Sort) → sort_of (Unary operator x) ≡ Some s → Keeps runs s (Unary operator x) (normal_unary operator x)
  unfolding normal_unary
  keeps_unary unary.Not x s h = let is = not_is x s h in back s sort.Truth _ _ is.0 (keeps_not runs x is.1)
  keeps_unary unary.Complement x s h = let is = complement_is x s h in back s (sort.Word is.0) _ _ is.1 (keeps_complement runs is.0 x is.2)
  keeps_unary (unary.ZeroExtend w) x s h = let is = zero_extend_of w x s h in back s (sort.Word w) _ _ is.0.gives (keeps_zero_extend runs w x (h ∙ ap Some is.0.gives))
  keeps_unary (unary.SignExtend w) x s h = let is = sign_extend_of w x s h in back s (sort.Word w) _ _ is.0.gives (keeps_sign_extend runs w x (h ∙ ap Some is.0.gives))
  keeps_unary (unary.Low w) x s h = let is = low_of w x s h in back s (sort.Word w) _ _ is.0.gives (keeps_low runs w x (h ∙ ap Some is.0.gives))
  keeps_unary (unary.Byte place) x s h = let is = byte_parts place x s h in back s (sort.Word W8) _ _ is.2 (keeps_byte runs place x (h ∙ ap Some is.2))

  keeps_word : (operator : WordOperator) (w : Width) (x y : Term) → sort_of x ≡ Some (sort.Word w) → sort_of y ≡ Some (sort.Word w) → Keeps runs (sort.Word w) (on_words operator x y) (normal_word operator x y)
  unfolding normal_word
  keeps_word word.Add w x y hx hy = keeps_add runs w x y hx hy
  keeps_word word.Subtract w x y hx hy = keeps_subtract runs w x y hx hy
  keeps_word word.Multiply w x y hx hy = keeps_multiply runs w x y hx hy
  keeps_word word.And w x y hx hy = keeps_bit_and runs w x y hx hy
  keeps_word word.Or w x y hx hy = keeps_bit_or runs w x y hx hy
  keeps_word word.Xor w x y hx hy = keeps_bit_xor runs w x y hx hy
  keeps_word word.ShiftLeft w x y hx hy = keeps_shift runs word.ShiftLeft w x y hx hy (shift_left_by_0 w)
  keeps_word word.ShiftRight w x y hx hy = keeps_shift runs word.ShiftRight w x y hx hy (shift_right_by_0 w)
  keeps_word word.ShiftRightSigned w x y hx hy = keeps_shift runs word.ShiftRightSigned w x y hx hy (shift_right_signed_by_0 w)
  keeps_word word.Divide w x y hx hy =
      keeps_value_of_two runs (binary.Word word.Divide) x y (sort.Word w) _ refl (sort-words word.Divide w x y hx hy) (keeps_itself runs (sort.Word w) _ (sort-words word.Divide w x y hx hy))
  keeps_word word.Remainder w x y hx hy =
      keeps_value_of_two runs (binary.Word word.Remainder) x y (sort.Word w) _ refl (sort-words word.Remainder w x y hx hy) (keeps_itself runs (sort.Word w) _ (sort-words word.Remainder w x y hx hy))

  module _ (small : AreBytes runs) where
    keeps_binary : (operator : BinaryOperator) (x y : Term) (s : Sort) → sort_of (Binary operator x y) ≡ Some s → Keeps runs s (Binary operator x y) (normal_binary runs operator x y)
    unfolding normal_binary
    keeps_binary binary.And x y s h = let is = and_is x y s h in back s sort.Truth _ _ is.0 (keeps_and runs x y is.1 is.2)
    keeps_binary binary.Or x y s h = let is = or_is x y s h in back s sort.Truth _ _ is.0 (keeps_or runs x y is.1 is.2)
    keeps_binary binary.Equal x y s h = let is = alike_of x y s h in back s sort.Truth _ _ is.0 (keeps_equal runs x y is.1)
    keeps_binary binary.Less x y s h = let is = less_is x y s h in back s sort.Truth _ _ is.1 (keeps_less runs is.0 x y is.2 is.3)
    keeps_binary (binary.Word operator) x y s h = let is = words_of operator x y s h in back s (sort.Word is.0) _ _ is.1 (keeps_word operator is.0 x y is.2 is.3)
    keeps_binary binary.Load x y s h = let is = load_is x y s h in back s (sort.Word W8) _ _ is.0 (keeps_load runs small x y is.1 is.2)
    keeps_binary binary.Join x y s h =
        let is = join_two_is runs x y s h in
        back s (sort.Word W16) _ _ is.0 (keeps_join runs W16 (x ∷ y ∷ []) (Binary binary.Join x y) is.1)

    keeps_ternary : (operator : TernaryOperator) (x y z : Term) (s : Sort) → sort_of (Ternary operator x y z) ≡ Some s → Keeps runs s (Ternary operator x y z) (normal_ternary operator x y z)
    unfolding normal_ternary
    keeps_ternary ternary.Choose x y z s h = let is = choose_is x y z s h in keeps_choose runs s x y z is.0 is.1 is.2
    keeps_ternary ternary.Store x y z s h = keeps_itself runs s (Ternary ternary.Store x y z) h

    keeps_quaternary : (operator : QuaternaryOperator) (a b c d : Term) (s : Sort) → sort_of (Quaternary operator a b c d) ≡ Some s → Keeps runs s (Quaternary operator a b c d) (normal_quaternary operator a b c d)
    unfolding normal_quaternary
    keeps_quaternary quaternary.Over a b c d s h = keeps_itself runs s (Quaternary quaternary.Over a b c d) h
    keeps_quaternary quaternary.Join a b c d s h =
        let is = join_four_is runs a b c d s h in
        back s (sort.Word W32) _ _ is.0 (keeps_join runs W32 (a ∷ b ∷ c ∷ d ∷ []) (Quaternary quaternary.Join a b c d) is.1)

    keeps_octonary : (a b c d i j k l : Term) (s : Sort) → sort_of (Octonary a b c d i j k l) ≡ Some s → Keeps runs s (Octonary a b c d i j k l) (normal_octonary a b c d i j k l)
    unfolding normal_octonary
    keeps_octonary a b c d i j k l s h =
        let is = join_eight_is runs a b c d i j k l s h in
        back s (sort.Word W64) _ _ is.0 (keeps_join runs W64 (a ∷ b ∷ c ∷ d ∷ i ∷ j ∷ k ∷ l ∷ []) (Octonary a b c d i j k l) is.1)

    -- kept at whatever sort the term has
    abbrev Kept : Term → Term → Type 0
    Kept t u = (s : Sort) → sort_of t ≡ Some s → Keeps runs s t u

    octonary_keeps : (a b c d i j k l a1 b1 c1 d1 i1 j1 k1 l1 : Term) (s : Sort) → sort_of (Octonary a b c d i j k l) ≡ Some s
        → Kept a a1 → Kept b b1 → Kept c c1 → Kept d d1 → Kept i i1 → Kept j j1 → Kept k k1 → Kept l l1
        → Keeps runs s (Octonary a b c d i j k l) (Octonary a1 b1 c1 d1 i1 j1 k1 l1)
    unfolding sort_of value
    octonary_keeps a b c d i j k l a1 b1 c1 d1 i1 j1 k1 l1 s h fa fb fc fd fi fj fk fl =
        let is = join_eight_is runs a b c d i j k l s h in
        let all = is.1.bytes in
        let ka = fa (sort.Word W8) all.0 in
        let kb = fb (sort.Word W8) all.1.0 in
        let kc = fc (sort.Word W8) all.1.1.0 in
        let kd = fd (sort.Word W8) all.1.1.1.0 in
        let ki = fi (sort.Word W8) all.1.1.1.1.0 in
        let kj = fj (sort.Word W8) all.1.1.1.1.1.0 in
        let kk = fk (sort.Word W8) all.1.1.1.1.1.1.0 in
        let kl = fl (sort.Word W8) all.1.1.1.1.1.1.1.0 in
        record {
          sorted = rw (ka.sorted, kb.sorted, kc.sorted, kd.sorted, ki.sorted, kj.sorted, kk.sorted, kl.sorted) (ap Some (sym is.0));
          value_is = λ assignment g fixed.
              rw (ka.value_is assignment g fixed, kb.value_is assignment g fixed, kc.value_is assignment g fixed, kd.value_is assignment g fixed, ki.value_is assignment g fixed, kj.value_is assignment g fixed, kk.value_is assignment g fixed, kl.value_is assignment g fixed) refl;
        }

    pub keeps_normal : (t : Term) (s : Sort) → sort_of t ≡ Some s → Keeps runs s t (normal runs t)
    unfolding normal
    keeps_normal (Leaf leaf) s h = keeps_itself runs s (Leaf leaf) h
    keeps_normal (Unary operator a) s h =
        let kept = unary_keeps runs operator a (normal runs a) s h (keeps_normal a) in
        keeps_then runs s _ (Unary operator (normal runs a)) _ kept (keeps_unary operator (normal runs a) s kept.sorted)
    keeps_normal (Binary operator a b) s h =
        let kept = binary_keeps runs operator a b (normal runs a) (normal runs b) s h (keeps_normal a) (keeps_normal b) in
        keeps_then runs s _ (Binary operator (normal runs a) (normal runs b)) _ kept (keeps_binary operator (normal runs a) (normal runs b) s kept.sorted)
    keeps_normal (Ternary operator a b c) s h =
        let kept = ternary_keeps runs operator a b c (normal runs a) (normal runs b) (normal runs c) s h (keeps_normal a) (keeps_normal b) (keeps_normal c) in
        keeps_then runs s _ (Ternary operator (normal runs a) (normal runs b) (normal runs c)) _ kept (keeps_ternary operator (normal runs a) (normal runs b) (normal runs c) s kept.sorted)
    keeps_normal (Quaternary operator a b c d) s h =
        let kept = quaternary_keeps runs operator a b c d (normal runs a) (normal runs b) (normal runs c) (normal runs d) s h (keeps_normal a) (keeps_normal b) (keeps_normal c) (keeps_normal d) in
        keeps_then runs s _ (Quaternary operator (normal runs a) (normal runs b) (normal runs c) (normal runs d)) _ kept
        (keeps_quaternary operator (normal runs a) (normal runs b) (normal runs c) (normal runs d) s kept.sorted)
    keeps_normal (Octonary a b c d i j k l) s h =
        let kept = octonary_keeps a b c d i j k l (normal runs a) (normal runs b) (normal runs c) (normal runs d) (normal runs i) (normal runs j) (normal runs k) (normal runs l) s h
        (keeps_normal a) (keeps_normal b) (keeps_normal c) (keeps_normal d) (keeps_normal i) (keeps_normal j) (keeps_normal k) (keeps_normal l) in
        keeps_then runs s _ (Octonary (normal runs a) (normal runs b) (normal runs c) (normal runs d) (normal runs i) (normal runs j) (normal runs k) (normal runs l)) _ kept
        (keeps_octonary (normal runs a) (normal runs b) (normal runs c) (normal runs d) (normal runs i) (normal runs j) (normal runs k) (normal runs l) s kept.sorted)
