-- The rules on shifts, extensions, cuts and bytes keep sort and value.
use Rattle.std.proofs.Common.{◌≡◌, ℕ, zero, suc, ◌+◌, ◌*◌, ◌/◌, ◌%◌, ◌^◌, ◌<◌, Bool, true, false, cond, List, [], ◌∷◌, map, length, Option, Some, None, unwrap_or, option_and_then, refl, sym, ap, ◌∙◌, subst, arith, eqb-true}
use Rattle.std.specs.Prelude.{slice_get, ◌&&◌, nat_le, ◌==◌, if◌then◌else◌}
use Rattle.std.proofs.lemmas.Bool.{and_parts}
use Rattle.std.proofs.lemmas.Option.{same_Some, cond_some}
use Rattle.term_core_spec.specs.declared.Width.{Width}
use Rattle.term_core_spec.specs.declared.Width.TheVariants.{W8, W16, W32, W64}
use Rattle.term_core_spec.specs.declared.Sort.{Sort}
use Rattle.term_core_spec.specs.declared.Sort.TheVariants as sort
use Rattle.term_core_spec.specs.declared.UnaryOperator.TheVariants as unary
use Rattle.term_core_spec.specs.declared.WordOperator.{WordOperator}
use Rattle.term_core_spec.specs.declared.WordOperator.TheVariants as word
use Rattle.term_core_spec.specs.declared.BinaryOperator.TheVariants as binary
use Rattle.term_core_spec.specs.declared.QuaternaryOperator.TheVariants as quaternary
use Rattle.term_core_spec.specs.Term.{Term, Unary, Binary, Quaternary, Octonary, on_words, zero_extend, sign_extend, low, byte}
use Rattle.term_core_spec.specs.Sort.{bits, bits_of, same_width, sort_of, sort_of_unary, sort_of_binary, sort_of_quaternary, is_word, is_byte, all_bytes}
use Rattle.term_core_spec.specs.Value.{Number, Assignment, IsAssignment, IsOfSort, operation, low_bits, ones_if, is_negative, value, unary_value, binary_value, quaternary_value, joined, byte_of, number_of_bytes, word_or_stray}
use Rattle.term_core_spec.specs.Same.{same_term}
use Rattle.term_core_spec.proofs.Sorts.{sort_if-some, with_one-some, with_two-some, with_four-some, same_sort-true, same_width-true, word_width}
use Rattle.term_core_spec.proofs.Same.{same_itself}
use Rattle.memory_spec.specs.Runs.{Run}
use Rattle.term_norm_spec.specs.Patterns.{are_constants, is_zero, known, constant_of, under_extension, part, under_first_byte, are_bytes_of, whole, width_of}
use Rattle.term_norm_spec.specs.Normal.{normal_shift, normal_extend, extended, normal_low, normal_byte, normal_join}
use Rattle.term_norm_spec.proofs.Numbers.{mod-small}
use Rattle.term_norm_spec.proofs.Bytes.{AllBytes, number_of_all, number_of_known, all_known, picked, pieces, value-byte}
use Rattle.term_norm_spec.proofs.Words.{sort-words, word_of, number_is, words_keep}
use Rattle.term_norm_spec.proofs.Keeps.{Keeps, keeps_itself, keeps_if, keeps_option, keeps_value_of_one, keeps_value_of_two, constant-sort, constant-value, zero_is, width_is}

-- ---- a shift by 0

no_ones : (test : Bool) (n : ℕ) → ones_if test n n ≡ 0
no_ones true n = omega arith
no_ones false n = refl

pub shift_left_by_0 : (w : Width) (a : ℕ) → a < 2 ^ bits w → operation word.ShiftLeft (bits w) a 0 ≡ a
unfolding operation
shift_left_by_0 W8 a below = omega arith
shift_left_by_0 W16 a below = omega arith
shift_left_by_0 W32 a below = omega arith
shift_left_by_0 W64 a below = omega arith

pub shift_right_by_0 : (w : Width) (a : ℕ) → a < 2 ^ bits w → operation word.ShiftRight (bits w) a 0 ≡ a
unfolding operation
shift_right_by_0 W8 a below = omega arith
shift_right_by_0 W16 a below = omega arith
shift_right_by_0 W32 a below = omega arith
shift_right_by_0 W64 a below = omega arith

pub shift_right_signed_by_0 : (w : Width) (a : ℕ) → a < 2 ^ bits w → operation word.ShiftRightSigned (bits w) a 0 ≡ a
unfolding operation
shift_right_signed_by_0 W8 a below = let none = no_ones (is_negative 8 a) 8 in omega arith
shift_right_signed_by_0 W16 a below = let none = no_ones (is_negative 16 a) 16 in omega arith
shift_right_signed_by_0 W32 a below = let none = no_ones (is_negative 32 a) 32 in omega arith
shift_right_signed_by_0 W64 a below = let none = no_ones (is_negative 64 a) 64 in omega arith

-- ---- extensions and cuts

-- a word that is extended or cut
pub record Resized (x : Term) (to : Width) (s : Sort) : Type 0 where
  pub from : Width
  pub sorted : sort_of x ≡ Some (sort.Word from)
  pub gives : s ≡ sort.Word to

resized : (test : Sort → Bool) (x : Term) (to : Width) (s p : Sort) → sort_of x ≡ Some p → cond (is_word p && test p) (Some (sort.Word to)) None ≡ Some s → (r : Resized x to s) × (test (sort.Word r.from) ≡ true)
resized test x to s p hx e =
    let tests = sort_if-some (is_word p && test p) (sort.Word to) s e in
    let both = and_parts (is_word p) (test p) tests.0 in
    let width = word_width p both.0 in
    (record { from = width.0; sorted = hx ∙ ap Some width.1; gives = sym tests.1 }, subst (λ q. test q ≡ true) width.1 both.1)

pub zero_extend_of : (to : Width) (x : Term) (s : Sort) → sort_of (zero_extend to x) ≡ Some s → (r : Resized x to s) × (nat_le (bits r.from) (bits to) ≡ true)
unfolding sort_of sort_of_unary
zero_extend_of to x s h =
    let parts = with_one-some (sort_of_unary (unary.ZeroExtend to)) (sort_of x) s h in
    resized (λ p. nat_le (bits_of p) (bits to)) x to s parts.0 parts.1 parts.2

pub sign_extend_of : (to : Width) (x : Term) (s : Sort) → sort_of (sign_extend to x) ≡ Some s → (r : Resized x to s) × (nat_le (bits r.from) (bits to) ≡ true)
unfolding sort_of sort_of_unary
sign_extend_of to x s h =
    let parts = with_one-some (sort_of_unary (unary.SignExtend to)) (sort_of x) s h in
    resized (λ p. nat_le (bits_of p) (bits to)) x to s parts.0 parts.1 parts.2

pub low_of : (to : Width) (x : Term) (s : Sort) → sort_of (low to x) ≡ Some s → (r : Resized x to s) × (nat_le (bits to) (bits r.from) ≡ true)
unfolding sort_of sort_of_unary
low_of to x s h =
    let parts = with_one-some (sort_of_unary (unary.Low to)) (sort_of x) s h in
    resized (λ p. nat_le (bits to) (bits_of p)) x to s parts.0 parts.1 parts.2

-- the word of a byte
pub byte_parts : (place : ℕ) (x : Term) (s : Sort) → sort_of (byte place x) ≡ Some s → (w : Width) × (sort_of x ≡ Some (sort.Word w)) × (s ≡ sort.Word W8)
unfolding sort_of sort_of_unary
byte_parts place x s h =
    let parts = with_one-some (sort_of_unary (unary.Byte place)) (sort_of x) s h in
    let tests = sort_if-some _ (sort.Word W8) s parts.2 in
    let both = and_parts (is_word parts.0) _ tests.0 in
    let width = word_width parts.0 both.0 in
    (width.0, parts.1 ∙ ap Some width.1, sym tests.1)

value-zero_extend : (assignment : Assignment) (to w : Width) (x : Term) (a : ℕ) → value assignment x ≡ Number w a → value assignment (zero_extend to x) ≡ Number to a
unfolding value unary_value
value-zero_extend assignment to w x a e = rw e refl

value-sign_extend : (assignment : Assignment) (to w : Width) (x : Term) (a : ℕ) → value assignment x ≡ Number w a
    → value assignment (sign_extend to x) ≡ Number to (low_bits (bits to) (a + ones_if (is_negative (bits w) a) (bits w) (bits to)))
unfolding value unary_value
value-sign_extend assignment to w x a e = rw e refl

value-low : (assignment : Assignment) (to w : Width) (x : Term) (a : ℕ) → value assignment x ≡ Number w a → value assignment (low to x) ≡ Number to (low_bits (bits to) a)
unfolding value unary_value
value-low assignment to w x a e = rw e refl

-- a word cut back from a sign extension
cut_back : (test : Bool) (u v : Width) (a : ℕ) → nat_le (bits u) (bits v) ≡ true → a < 2 ^ bits u → low_bits (bits u) (low_bits (bits v) (a + ones_if test (bits u) (bits v))) ≡ a
cut_back true W8 W8 a e below = omega arith
cut_back false W8 W8 a e below = omega arith
cut_back true W8 W16 a e below = omega arith
cut_back false W8 W16 a e below = omega arith
cut_back true W8 W32 a e below = omega arith
cut_back false W8 W32 a e below = omega arith
cut_back true W8 W64 a e below = omega arith
cut_back false W8 W64 a e below = omega arith
cut_back true W16 W16 a e below = omega arith
cut_back false W16 W16 a e below = omega arith
cut_back true W16 W32 a e below = omega arith
cut_back false W16 W32 a e below = omega arith
cut_back true W16 W64 a e below = omega arith
cut_back false W16 W64 a e below = omega arith
cut_back true W32 W32 a e below = omega arith
cut_back false W32 W32 a e below = omega arith
cut_back true W32 W64 a e below = omega arith
cut_back false W32 W64 a e below = omega arith
cut_back true W64 W64 a e below = omega arith
cut_back false W64 W64 a e below = omega arith
cut_back test u v a e below = absurd (cc)

module _ (runs : List Run) where
  pub keeps_shift : (operator : WordOperator) (w : Width) (x y : Term) → sort_of x ≡ Some (sort.Word w) → sort_of y ≡ Some (sort.Word w)
      → ((a : ℕ) → a < 2 ^ bits w → operation operator (bits w) a 0 ≡ a) → Keeps runs (sort.Word w) (on_words operator x y) (normal_shift operator x y)
  unfolding normal_shift
  keeps_shift operator w x y hx hy by_0 =
      keeps_value_of_two runs (binary.Word operator) x y (sort.Word w) _ refl (sort-words operator w x y hx hy)
      (keeps_if runs (sort.Word w) _ _ _ (is_zero y)
      (λ e. words_keep runs operator w x y x hx hy hx
      (λ v a b h ea eb la lb. ea ∙ ap (Number w) (sym (by_0 a la) ∙ ap (operation operator (bits w) a) (sym (number_is v w y b 0 (zero_is w y hy e) eb)))))
      (λ n1. keeps_itself runs (sort.Word w) (on_words operator x y) (sort-words operator w x y hx hy)))

  -- the own width
  own_width : (x : Term) (w to : Width) → sort_of x ≡ Some (sort.Word w) → same_width (width_of x) to ≡ true → sort_of x ≡ Some (sort.Word to)
  own_width x w to hx e = hx ∙ ap (λ u. Some (sort.Word u)) (sym (width_is x w hx) ∙ same_width-true (width_of x) to e)

  pub keeps_zero_extend : (to : Width) (x : Term) → sort_of (zero_extend to x) ≡ Some (sort.Word to) → Keeps runs (sort.Word to) (zero_extend to x) (normal_extend (unary.ZeroExtend to) to x)
  unfolding normal_extend
  keeps_zero_extend to x h =
      let r = zero_extend_of to x (sort.Word to) h in
      keeps_value_of_one runs (unary.ZeroExtend to) x (sort.Word to) _ refl h
      (keeps_if runs (sort.Word to) _ _ _ (same_width (width_of x) to)
      (λ e.
      let hx = own_width x r.0.from to r.0.sorted e in
      record { sorted = hx; value_is = λ assignment g fixed. let vx = word_of assignment g to x hx in vx.1 ∙ sym (value-zero_extend assignment to to x vx.0 vx.1) })
      (λ n1. keeps_itself runs (sort.Word to) (zero_extend to x) h))

  pub keeps_sign_extend : (to : Width) (x : Term) → sort_of (sign_extend to x) ≡ Some (sort.Word to) → Keeps runs (sort.Word to) (sign_extend to x) (normal_extend (unary.SignExtend to) to x)
  unfolding normal_extend
  keeps_sign_extend to x h =
      let r = sign_extend_of to x (sort.Word to) h in
      keeps_value_of_one runs (unary.SignExtend to) x (sort.Word to) _ refl h
      (keeps_if runs (sort.Word to) _ _ _ (same_width (width_of x) to)
      (λ e.
      let hx = own_width x r.0.from to r.0.sorted e in
      record {
        sorted = hx;
        value_is = λ assignment g fixed.
            let vx = word_of assignment g to x hx in
            vx.1 ∙ ap (Number to) (sym (mod-small vx.0 (2 ^ bits to) vx.2) ∙ ap (λ n. n % 2 ^ bits to) (unchanged vx.0 (is_negative (bits to) vx.0))) ∙ sym (value-sign_extend assignment to to x vx.0 vx.1);
      })
      (λ n1. keeps_itself runs (sort.Word to) (sign_extend to x) h))
    where
      unchanged : (a : ℕ) (test : Bool) → a ≡ a + ones_if test (bits to) (bits to)
      unchanged a test = omega (arith, no_ones test (bits to))

  pub keeps_low : (to : Width) (x : Term) → sort_of (low to x) ≡ Some (sort.Word to) → Keeps runs (sort.Word to) (low to x) (normal_low to x)
  unfolding normal_low under_extension
  keeps_low to x h =
      let r = low_of to x (sort.Word to) h in
      keeps_value_of_one runs (unary.Low to) x (sort.Word to) _ refl h
      (keeps_if runs (sort.Word to) _ _ _ (same_width (width_of x) to)
      (λ e.
      let hx = own_width x r.0.from to r.0.sorted e in
      record { sorted = hx; value_is = λ assignment g fixed. let vx = word_of assignment g to x hx in vx.1 ∙ ap (Number to) (sym (mod-small vx.0 (2 ^ bits to) vx.2)) ∙ sym (value-low assignment to to x vx.0 vx.1) })
      (λ n1. back x h))
    where
      back : (x : Term) → sort_of (low to x) ≡ Some (sort.Word to) → Keeps runs (sort.Word to) (low to x) (unwrap_or (extended to (under_extension x)) (low to x))
      back (Unary (unary.ZeroExtend v) y) g =
          let r = low_of to (zero_extend v y) (sort.Word to) g in
          let q = zero_extend_of v y (sort.Word r.0.from) r.0.sorted in
          keeps_option runs (sort.Word to) (low to (zero_extend v y)) y (low to (zero_extend v y)) (same_width (width_of y) to)
          (λ e.
          let hy = own_width y q.0.from to q.0.sorted e in
          record {
            sorted = hy;
            value_is = λ assignment k fixed.
                let vy = word_of assignment k to y hy in
                vy.1 ∙ ap (Number to) (sym (mod-small vy.0 (2 ^ bits to) vy.2)) ∙ sym (value-low assignment to v (zero_extend v y) vy.0 (value-zero_extend assignment v to y vy.0 vy.1));
          })
          (keeps_itself runs (sort.Word to) (low to (zero_extend v y)) g)
      back (Unary (unary.SignExtend v) y) g =
          let r = low_of to (sign_extend v y) (sort.Word to) g in
          let q = sign_extend_of v y (sort.Word r.0.from) r.0.sorted in
          keeps_option runs (sort.Word to) (low to (sign_extend v y)) y (low to (sign_extend v y)) (same_width (width_of y) to)
          (λ e.
          let hy = own_width y q.0.from to q.0.sorted e in
          let from_is : q.0.from ≡ to = sym (width_is y q.0.from q.0.sorted) ∙ same_width-true (width_of y) to e in
          let wider : nat_le (bits to) (bits v) ≡ true = subst (λ u. nat_le (bits u) (bits v) ≡ true) from_is q.1 in
          record {
            sorted = hy;
            value_is = λ assignment k fixed.
                let vy = word_of assignment k to y hy in
                vy.1 ∙ ap (Number to) (sym (cut_back (is_negative (bits to) vy.0) to v vy.0 wider vy.2)) ∙ sym (value-low assignment to v (sign_extend v y) _ (value-sign_extend assignment v to y vy.0 vy.1));
          })
          (keeps_itself runs (sort.Word to) (low to (sign_extend v y)) g)
      back x g = keeps_itself runs (sort.Word to) (low to x) g

  -- ---- bytes

  -- the word of these bytes
  pub record IsJoin (w : Width) (parts : List Term) (t : Term) : Type 0 where
    pub sorted : sort_of t ≡ Some (sort.Word w)
    pub bytes : AllBytes parts
    pub full : bits w ≡ 8 * length parts
    pub value_is : (assignment : Assignment) → value assignment t ≡ joined w (map (value assignment) parts)

  number_of_join : (w : Width) (parts : List Term) (t : Term) → IsJoin w parts t → (assignment : Assignment) → IsAssignment assignment
      → (n : ℕ) × (number_of_bytes (map byte_of (map (value assignment) parts)) ≡ Some n) × (value assignment t ≡ Number w n) × (n < 2 ^ bits w)
  number_of_join w parts t join assignment h =
      let number = number_of_all assignment h parts join.bytes in
      (number.0, number.1, join.value_is assignment ∙ rw number.1 refl, subst (λ k. number.0 < 2 ^ k) (sym join.full) number.2)

  -- the first of these is byte 0 of x
  first_is : (t x : Term) → under_first_byte t ≡ Some x → t ≡ byte 0 x
  unfolding under_first_byte
  first_is (Unary (unary.Byte place) y) x e =
      let both = cond_some (place == 0) y x e in
      let place_is : place ≡ 0 = eqb-true place 0 both.0 in
      let one : y ≡ x = both.1 in
      cc
  first_is t x e = absurd (cc)

  whole_keeps : (w : Width) (parts : List Term) (t : Term) → IsJoin w parts t → Keeps runs (sort.Word w) t (unwrap_or (whole w parts) t)
  unfolding are_bytes_of
  whole_keeps w [] t join = keeps_itself runs (sort.Word w) t join.sorted
  whole_keeps w (first ∷ rest) t join = by_first (under_first_byte first) refl
    where
      whole_number : (a : ℕ) → a < 2 ^ bits w → a ≡ a / 2 ^ (8 * 0) % 2 ^ (8 * length (first ∷ rest))
      whole_number a below =
          let not_moved : a ≡ a / 2 ^ (8 * 0) = omega arith in
          sym (mod-small a (2 ^ bits w) below) ∙ ap (λ k. a % 2 ^ k) join.full ∙ ap (λ n. n % 2 ^ (8 * length (first ∷ rest))) not_moved

      nested_option : {x : Term} → (p q : Bool) → (p ≡ true → q ≡ true → Keeps runs (sort.Word w) t x) → Keeps runs (sort.Word w) t (unwrap_or (cond p (cond q (Some x) None) None) t)
      nested_option true true f = f refl refl
      nested_option true false f = keeps_itself runs (sort.Word w) t join.sorted
      nested_option false q f = keeps_itself runs (sort.Word w) t join.sorted

      choice : (x : Term) → Option Term
      choice x = if same_width (width_of x) w then (if are_bytes_of x 1 rest then Some x else None) else None

      at_x : (x : Term) → first ≡ byte 0 x → same_width (width_of x) w ≡ true → are_bytes_of x 1 rest ≡ true → Keeps runs (sort.Word w) t x
      at_x x is same more =
          let from = byte_parts 0 x (sort.Word W8) (ap sort_of (sym is) ∙ join.bytes.0) in
          let hx = own_width x from.0 w from.1 same in
          record {
            sorted = hx;
            value_is = λ assignment h fixed.
                let vx = word_of assignment h w x hx in
                let first_same : same_term first (byte 0 x) ≡ true = subst (λ u. same_term u (byte 0 x) ≡ true) (sym is) (same_itself (byte 0 x)) in
                let all : are_bytes_of x 0 (first ∷ rest) ≡ true = rw first_same more in
                let number = pieces assignment x w vx.0 vx.1 0 (first ∷ rest) all in
                vx.1 ∙ ap (Number w) (whole_number vx.0 vx.2) ∙ ap (word_or_stray w) (sym number) ∙ sym (join.value_is assignment);
          }

      nested : (x : Term) → first ≡ byte 0 x → Keeps runs (sort.Word w) t (unwrap_or (choice x) t)
      nested x is = nested_option (same_width (width_of x) w) (are_bytes_of x 1 rest) (at_x x is)

      by_first : (o : Option Term) → under_first_byte first ≡ o → Keeps runs (sort.Word w) t (unwrap_or (option_and_then choice o) t)
      by_first (Some x) e = nested x (first_is first x e)
      by_first None e = keeps_itself runs (sort.Word w) t join.sorted

  pub keeps_join : (w : Width) (parts : List Term) (t : Term) → IsJoin w parts t → Keeps runs (sort.Word w) t (normal_join w parts t)
  unfolding normal_join
  keeps_join w parts t join =
      keeps_if runs (sort.Word w) _ _ _ (are_constants parts)
      (λ e.
      let number = number_of_known parts join.bytes e in
      let fits : IsOfSort (sort.Word w) (Number w number.0) = (refl, subst (λ k. number.0 < 2 ^ k) (sym join.full) number.2) in
      let is : joined w (map known parts) ≡ Number w number.0 = rw number.1 refl in
      record {
        sorted = ap (λ v. sort_of (constant_of v)) is ∙ constant-sort (sort.Word w) (Number w number.0) refl fits;
        value_is = λ assignment h fixed. ap (λ v. value assignment (constant_of v)) is ∙ constant-value assignment (sort.Word w) (Number w number.0) refl fits
            ∙ sym is ∙ ap (joined w) (sym (all_known assignment parts e)) ∙ sym (join.value_is assignment);
      })
      (λ n1. whole_keeps w parts t join)

  part_is : (parts : List Term) → AllBytes parts → (place : ℕ) (p : Term) → slice_get parts place ≡ Some p → sort_of p ≡ Some (sort.Word W8)
  part_is [] all place p e = absurd (cc)
  part_is (t ∷ rest) all zero p e = ap sort_of (sym (same_Some t p e)) ∙ all.0
  part_is (t ∷ rest) all (suc place) p e = part_is rest all.1 place p e

  keeps_part : (place : ℕ) (w : Width) (parts : List Term) (t : Term) → IsJoin w parts t → sort_of (byte place t) ≡ Some (sort.Word W8) → (o : Option Term) → slice_get parts place ≡ o
      → Keeps runs (sort.Word W8) (byte place t) (unwrap_or o (byte place t))
  keeps_part place w parts t join h None e = keeps_itself runs (sort.Word W8) (byte place t) h
  keeps_part place w parts t join h (Some p) e =
      record {
        sorted = part_is parts join.bytes place p e;
        value_is = λ assignment g fixed.
            let vt = number_of_join w parts t join assignment g in
            picked assignment g parts join.bytes place p e vt.0 vt.1 ∙ sym (value-byte assignment place w t vt.0 vt.2);
      }

  -- ---- joins

  pub join_two_is : (a b : Term) (s : Sort) → sort_of (Binary binary.Join a b) ≡ Some s → (s ≡ sort.Word W16) × IsJoin W16 (a ∷ b ∷ []) (Binary binary.Join a b)
  unfolding sort_of sort_of_binary value binary_value
  join_two_is a b s h =
      let parts = with_two-some (sort_of_binary binary.Join) (sort_of a) (sort_of b) s h in
      let tests = sort_if-some _ (sort.Word W16) s parts.4 in
      let both = and_parts (is_byte parts.0) (is_byte parts.1) tests.0 in
      let ha = parts.2 ∙ ap Some (same_sort-true parts.0 (sort.Word W8) both.0) in
      let hb = parts.3 ∙ ap Some (same_sort-true parts.1 (sort.Word W8) both.1) in
      (sym tests.1, record { sorted = h ∙ ap Some (sym tests.1); bytes = (ha, (hb, tt)); full = refl; value_is = λ assignment. refl })

  pub join_four_is : (a b c d : Term) (s : Sort) → sort_of (Quaternary quaternary.Join a b c d) ≡ Some s → (s ≡ sort.Word W32) × IsJoin W32 (a ∷ b ∷ c ∷ d ∷ []) (Quaternary quaternary.Join a b c d)
  unfolding sort_of sort_of_quaternary value quaternary_value
  join_four_is a b c d s h =
      let parts = with_four-some (sort_of_quaternary quaternary.Join) (sort_of a) (sort_of b) (sort_of c) (sort_of d) s h in
      let tests = sort_if-some _ (sort.Word W32) s parts.8 in
      let r1 = and_parts (is_byte parts.0) _ tests.0 in
      let r2 = and_parts (is_byte parts.1) _ r1.1 in
      let r3 = and_parts (is_byte parts.2) (is_byte parts.3) r2.1 in
      let ha = parts.4 ∙ ap Some (same_sort-true parts.0 (sort.Word W8) r1.0) in
      let hb = parts.5 ∙ ap Some (same_sort-true parts.1 (sort.Word W8) r2.0) in
      let hc = parts.6 ∙ ap Some (same_sort-true parts.2 (sort.Word W8) r3.0) in
      let hd = parts.7 ∙ ap Some (same_sort-true parts.3 (sort.Word W8) r3.1) in
      (sym tests.1, record { sorted = h ∙ ap Some (sym tests.1); bytes = (ha, (hb, (hc, (hd, tt)))); full = refl; value_is = λ assignment. refl })

  bytes_of_list : (parts : List Term) → all_bytes (map sort_of parts) ≡ true → AllBytes parts
  bytes_of_list [] e = tt
  bytes_of_list (t ∷ rest) e = more t rest (sort_of t) refl e (bytes_of_list rest)
    where
      more : (t : Term) (rest : List Term) (o : Option Sort) → sort_of t ≡ o → all_bytes (o ∷ map sort_of rest) ≡ true → (all_bytes (map sort_of rest) ≡ true → AllBytes rest) → AllBytes (t ∷ rest)
      more t rest (Some s) is e again =
          let both = and_parts (is_byte s) (all_bytes (map sort_of rest)) e in
          (is ∙ ap Some (same_sort-true s (sort.Word W8) both.0), again both.1)
      more t rest None is e again = absurd (cc)

  pub join_eight_is : (a b c d i j k l : Term) (s : Sort) → sort_of (Octonary a b c d i j k l) ≡ Some s
      → (s ≡ sort.Word W64) × IsJoin W64 (a ∷ b ∷ c ∷ d ∷ i ∷ j ∷ k ∷ l ∷ []) (Octonary a b c d i j k l)
  unfolding sort_of value
  join_eight_is a b c d i j k l s h =
      let tests = sort_if-some (all_bytes (map sort_of (a ∷ b ∷ c ∷ d ∷ i ∷ j ∷ k ∷ l ∷ []))) (sort.Word W64) s h in
      (sym tests.1, record { sorted = h ∙ ap Some (sym tests.1); bytes = bytes_of_list (a ∷ b ∷ c ∷ d ∷ i ∷ j ∷ k ∷ l ∷ []) tests.0; full = refl; value_is = λ assignment. refl })

  -- ---- bytes of words

  pub keeps_byte : (place : ℕ) (x : Term) → sort_of (byte place x) ≡ Some (sort.Word W8) → Keeps runs (sort.Word W8) (byte place x) (normal_byte place x)
  unfolding normal_byte part
  keeps_byte place x h = keeps_value_of_one runs (unary.Byte place) x (sort.Word W8) _ refl h (inner x h)
    where
      inner : (x : Term) → sort_of (byte place x) ≡ Some (sort.Word W8) → Keeps runs (sort.Word W8) (byte place x) (unwrap_or (part place x) (byte place x))
      inner (Binary binary.Join a b) h =
          let from = byte_parts place (Binary binary.Join a b) (sort.Word W8) h in
          keeps_part place W16 (a ∷ b ∷ []) (Binary binary.Join a b) (join_two_is a b (sort.Word from.0) from.1).1 h (slice_get (a ∷ b ∷ []) place) refl
      inner (Quaternary quaternary.Join a b c d) h =
          let from = byte_parts place (Quaternary quaternary.Join a b c d) (sort.Word W8) h in
          keeps_part place W32 (a ∷ b ∷ c ∷ d ∷ []) (Quaternary quaternary.Join a b c d) (join_four_is a b c d (sort.Word from.0) from.1).1 h (slice_get (a ∷ b ∷ c ∷ d ∷ []) place) refl
      inner (Octonary a b c d i j k l) h =
          let from = byte_parts place (Octonary a b c d i j k l) (sort.Word W8) h in
          keeps_part place W64 (a ∷ b ∷ c ∷ d ∷ i ∷ j ∷ k ∷ l ∷ []) (Octonary a b c d i j k l) (join_eight_is a b c d i j k l (sort.Word from.0) from.1).1 h (slice_get (a ∷ b ∷ c ∷ d ∷ i ∷ j ∷ k ∷ l ∷ []) place) refl
      inner x h = keeps_itself runs (sort.Word W8) (byte place x) h
