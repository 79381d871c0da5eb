-- Terms whose variables pass a test.
use Rattle.std.proofs.Common.{◌≡◌, ◌∙◌, ℕ, Bool, true, false, if◌then◌else◌, List, [], ◌∷◌, map, All, ap, inl, inr}
use Rattle.std.proofs.lemmas.List.Elements.{All-nil, All-cons, All-head, All-tail}
use Rattle.term_core_spec.specs.declared.Width.{Width}
use Rattle.term_core_spec.specs.declared.Width.TheVariants.{W32, W64}
use Rattle.term_core_spec.specs.declared.Variable.{Variable}
use Rattle.term_core_spec.specs.declared.UnaryOperator.{UnaryOperator}
use Rattle.term_core_spec.specs.declared.BinaryOperator.{BinaryOperator}
use Rattle.term_core_spec.specs.declared.TernaryOperator.{TernaryOperator}
use Rattle.term_core_spec.specs.declared.QuaternaryOperator.{QuaternaryOperator}
use Rattle.term_core_spec.specs.Term.{Term, Unary, Binary, Ternary, Quaternary, Occurs, truth, constant, open_term, not_term, and_term, equal, bit_xor, divide, remainder, multiply, zero_extend, sign_extend, byte, load, store}
use Rattle.term_core_spec.specs.Shapes.{sign_bit, signed_less, is_positive, negated, magnitude, signed_quotient, signed_remainder, high_half, high_product, high_product_signed, high_product_signed_unsigned, past, load_half, load_word, store_byte, store_half, store_word}

module _ (own : Variable → Bool) where
  abbrev pub Own : Term → Type 0
  Own t = (v : Variable) → Occurs v t → own v ≡ true

  pub const_own : (w : Width) (n : ℕ) → Own (constant w n)
  unfolding Occurs
  const_own w n v o = absurd o

  pub truth_own : (b : Bool) → Own (truth b)
  unfolding Occurs
  truth_own b v o = absurd o

  pub open_own : (w : Variable) → own w ≡ true → Own (open_term w)
  unfolding Occurs
  open_own w h v o = ap own o ∙ h

  pub one_own : (op : UnaryOperator) (x : Term) → Own x → Own (Unary op x)
  unfolding Occurs
  one_own op x h v o = h v o

  pub two_own : (op : BinaryOperator) (x y : Term) → Own x → Own y → Own (Binary op x y)
  unfolding Occurs
  two_own op x y h k v (inl o) = h v o
  two_own op x y h k v (inr o) = k v o

  pub three_own : (op : TernaryOperator) (x y z : Term) → Own x → Own y → Own z → Own (Ternary op x y z)
  unfolding Occurs
  three_own op x y z h k l v (inl o) = h v o
  three_own op x y z h k l v (inr (inl o)) = k v o
  three_own op x y z h k l v (inr (inr o)) = l v o

  pub four_own : (op : QuaternaryOperator) (x y z w : Term) → Own x → Own y → Own z → Own w → Own (Quaternary op x y z w)
  unfolding Occurs
  four_own op x y z w h k l m v (inl o) = h v o
  four_own op x y z w h k l m v (inr (inl o)) = k v o
  four_own op x y z w h k l m v (inr (inr (inl o))) = l v o
  four_own op x y z w h k l m v (inr (inr (inr o))) = m v o

  pub either_own : (b : Bool) (x y : Term) → Own x → Own y → Own (if b then x else y)
  either_own true x y h k = h
  either_own false x y h k = k

  pub all_map : (f : Term → Term) → ((t : Term) → Own t → Own (f t)) → (list : List Term) → All Own list → All Own (map f list)
  all_map f each [] all = All-nil Own
  all_map f each (t ∷ list) all = All-cons Own (f t) (map f list) (each t (All-head Own t list all)) (all_map f each list (All-tail Own t list all))

  pub one_test : (t : Term) → Own t → All Own (t ∷ [])
  one_test t h = All-cons Own t [] h (All-nil Own)

  -- ---- shapes

  pub signed_less_own : (w : Width) (x y : Term) → Own x → Own y → Own (signed_less w x y)
  signed_less_own w x y h k =
      two_own _ (bit_xor x (sign_bit w)) (bit_xor y (sign_bit w)) (two_own _ x (sign_bit w) h (const_own w _)) (two_own _ y (sign_bit w) k (const_own w _))

  positive_own : (x : Term) → Own x → Own (is_positive x)
  positive_own x h = two_own _ x (sign_bit W32) h (const_own W32 _)

  negated_own : (x : Term) → Own x → Own (negated x)
  negated_own x h = two_own _ (constant W32 0) x (const_own W32 0) h

  magnitude_own : (x : Term) → Own x → Own (magnitude x)
  magnitude_own x h = three_own _ (is_positive x) x (negated x) (positive_own x h) h (negated_own x h)

  pub quotient_own : (x y : Term) → Own x → Own y → Own (signed_quotient x y)
  quotient_own x y h k =
      three_own _ (and_term (not_term (equal (is_positive x) (is_positive y))) (not_term (equal y (constant W32 0)))) (negated (divide (magnitude x) (magnitude y))) (divide (magnitude x) (magnitude y))
      (two_own _ (not_term (equal (is_positive x) (is_positive y))) (not_term (equal y (constant W32 0)))
      (one_own _ (equal (is_positive x) (is_positive y)) (two_own _ (is_positive x) (is_positive y) (positive_own x h) (positive_own y k)))
      (one_own _ (equal y (constant W32 0)) (two_own _ y (constant W32 0) k (const_own W32 0))))
      (negated_own (divide (magnitude x) (magnitude y)) (two_own _ (magnitude x) (magnitude y) (magnitude_own x h) (magnitude_own y k)))
      (two_own _ (magnitude x) (magnitude y) (magnitude_own x h) (magnitude_own y k))

  pub remainder_own : (x y : Term) → Own x → Own y → Own (signed_remainder x y)
  remainder_own x y h k =
      three_own _ (is_positive x) (remainder (magnitude x) (magnitude y)) (negated (remainder (magnitude x) (magnitude y))) (positive_own x h)
      (two_own _ (magnitude x) (magnitude y) (magnitude_own x h) (magnitude_own y k))
      (negated_own (remainder (magnitude x) (magnitude y)) (two_own _ (magnitude x) (magnitude y) (magnitude_own x h) (magnitude_own y k)))

  high_own : (x : Term) → Own x → Own (high_half x)
  high_own x h = four_own _ (byte 4 x) (byte 5 x) (byte 6 x) (byte 7 x) (one_own _ x h) (one_own _ x h) (one_own _ x h) (one_own _ x h)

  pub product_own : (x y : Term) → Own x → Own y → Own (high_product x y)
  product_own x y h k = high_own (multiply (zero_extend W64 x) (zero_extend W64 y)) (two_own _ (zero_extend W64 x) (zero_extend W64 y) (one_own _ x h) (one_own _ y k))

  pub product_signed_own : (x y : Term) → Own x → Own y → Own (high_product_signed x y)
  product_signed_own x y h k = high_own (multiply (sign_extend W64 x) (sign_extend W64 y)) (two_own _ (sign_extend W64 x) (sign_extend W64 y) (one_own _ x h) (one_own _ y k))

  pub product_mixed_own : (x y : Term) → Own x → Own y → Own (high_product_signed_unsigned x y)
  product_mixed_own x y h k = high_own (multiply (sign_extend W64 x) (zero_extend W64 y)) (two_own _ (sign_extend W64 x) (zero_extend W64 y) (one_own _ x h) (one_own _ y k))

  pub past_own : (x : Term) (n : ℕ) → Own x → Own (past x n)
  past_own x n h = two_own _ x (constant W32 n) h (const_own W32 n)

  pub load_own : (m a : Term) → Own m → Own a → Own (load m a)
  load_own m a h k = two_own _ m a h k

  pub load_half_own : (m a : Term) → Own m → Own a → Own (load_half m a)
  load_half_own m a h k = two_own _ (load m a) (load m (past a 1)) (load_own m a h k) (load_own m (past a 1) h (past_own a 1 k))

  pub load_word_own : (m a : Term) → Own m → Own a → Own (load_word m a)
  load_word_own m a h k =
      four_own _ (load m a) (load m (past a 1)) (load m (past a 2)) (load m (past a 3)) (load_own m a h k) (load_own m (past a 1) h (past_own a 1 k))
      (load_own m (past a 2) h (past_own a 2 k)) (load_own m (past a 3) h (past_own a 3 k))

  pub store_byte_own : (m a x : Term) → Own m → Own a → Own x → Own (store_byte m a x)
  store_byte_own m a x h k l = three_own _ m a (byte 0 x) h k (one_own _ x l)

  pub store_half_own : (m a x : Term) → Own m → Own a → Own x → Own (store_half m a x)
  store_half_own m a x h k l = three_own _ (store_byte m a x) (past a 1) (byte 1 x) (store_byte_own m a x h k l) (past_own a 1 k) (one_own _ x l)

  pub store_word_own : (m a x : Term) → Own m → Own a → Own x → Own (store_word m a x)
  store_word_own m a x h k l =
      three_own _ (store (store_half m a x) (past a 2) (byte 2 x)) (past a 3) (byte 3 x)
      (three_own _ (store_half m a x) (past a 2) (byte 2 x) (store_half_own m a x h k l) (past_own a 2 k) (one_own _ x l)) (past_own a 3 k) (one_own _ x l)
