-- The normal form of a normal form is itself.
use Rattle.std.proofs.Common.{◌≡◌, List, [], ◌∷◌, refl}
use Rattle.term_core_spec.specs.declared.Width.TheVariants.{W16, W32, W64}
use Rattle.term_core_spec.specs.declared.UnaryOperator.{UnaryOperator}
use Rattle.term_core_spec.specs.declared.UnaryOperator.TheVariants as unary
use Rattle.term_core_spec.specs.declared.WordOperator.{WordOperator}
use Rattle.term_core_spec.specs.declared.WordOperator.TheVariants as word
use Rattle.term_core_spec.specs.declared.BinaryOperator.{BinaryOperator}
use Rattle.term_core_spec.specs.declared.BinaryOperator.TheVariants as binary
use Rattle.term_core_spec.specs.declared.TernaryOperator.{TernaryOperator}
use Rattle.term_core_spec.specs.declared.TernaryOperator.TheVariants as ternary
use Rattle.term_core_spec.specs.declared.QuaternaryOperator.{QuaternaryOperator}
use Rattle.term_core_spec.specs.declared.QuaternaryOperator.TheVariants as quaternary
use Rattle.term_core_spec.specs.Term.{Term, Leaf, Unary, Binary, Ternary, Quaternary, Octonary}
use Rattle.memory_spec.specs.Runs.{Run}
use Rattle.term_norm_spec.specs.Normal.{normal_unary, normal_word, normal_binary, normal_ternary, normal_quaternary, normal_octonary, normal}
use Rattle.term_norm_spec.proofs.Forms.{IsNormal, AreNormal, value_two, normal_is_itself}
use Rattle.term_norm_spec.proofs.Sums.{add_normal, subtract_normal, multiply_normal}
use Rattle.term_norm_spec.proofs.Rules.{not_normal, complement_normal, and_normal, or_normal, bit_and_normal, bit_or_normal, bit_xor_normal, equal_normal, less_normal, choose_normal, shift_normal, extend_normal, low_normal, byte_normal, join_normal, load_normal}

module _ (runs : List Run) where
  unary_normal : (operator : UnaryOperator) (x : Term) → IsNormal runs x → IsNormal runs (normal_unary operator x)
  unfolding normal_unary
  unary_normal unary.Not x n = not_normal runs x n
  unary_normal unary.Complement x n = complement_normal runs x n
  unary_normal (unary.ZeroExtend width) x n = extend_normal runs (unary.ZeroExtend width) width x n (λ e. e)
  unary_normal (unary.SignExtend width) x n = extend_normal runs (unary.SignExtend width) width x n (λ e. e)
  unary_normal (unary.Low width) x n = low_normal runs width x n
  unary_normal (unary.Byte place) x n = byte_normal runs place x n

  word_normal : (operator : WordOperator) (x y : Term) → IsNormal runs x → IsNormal runs y → IsNormal runs (normal_word operator x y)
  unfolding normal_word normal_binary IsNormal
  word_normal word.Add x y nx ny = add_normal runs x y nx ny
  word_normal word.Subtract x y nx ny = subtract_normal runs x y nx ny
  word_normal word.Multiply x y nx ny = multiply_normal runs x y nx ny
  word_normal word.And x y nx ny = bit_and_normal runs x y nx ny
  word_normal word.Or x y nx ny = bit_or_normal runs x y nx ny
  word_normal word.Xor x y nx ny = bit_xor_normal runs x y nx ny
  word_normal word.ShiftLeft x y nx ny = shift_normal runs word.ShiftLeft x y nx ny (λ e. e)
  word_normal word.ShiftRight x y nx ny = shift_normal runs word.ShiftRight x y nx ny (λ e. e)
  word_normal word.ShiftRightSigned x y nx ny = shift_normal runs word.ShiftRightSigned x y nx ny (λ e. e)
  word_normal word.Divide x y nx ny = value_two runs (normal_word word.Divide x y) (binary.Word word.Divide) x y _ (λ t e. (nx, ny, e)) refl
  word_normal word.Remainder x y nx ny = value_two runs (normal_word word.Remainder x y) (binary.Word word.Remainder) x y _ (λ t e. (nx, ny, e)) refl

  binary_normal : (operator : BinaryOperator) (x y : Term) → IsNormal runs x → IsNormal runs y → IsNormal runs (normal_binary runs operator x y)
  unfolding normal_binary IsNormal AreNormal
  binary_normal binary.And x y nx ny = and_normal runs x y nx ny
  binary_normal binary.Or x y nx ny = or_normal runs x y nx ny
  binary_normal binary.Equal x y nx ny = equal_normal runs x y nx ny
  binary_normal binary.Less x y nx ny = less_normal runs x y nx ny
  binary_normal (binary.Word operator) x y nx ny = word_normal operator x y nx ny
  binary_normal binary.Load x y nx ny = load_normal runs x y nx ny
  binary_normal binary.Join x y nx ny = join_normal runs W16 (x ∷ y ∷ []) (Binary binary.Join x y) (nx, (ny, tt)) (λ e. (nx, ny, e))

  ternary_normal : (operator : TernaryOperator) (x y z : Term) → IsNormal runs x → IsNormal runs y → IsNormal runs z → IsNormal runs (normal_ternary operator x y z)
  unfolding normal_ternary IsNormal
  ternary_normal ternary.Choose x y z nx ny nz = choose_normal runs x y z nx ny nz
  ternary_normal ternary.Store x y z nx ny nz = (nx, ny, nz, refl)

  quaternary_normal : (operator : QuaternaryOperator) (a b c d : Term) → IsNormal runs a → IsNormal runs b → IsNormal runs c → IsNormal runs d
      → IsNormal runs (normal_quaternary operator a b c d)
  unfolding normal_quaternary IsNormal AreNormal
  quaternary_normal quaternary.Over a b c d na nb nc nd = (na, nb, nc, nd, refl)
  quaternary_normal quaternary.Join a b c d na nb nc nd =
      join_normal runs W32 (a ∷ b ∷ c ∷ d ∷ []) (Quaternary quaternary.Join a b c d) (na, (nb, (nc, (nd, tt)))) (λ e. (na, nb, nc, nd, e))

  octonary_normal : (a b c d i j k l : Term) → IsNormal runs a → IsNormal runs b → IsNormal runs c → IsNormal runs d → IsNormal runs i → IsNormal runs j → IsNormal runs k → IsNormal runs l
      → IsNormal runs (normal_octonary a b c d i j k l)
  unfolding normal_octonary IsNormal AreNormal
  octonary_normal a b c d i j k l na nb nc nd ni nj nk nl =
      join_normal runs W64 (a ∷ b ∷ c ∷ d ∷ i ∷ j ∷ k ∷ l ∷ []) (Octonary a b c d i j k l) (na, (nb, (nc, (nd, (ni, (nj, (nk, (nl, tt)))))))) (λ e. (na, nb, nc, nd, ni, nj, nk, nl, e))

  pub is_normal : (t : Term) → IsNormal runs (normal runs t)
  unfolding normal IsNormal
  is_normal (Leaf leaf) = tt
  is_normal (Unary operator a) = unary_normal operator _ (is_normal a)
  is_normal (Binary operator a b) = binary_normal operator _ _ (is_normal a) (is_normal b)
  is_normal (Ternary operator a b c) = ternary_normal operator _ _ _ (is_normal a) (is_normal b) (is_normal c)
  is_normal (Quaternary operator a b c d) = quaternary_normal operator _ _ _ _ (is_normal a) (is_normal b) (is_normal c) (is_normal d)
  is_normal (Octonary a b c d i j k l) =
      octonary_normal _ _ _ _ _ _ _ _ (is_normal a) (is_normal b) (is_normal c) (is_normal d) (is_normal i) (is_normal j) (is_normal k) (is_normal l)

  pub normal_again : (t : Term) → normal runs (normal runs t) ≡ normal runs t
  normal_again t = normal_is_itself runs (normal runs t) (is_normal t)
