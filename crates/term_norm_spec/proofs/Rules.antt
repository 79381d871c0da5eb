-- The other rules leave no rule to use.
use Rattle.std.proofs.Common.{◌≡◌, ℕ, cond, List, [], ◌∷◌, Option, Some, None, refl}
use Rattle.std.specs.Prelude.{◌&&◌, ◌==◌, not, option_and_then}
use Rattle.term_core_spec.specs.declared.Width.{Width}
use Rattle.term_core_spec.specs.declared.UnaryOperator.{UnaryOperator}
use Rattle.term_core_spec.specs.declared.UnaryOperator.TheVariants as unary
use Rattle.term_core_spec.specs.declared.WordOperator.{WordOperator}
use Rattle.term_core_spec.specs.declared.WordOperator.TheVariants as word
use Rattle.term_core_spec.specs.declared.BinaryOperator.TheVariants as binary
use Rattle.term_core_spec.specs.declared.TernaryOperator.TheVariants as ternary
use Rattle.term_core_spec.specs.declared.QuaternaryOperator.TheVariants as quaternary
use Rattle.term_core_spec.specs.Term.{Term, Unary, Binary, Ternary, Quaternary, Octonary, not_term, complement, choose, load, on_words, low, byte}
use Rattle.term_core_spec.specs.Sort.{same_width}
use Rattle.term_core_spec.specs.Same.{same_term}
use Rattle.memory_spec.specs.Runs.{Run, fixed_byte}
use Rattle.term_norm_spec.specs.Patterns.{is_true, is_false, is_zero, is_full, is_constant, number_of, is_source_memory, width_of, base, offset, under_not, under_complement, under_extension, are_negations, are_complements, part, whole, under_first_byte, are_bytes_of, are_constants}
use Rattle.term_norm_spec.specs.Normal.{normal_unary, normal_word, normal_binary, normal_ternary, normal_not, normal_complement, normal_and, normal_or, normal_bit_and, normal_bit_or, normal_bit_xor, normal_equal, normal_less, normal_choose, normal_shift, normal_extend, extended, normal_low, normal_byte, normal_join, byte_or, load_of_variable, normal_load}
use Rattle.term_norm_spec.proofs.Forms.{IsNormal, choice, value_one, value_two, constant_normal, Given, given_or, given_if, AreNormal, given_at}

module _ (runs : List Run) where
  -- ---- rule 2

  given_under_not : (x : Term) → IsNormal runs x → Given runs (under_not x)
  unfolding Given IsNormal under_not
  given_under_not (Unary unary.Not y) n = n.0
  given_under_not x n = tt

  given_under_complement : (x : Term) → IsNormal runs x → Given runs (under_complement x)
  unfolding Given IsNormal under_complement
  given_under_complement (Unary unary.Complement y) n = n.0
  given_under_complement x n = tt

  pub not_normal : (x : Term) → IsNormal runs x → IsNormal runs (normal_not x)
  unfolding normal_not IsNormal normal_unary
  not_normal x n =
      value_one runs (normal_not x) unary.Not x _
      (λ t e. given_or runs (normal_not x) (under_not x) (not_term x) (given_under_not x n) (λ e. (n, e)) e) refl

  pub complement_normal : (x : Term) → IsNormal runs x → IsNormal runs (normal_complement x)
  unfolding normal_complement IsNormal normal_unary
  complement_normal x n =
      value_one runs (normal_complement x) unary.Complement x _
      (λ t e. given_or runs (normal_complement x) (under_complement x) (complement x) (given_under_complement x n) (λ e. (n, e)) e) refl

  -- ---- rules 3 and 4

  pub and_normal : (x y : Term) → IsNormal runs x → IsNormal runs y → IsNormal runs (normal_and x y)
  unfolding normal_and IsNormal normal_binary
  and_normal x y nx ny =
      value_two runs (normal_and x y) binary.And x y _
      (λ t e. choice runs (normal_and x y) _ _ (is_false x) (λ t e. nx)
      (λ t e. choice runs (normal_and x y) _ _ (is_false y) (λ t e. ny)
      (λ t e. choice runs (normal_and x y) _ _ (is_true x) (λ t e. ny)
      (λ t e. choice runs (normal_and x y) _ _ (is_true y) (λ t e. nx)
      (λ t e. choice runs (normal_and x y) _ _ (same_term x y) (λ t e. nx)
      (λ t e. choice runs (normal_and x y) _ _ (are_negations x y) (λ t e. tt)
      (λ t e. (nx, ny, e)) e) e) e) e) e) e) refl

  pub or_normal : (x y : Term) → IsNormal runs x → IsNormal runs y → IsNormal runs (normal_or x y)
  unfolding normal_or IsNormal normal_binary
  or_normal x y nx ny =
      value_two runs (normal_or x y) binary.Or x y _
      (λ t e. choice runs (normal_or x y) _ _ (is_true x) (λ t e. nx)
      (λ t e. choice runs (normal_or x y) _ _ (is_true y) (λ t e. ny)
      (λ t e. choice runs (normal_or x y) _ _ (is_false x) (λ t e. ny)
      (λ t e. choice runs (normal_or x y) _ _ (is_false y) (λ t e. nx)
      (λ t e. choice runs (normal_or x y) _ _ (same_term x y) (λ t e. nx)
      (λ t e. choice runs (normal_or x y) _ _ (are_negations x y) (λ t e. tt)
      (λ t e. (nx, ny, e)) e) e) e) e) e) e) refl

  pub bit_and_normal : (x y : Term) → IsNormal runs x → IsNormal runs y → IsNormal runs (normal_bit_and x y)
  unfolding normal_bit_and IsNormal normal_binary normal_word
  bit_and_normal x y nx ny =
      value_two runs (normal_bit_and x y) (binary.Word word.And) x y _
      (λ t e. choice runs (normal_bit_and x y) _ _ (is_zero x) (λ t e. nx)
      (λ t e. choice runs (normal_bit_and x y) _ _ (is_zero y) (λ t e. ny)
      (λ t e. choice runs (normal_bit_and x y) _ _ (is_full x) (λ t e. ny)
      (λ t e. choice runs (normal_bit_and x y) _ _ (is_full y) (λ t e. nx)
      (λ t e. choice runs (normal_bit_and x y) _ _ (same_term x y) (λ t e. nx)
      (λ t e. choice runs (normal_bit_and x y) _ _ (are_complements x y) (λ t e. tt)
      (λ t e. (nx, ny, e)) e) e) e) e) e) e) refl

  pub bit_or_normal : (x y : Term) → IsNormal runs x → IsNormal runs y → IsNormal runs (normal_bit_or x y)
  unfolding normal_bit_or IsNormal normal_binary normal_word
  bit_or_normal x y nx ny =
      value_two runs (normal_bit_or x y) (binary.Word word.Or) x y _
      (λ t e. choice runs (normal_bit_or x y) _ _ (is_full x) (λ t e. nx)
      (λ t e. choice runs (normal_bit_or x y) _ _ (is_full y) (λ t e. ny)
      (λ t e. choice runs (normal_bit_or x y) _ _ (is_zero x) (λ t e. ny)
      (λ t e. choice runs (normal_bit_or x y) _ _ (is_zero y) (λ t e. nx)
      (λ t e. choice runs (normal_bit_or x y) _ _ (same_term x y) (λ t e. nx)
      (λ t e. choice runs (normal_bit_or x y) _ _ (are_complements x y) (λ t e. tt)
      (λ t e. (nx, ny, e)) e) e) e) e) e) e) refl

  pub bit_xor_normal : (x y : Term) → IsNormal runs x → IsNormal runs y → IsNormal runs (normal_bit_xor x y)
  unfolding normal_bit_xor IsNormal normal_binary normal_word
  bit_xor_normal x y nx ny =
      value_two runs (normal_bit_xor x y) (binary.Word word.Xor) x y _
      (λ t e. choice runs (normal_bit_xor x y) _ _ (same_term x y) (λ t e. tt)
      (λ t e. choice runs (normal_bit_xor x y) _ _ (is_zero x) (λ t e. ny)
      (λ t e. choice runs (normal_bit_xor x y) _ _ (is_zero y) (λ t e. nx)
      (λ t e. (nx, ny, e)) e) e) e) refl

  -- ---- rules 6 and 7

  pub equal_normal : (x y : Term) → IsNormal runs x → IsNormal runs y → IsNormal runs (normal_equal x y)
  unfolding normal_equal IsNormal normal_binary
  equal_normal x y nx ny =
      value_two runs (normal_equal x y) binary.Equal x y _
      (λ t e. choice runs (normal_equal x y) _ _ (same_term x y) (λ t e. tt)
      (λ t e. choice runs (normal_equal x y) _ _ (is_true x) (λ t e. ny)
      (λ t e. choice runs (normal_equal x y) _ _ (is_true y) (λ t e. nx)
      (λ t e. choice runs (normal_equal x y) _ _ (is_false x) (λ t e. not_normal y ny)
      (λ t e. choice runs (normal_equal x y) _ _ (is_false y) (λ t e. not_normal x nx)
      (λ t e. choice runs (normal_equal x y) _ _ (same_term (base x) (base y) && not (offset x == offset y)) (λ t e. tt)
      (λ t e. (nx, ny, e)) e) e) e) e) e) e) refl

  pub less_normal : (x y : Term) → IsNormal runs x → IsNormal runs y → IsNormal runs (normal_less x y)
  unfolding normal_less IsNormal normal_binary
  less_normal x y nx ny =
      value_two runs (normal_less x y) binary.Less x y _
      (λ t e. choice runs (normal_less x y) _ _ (same_term x y) (λ t e. tt)
      (λ t e. choice runs (normal_less x y) _ _ (is_zero y) (λ t e. tt)
      (λ t e. (nx, ny, e)) e) e) refl

  -- ---- rule 8

  arm_normal : (w c x y otherwise : Term) → IsNormal runs c → IsNormal runs x → IsNormal runs y → (w ≡ otherwise → IsNormal runs otherwise)
      → w ≡ cond (is_true c) x (cond (is_false c) y (cond (same_term x y) x (cond (is_true x && is_false y) c otherwise)))
      → IsNormal runs (cond (is_true c) x (cond (is_false c) y (cond (same_term x y) x (cond (is_true x && is_false y) c otherwise))))
  arm_normal w c x y otherwise nc nx ny f e =
      choice runs w _ _ (is_true c) (λ t e. nx)
      (λ t e. choice runs w _ _ (is_false c) (λ t e. ny)
      (λ t e. choice runs w _ _ (same_term x y) (λ t e. nx)
      (λ t e. choice runs w _ _ (is_true x && is_false y) (λ t e. nc) (λ t e. f e) e) e) e) e

  pub choose_normal : (c x y : Term) → IsNormal runs c → IsNormal runs x → IsNormal runs y → IsNormal runs (normal_choose c x y)
  unfolding normal_choose IsNormal normal_ternary
  choose_normal (Unary unary.Not c) x y nc nx ny =
      arm_normal (normal_choose (not_term c) x y) (not_term c) x y (normal_choose c y x) nc nx ny (λ e. choose_normal c y x nc.0 ny nx) refl
  choose_normal c x y nc nx ny = arm_normal (normal_choose c x y) c x y (choose c x y) nc nx ny (λ e. (nc, nx, ny, e)) refl

  -- ---- rule 9

  pub shift_normal : (operator : WordOperator) (x y : Term) → IsNormal runs x → IsNormal runs y
      → (normal_shift operator x y ≡ on_words operator x y → normal_word operator x y ≡ on_words operator x y) → IsNormal runs (normal_shift operator x y)
  unfolding normal_shift IsNormal normal_binary
  shift_normal operator x y nx ny f =
      value_two runs (normal_shift operator x y) (binary.Word operator) x y _
      (λ t e. choice runs (normal_shift operator x y) _ _ (is_zero y) (λ t e. nx) (λ t e. (nx, ny, f e)) e) refl

  pub extend_normal : (operator : UnaryOperator) (width : Width) (x : Term) → IsNormal runs x
      → (normal_extend operator width x ≡ Unary operator x → normal_unary operator x ≡ Unary operator x) → IsNormal runs (normal_extend operator width x)
  unfolding normal_extend IsNormal
  extend_normal operator width x n f =
      value_one runs (normal_extend operator width x) operator x _
      (λ t e. choice runs (normal_extend operator width x) _ _ (same_width (width_of x) width) (λ t e. n) (λ t e. (n, f e)) e) refl

  given_under_extension : (x : Term) → IsNormal runs x → Given runs (under_extension x)
  unfolding Given IsNormal under_extension
  given_under_extension (Unary (unary.ZeroExtend w) y) n = n.0
  given_under_extension (Unary (unary.SignExtend w) y) n = n.0
  given_under_extension x n = tt

  given_extended : (width : Width) (o : Option Term) → Given runs o → Given runs (extended width o)
  unfolding Given
  given_extended width (Some x) g = given_if runs (Some x) (same_width (width_of x) width) g
  given_extended width None g = tt

  pub low_normal : (width : Width) (x : Term) → IsNormal runs x → IsNormal runs (normal_low width x)
  unfolding normal_low IsNormal normal_unary
  low_normal width x n =
      value_one runs (normal_low width x) (unary.Low width) x _
      (λ t e. choice runs (normal_low width x) _ _ (same_width (width_of x) width) (λ t e. n)
      (λ t e. given_or runs (normal_low width x) (extended width (under_extension x)) (low width x) (given_extended width (under_extension x) (given_under_extension x n)) (λ e. (n, e)) e) e) refl

  given_part : (place : ℕ) (x : Term) → IsNormal runs x → Given runs (part place x)
  unfolding Given AreNormal IsNormal part
  given_part place (Binary binary.Join a b) (na, nb, e) = given_at runs (a ∷ b ∷ []) place (na, (nb, tt))
  given_part place (Quaternary quaternary.Join a b c d) (na, nb, nc, nd, e) = given_at runs (a ∷ b ∷ c ∷ d ∷ []) place (na, (nb, (nc, (nd, tt))))
  given_part place (Octonary a b c d i j k l) (na, nb, nc, nd, ni, nj, nk, nl, e) =
      given_at runs (a ∷ b ∷ c ∷ d ∷ i ∷ j ∷ k ∷ l ∷ []) place (na, (nb, (nc, (nd, (ni, (nj, (nk, (nl, tt))))))))
  given_part place x n = tt

  pub byte_normal : (place : ℕ) (x : Term) → IsNormal runs x → IsNormal runs (normal_byte place x)
  unfolding normal_byte IsNormal normal_unary
  byte_normal place x n =
      value_one runs (normal_byte place x) (unary.Byte place) x _
      (λ t e. given_or runs (normal_byte place x) (part place x) (byte place x) (given_part place x n) (λ e. (n, e)) e) refl

  given_under_first : (x : Term) → IsNormal runs x → Given runs (under_first_byte x)
  unfolding Given IsNormal under_first_byte
  given_under_first (Unary (unary.Byte place) y) n = given_if runs (Some y) (place == 0) n.0
  given_under_first x n = tt

  given_whole : (width : Width) (parts : List Term) → AreNormal runs parts → Given runs (whole width parts)
  unfolding Given AreNormal
  given_whole width [] n = tt
  given_whole width (t ∷ rest) n = beneath (under_first_byte t) (given_under_first t n.0)
    where
      beneath : (o : Option Term) → Given runs o
          → Given runs (option_and_then (λ x. cond (same_width (width_of x) width) (cond (are_bytes_of x 1 rest) (Some x) None) None) o)
      beneath None g = tt
      beneath (Some x) g = given_if runs _ (same_width (width_of x) width) (given_if runs (Some x) (are_bytes_of x 1 rest) g)

  pub join_normal : (width : Width) (parts : List Term) (otherwise : Term) → AreNormal runs parts
      → (normal_join width parts otherwise ≡ otherwise → IsNormal runs otherwise) → IsNormal runs (normal_join width parts otherwise)
  unfolding normal_join
  join_normal width parts otherwise n f =
      choice runs (normal_join width parts otherwise) _ _ (are_constants parts) (λ t e. constant_normal runs _)
      (λ t e. given_or runs (normal_join width parts otherwise) (whole width parts) otherwise (given_whole width parts n) f e) refl

  -- ---- rule 10

  byte_or_normal : (w : Term) (o : Option ℕ) (otherwise : Term) → (w ≡ otherwise → IsNormal runs otherwise) → w ≡ byte_or o otherwise → IsNormal runs (byte_or o otherwise)
  unfolding IsNormal
  byte_or_normal w (Some number) otherwise f e = tt
  byte_or_normal w None otherwise f e = f e

  variable_normal : (w m d : Term) → (w ≡ load m d → IsNormal runs (load m d)) → w ≡ load_of_variable runs m d → IsNormal runs (load_of_variable runs m d)
  unfolding load_of_variable
  variable_normal w m d f e =
      choice runs w _ _ (is_source_memory m && is_constant d) (λ t e. byte_or_normal w (fixed_byte runs (number_of d)) (load m d) f e) (λ t e. f e) e

  pub load_normal : (m d : Term) → IsNormal runs m → IsNormal runs d → IsNormal runs (normal_load runs m d)
  unfolding normal_load IsNormal normal_binary
  load_normal (Ternary ternary.Store m a b) d (nm, na, nb, e) nd =
      choose_normal (normal_equal d a) b (normal_load runs m d) (equal_normal d a nd na) nb (load_normal m d nm nd)
  load_normal (Quaternary quaternary.Over m z from to) d (nm, nz, nf, nt, e) nd =
      choose_normal (normal_and (normal_not (normal_less d from)) (normal_less d to)) (normal_load runs z d) (normal_load runs m d)
      (and_normal _ _ (not_normal _ (less_normal d from nd nf)) (less_normal d to nd nt)) (load_normal z d nz nd) (load_normal m d nm nd)
  load_normal (Ternary ternary.Choose c m n) d (nc, nm, nn, e) nd =
      choose_normal c (normal_load runs m d) (normal_load runs n d) nc (load_normal m d nm nd) (load_normal n d nn nd)
  load_normal m d nm nd = variable_normal (normal_load runs m d) m d (λ e. (nm, nd, e)) refl
