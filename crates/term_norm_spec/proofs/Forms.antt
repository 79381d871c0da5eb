-- Terms on which no rule is left to use, at any place.
use Rattle.std.proofs.Common.{◌≡◌, Bool, true, false, cond, List, [], ◌∷◌, slice_get, Option, Some, None, unwrap_or, refl, ℕ, zero, suc}
use Rattle.std.specs.Prelude.{⊤, ◌&&◌}
use Rattle.term_core_spec.specs.declared.UnaryOperator.{UnaryOperator}
use Rattle.term_core_spec.specs.declared.BinaryOperator.{BinaryOperator}
use Rattle.term_core_spec.specs.Term.{Term, Leaf, Unary, Binary, Ternary, Quaternary, Octonary}
use Rattle.term_core_spec.specs.Value.{Value, Truth, Number, Bytes, unary_value, binary_value}
use Rattle.memory_spec.specs.Runs.{Run}
use Rattle.term_norm_spec.specs.Patterns.{is_constant, constant_of, known}
use Rattle.term_norm_spec.specs.Normal.{value_of_one_or, value_of_two_or, normal_unary, normal_binary, normal_ternary, normal_quaternary, normal_octonary, normal}

module _ (runs : List Run) where
  -- the arguments are such terms, and the rules of the operator leave it
  unfoldable pub IsNormal : Term → Type 0
  IsNormal (Leaf leaf) = ⊤
  IsNormal (Unary operator a) = IsNormal a × (normal_unary operator a ≡ Unary operator a)
  IsNormal (Binary operator a b) = IsNormal a × IsNormal b × (normal_binary runs operator a b ≡ Binary operator a b)
  IsNormal (Ternary operator a b c) = IsNormal a × IsNormal b × IsNormal c × (normal_ternary operator a b c ≡ Ternary operator a b c)
  IsNormal (Quaternary operator a b c d) =
      IsNormal a × IsNormal b × IsNormal c × IsNormal d × (normal_quaternary operator a b c d ≡ Quaternary operator a b c d)
  IsNormal (Octonary a b c d e f g h) =
      IsNormal a × IsNormal b × IsNormal c × IsNormal d × IsNormal e × IsNormal f × IsNormal g × IsNormal h
      × (normal_octonary a b c d e f g h ≡ Octonary a b c d e f g h)

  -- such a term is its normal form
  pub normal_is_itself : (t : Term) → IsNormal t → normal runs t ≡ t
  unfolding normal IsNormal
  normal_is_itself (Leaf leaf) n = refl
  normal_is_itself (Unary operator a) (na, e) = rw (normal_is_itself a na) e
  normal_is_itself (Binary operator a b) (na, nb, e) = rw (normal_is_itself a na, normal_is_itself b nb) e
  normal_is_itself (Ternary operator a b c) (na, nb, nc, e) = rw (normal_is_itself a na, normal_is_itself b nb, normal_is_itself c nc) e
  normal_is_itself (Quaternary operator a b c d) (na, nb, nc, nd, e) =
      rw (normal_is_itself a na, normal_is_itself b nb, normal_is_itself c nc, normal_is_itself d nd) e
  normal_is_itself (Octonary a b c d i j k l) (na, nb, nc, nd, ni, nj, nk, nl, e) =
      rw (normal_is_itself a na, normal_is_itself b nb, normal_is_itself c nc, normal_is_itself d nd, normal_is_itself i ni, normal_is_itself j nj, normal_is_itself k nk, normal_is_itself l nl) e

  -- ---- what a rule gives. Below, w is what all the rules of the operator give

  pub choice : (w u v : Term) (test : Bool) → (test ≡ true → w ≡ u → IsNormal u) → (test ≡ false → w ≡ v → IsNormal v) → w ≡ cond test u v → IsNormal (cond test u v)
  choice w u v true f g e = f refl e
  choice w u v false f g e = g refl e

  pub constant_normal : (v : Value) → IsNormal (constant_of v)
  unfolding IsNormal constant_of
  constant_normal (Truth value) = tt
  constant_normal (Number width number) = tt
  constant_normal (Bytes memory) = tt

  pub value_one : (w : Term) (operator : UnaryOperator) (x otherwise : Term) → (is_constant x ≡ false → w ≡ otherwise → IsNormal otherwise)
      → w ≡ value_of_one_or operator x otherwise → IsNormal (value_of_one_or operator x otherwise)
  value_one w operator x otherwise f e =
      choice w (constant_of (unary_value operator (known x))) otherwise (is_constant x) (λ t k. constant_normal (unary_value operator (known x))) f e

  pub value_two : (w : Term) (operator : BinaryOperator) (x y otherwise : Term) → ((is_constant x && is_constant y) ≡ false → w ≡ otherwise → IsNormal otherwise)
      → w ≡ value_of_two_or operator x y otherwise → IsNormal (value_of_two_or operator x y otherwise)
  value_two w operator x y otherwise f e =
      choice w (constant_of (binary_value operator (known x) (known y))) otherwise (is_constant x && is_constant y)
      (λ t k. constant_normal (binary_value operator (known x) (known y))) f e

  -- ---- optional terms, and lists of terms

  unfoldable pub Given : Option Term → Type 0
  Given (Some x) = IsNormal x
  Given None = ⊤

  pub given_or : (w : Term) (o : Option Term) (otherwise : Term) → Given o → (w ≡ otherwise → IsNormal otherwise) → w ≡ unwrap_or o otherwise → IsNormal (unwrap_or o otherwise)
  unfolding Given
  given_or w (Some x) otherwise g f e = g
  given_or w None otherwise g f e = f e

  pub given_if : (o : Option Term) (test : Bool) → Given o → Given (cond test o None)
  unfolding Given
  given_if o true g = g
  given_if o false g = tt

  unfoldable pub AreNormal : List Term → Type 0
  AreNormal [] = ⊤
  AreNormal (t ∷ rest) = IsNormal t × AreNormal rest

  pub given_at : (ts : List Term) (place : ℕ) → AreNormal ts → Given (slice_get ts place)
  unfolding Given AreNormal
  given_at [] place n = tt
  given_at (t ∷ rest) zero (nt, nr) = nt
  given_at (t ∷ rest) (suc place) (nt, nr) = given_at rest place nr
