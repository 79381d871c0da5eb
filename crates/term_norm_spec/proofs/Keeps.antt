-- When one term may replace another: it has the sort, and the value wherever the fixed bytes are held.
use Rattle.std.proofs.Common.{◌≡◌, ℕ, ◌^◌, ◌<◌, Bool, true, false, cond, List, [], ◌∷◌, Some, None, unwrap_or, refl, sym, ap, ◌∙◌, subst, eqb-true}
use Rattle.std.specs.Prelude.{◌&&◌, ◌-◌, nat_lt}
use Rattle.std.proofs.lemmas.Bool.{and_parts, ltb-true, lt-ltb}
use Rattle.std.proofs.lemmas.Option.{same_Some}
use Rattle.term_core_spec.specs.declared.Width.{Width}
use Rattle.term_core_spec.specs.declared.Width.TheVariants.{W8, W16, W32, W64}
use Rattle.term_core_spec.specs.declared.Sort.{Sort}
use Rattle.term_core_spec.specs.declared.Sort.TheVariants as sort
use Rattle.term_core_spec.specs.declared.Atom.TheVariants as atom
use Rattle.term_core_spec.specs.declared.UnaryOperator.{UnaryOperator}
use Rattle.term_core_spec.specs.declared.UnaryOperator.TheVariants as unary
use Rattle.term_core_spec.specs.declared.BinaryOperator.{BinaryOperator}
use Rattle.term_core_spec.specs.declared.BinaryOperator.TheVariants as binary
use Rattle.term_core_spec.specs.declared.TernaryOperator.{TernaryOperator}
use Rattle.term_core_spec.specs.declared.TernaryOperator.TheVariants as ternary
use Rattle.term_core_spec.specs.declared.QuaternaryOperator.{QuaternaryOperator}
use Rattle.term_core_spec.specs.declared.QuaternaryOperator.TheVariants as quaternary
use Rattle.term_core_spec.specs.Term.{Term, Leaf, Unary, Binary, Ternary, Quaternary, Octonary, truth, constant}
use Rattle.term_core_spec.specs.Sort.{bits, is_memory, sort_of, sort_of_atom, sort_of_unary, sort_of_binary, sort_of_ternary, sort_of_quaternary, all_bytes, with_one, with_two}
use Rattle.term_core_spec.specs.Value.{Value, Truth, Number, IsOfSort, Assignment, IsAssignment, value, unary_value, binary_value}
use Rattle.term_core_spec.proofs.Sorts.{sort_if-some, with_one-some, with_two-some, with_three-some, with_four-some}
use Rattle.term_core_spec.proofs.Soundness.{unary_value-sort, binary_value-sort}
use Rattle.memory_spec.specs.Runs.{Run}
use Rattle.term_norm_spec.specs.Fixed.{HoldsFixed}
use Rattle.term_norm_spec.specs.Patterns.{is_constant, is_true, is_false, is_zero, is_one, is_full, known, number_of, constant_of, width_of, width_of_sort}
use Rattle.term_norm_spec.specs.Normal.{value_of_one_or, value_of_two_or}

pub record Keeps (runs : List Run) (s : Sort) (t u : Term) : Type 0 where
  pub sorted : sort_of u ≡ Some s
  pub value_is : (assignment : Assignment) → IsAssignment assignment → HoldsFixed runs assignment → value assignment u ≡ value assignment t

-- ---- constants

pub known-value : (assignment : Assignment) (x : Term) → is_constant x ≡ true → value assignment x ≡ known x
unfolding value is_constant known
known-value assignment (Leaf (atom.Truth b)) e = refl
known-value assignment (Leaf (atom.Constant w n)) e = refl
known-value assignment x e = absurd (cc)

pub known-sort : (x : Term) (s : Sort) → is_constant x ≡ true → sort_of x ≡ Some s → IsOfSort s (known x)
unfolding sort_of sort_of_atom is_constant known
known-sort (Leaf (atom.Truth b)) sort.Truth e h = tt
known-sort (Leaf (atom.Truth b)) s e h = absurd (cc)
known-sort (Leaf (atom.Constant w n)) (sort.Word v) e h =
    let parts = sort_if-some (nat_lt n (2 ^ bits w)) (sort.Word w) (sort.Word v) h in
    let same : w ≡ v = cc (parts.1) in
    (same, subst (λ u. n < 2 ^ bits u) same (ltb-true n (2 ^ bits w) parts.0))
known-sort (Leaf (atom.Constant w n)) s e h =
    let parts = sort_if-some (nat_lt n (2 ^ bits w)) (sort.Word w) s h in
    absurd (cc (parts.1))
known-sort x s e h = absurd (cc)

-- the constant with a value of a sort that is no memory's
pub constant-sort : (s : Sort) (v : Value) → is_memory s ≡ false → IsOfSort s v → sort_of (constant_of v) ≡ Some s
unfolding sort_of sort_of_atom constant_of
constant-sort sort.Truth (Truth b) e h = refl
constant-sort (sort.Word w) (Number v n) e h =
    let below : n < 2 ^ bits v = subst (λ u. n < 2 ^ bits u) (sym h.0) h.1 in
    let test : nat_lt n (2 ^ bits v) ≡ true = lt-ltb n (2 ^ bits v) below in
    rw test (ap (λ u. Some (sort.Word u)) h.0)
constant-sort sort.Truth v e h = absurd h
constant-sort (sort.Word w) v e h = absurd h
constant-sort sort.Memory v e h = absurd (cc)

pub constant-value : (assignment : Assignment) (s : Sort) (v : Value) → is_memory s ≡ false → IsOfSort s v → value assignment (constant_of v) ≡ v
unfolding value constant_of
constant-value assignment sort.Truth (Truth b) e h = refl
constant-value assignment (sort.Word w) (Number v n) e h = refl
constant-value assignment sort.Truth v e h = absurd h
constant-value assignment (sort.Word w) v e h = absurd h
constant-value assignment sort.Memory v e h = absurd (cc)

pub false_is : (x : Term) → is_false x ≡ true → x ≡ truth false
unfolding is_false
false_is (Leaf (atom.Truth false)) e = refl
false_is (Leaf (atom.Truth true)) e = absurd (cc)
false_is x e = absurd (cc)

pub true_is : (x : Term) → is_true x ≡ true → x ≡ truth true
unfolding is_true
true_is (Leaf (atom.Truth true)) e = refl
true_is (Leaf (atom.Truth false)) e = absurd (cc)
true_is x e = absurd (cc)

-- a constant that is a word
pub constant_is : (w : Width) (x : Term) → sort_of x ≡ Some (sort.Word w) → is_constant x ≡ true → (x ≡ constant w (number_of x)) × (number_of x < 2 ^ bits w)
unfolding sort_of sort_of_atom is_constant number_of
constant_is w (Leaf (atom.Constant v n)) h e =
    let parts = sort_if-some (nat_lt n (2 ^ bits v)) (sort.Word v) (sort.Word w) h in
    let same : v ≡ w = cc (parts.1) in
    (ap (λ u. constant u n) same, subst (λ u. n < 2 ^ bits u) same (ltb-true n (2 ^ bits v) parts.0))
constant_is w (Leaf (atom.Truth b)) h e = absurd (cc)
constant_is w x h e = absurd (cc)

pub zero_is : (w : Width) (x : Term) → sort_of x ≡ Some (sort.Word w) → is_zero x ≡ true → x ≡ constant w 0
unfolding sort_of sort_of_atom is_zero
zero_is w (Leaf (atom.Constant v n)) h e =
    let parts = sort_if-some (nat_lt n (2 ^ bits v)) (sort.Word v) (sort.Word w) h in
    let same : v ≡ w = cc (parts.1) in
    let number : n ≡ 0 = eqb-true n 0 e in
    cc
zero_is w x h e = absurd (cc)

pub one_is : (w : Width) (x : Term) → sort_of x ≡ Some (sort.Word w) → is_one x ≡ true → x ≡ constant w 1
unfolding sort_of sort_of_atom is_one
one_is w (Leaf (atom.Constant v n)) h e =
    let parts = sort_if-some (nat_lt n (2 ^ bits v)) (sort.Word v) (sort.Word w) h in
    let same : v ≡ w = cc (parts.1) in
    let number : n ≡ 1 = eqb-true n 1 e in
    cc
one_is w x h e = absurd (cc)

pub full_is : (w : Width) (x : Term) → sort_of x ≡ Some (sort.Word w) → is_full x ≡ true → x ≡ constant w (2 ^ bits w - 1)
unfolding sort_of sort_of_atom is_full
full_is w (Leaf (atom.Constant v n)) h e =
    let parts = sort_if-some (nat_lt n (2 ^ bits v)) (sort.Word v) (sort.Word w) h in
    let same : v ≡ w = cc (parts.1) in
    let number : n ≡ 2 ^ bits v - 1 = eqb-true n (2 ^ bits v - 1) e in
    subst (λ u. Leaf (atom.Constant v n) ≡ constant u (2 ^ bits u - 1)) same (ap (constant v) number)
full_is w x h e = absurd (cc)

-- a constant below 2 ^ width is well sorted
pub sort-constant : (w : Width) (n : ℕ) → n < 2 ^ bits w → sort_of (constant w n) ≡ Some (sort.Word w)
unfolding sort_of sort_of_atom
sort-constant w n below = rw (lt-ltb n (2 ^ bits w) below) refl

pub value-constant : (assignment : Assignment) (w : Width) (n : ℕ) → value assignment (constant w n) ≡ Number w n
unfolding value
value-constant assignment w n = refl

pub value-truth : (assignment : Assignment) (b : Bool) → value assignment (truth b) ≡ Truth b
unfolding value
value-truth assignment b = refl

pub constant_sorted : (v : Width) (n : ℕ) (w : Width) → sort_of (constant v n) ≡ Some (sort.Word w) → (v ≡ w) × (n < 2 ^ bits w)
unfolding sort_of sort_of_atom
constant_sorted v n w h =
    let parts = sort_if-some (nat_lt n (2 ^ bits v)) (sort.Word v) (sort.Word w) h in
    let same : v ≡ w = cc (parts.1) in
    (same, subst (λ u. n < 2 ^ bits u) same (ltb-true n (2 ^ bits v) parts.0))

-- ---- widths

pub width_is : (t : Term) (w : Width) → sort_of t ≡ Some (sort.Word w) → width_of t ≡ w
unfolding width_of sort_of sort_of_atom sort_of_unary sort_of_binary sort_of_ternary sort_of_quaternary
width_is (Leaf (atom.Truth b)) w h = absurd (cc)
width_is (Leaf (atom.Constant v n)) w h =
    let parts = sort_if-some (nat_lt n (2 ^ bits v)) (sort.Word v) (sort.Word w) h in
    cc (parts.1)
width_is (Leaf (atom.Open variable)) w h = ap width_of_sort (same_Some variable.sort (sort.Word w) h)
width_is (Unary operator x) w h =
    let parts = with_one-some (sort_of_unary operator) (sort_of x) (sort.Word w) h in
    of_unary operator parts.0 parts.1 parts.2 (width_is x w)
  where
    of_unary : (o : UnaryOperator) (p : Sort) → sort_of x ≡ Some p → sort_of_unary o p ≡ Some (sort.Word w) → (sort_of x ≡ Some (sort.Word w) → width_of x ≡ w) → width_of (Unary o x) ≡ w
    of_unary unary.Not p hx e again = let parts = sort_if-some _ sort.Truth (sort.Word w) e in absurd (cc (parts.1))
    of_unary unary.Complement p hx e again = let parts = sort_if-some _ p (sort.Word w) e in again (hx ∙ ap Some parts.1)
    of_unary (unary.ZeroExtend v) p hx e again = let parts = sort_if-some _ (sort.Word v) (sort.Word w) e in cc (parts.1)
    of_unary (unary.SignExtend v) p hx e again = let parts = sort_if-some _ (sort.Word v) (sort.Word w) e in cc (parts.1)
    of_unary (unary.Low v) p hx e again = let parts = sort_if-some _ (sort.Word v) (sort.Word w) e in cc (parts.1)
    of_unary (unary.Byte place) p hx e again = let parts = sort_if-some _ (sort.Word W8) (sort.Word w) e in cc (parts.1)
width_is (Binary operator x y) w h =
    let parts = with_two-some (sort_of_binary operator) (sort_of x) (sort_of y) (sort.Word w) h in
    of_binary operator parts.0 parts.1 parts.2 parts.4 (width_is x w)
  where
    of_binary : (o : BinaryOperator) (p q : Sort) → sort_of x ≡ Some p → sort_of_binary o p q ≡ Some (sort.Word w) → (sort_of x ≡ Some (sort.Word w) → width_of x ≡ w) → width_of (Binary o x y) ≡ w
    of_binary binary.And p q hx e again = let parts = sort_if-some _ sort.Truth (sort.Word w) e in absurd (cc (parts.1))
    of_binary binary.Or p q hx e again = let parts = sort_if-some _ sort.Truth (sort.Word w) e in absurd (cc (parts.1))
    of_binary binary.Equal p q hx e again = let parts = sort_if-some _ sort.Truth (sort.Word w) e in absurd (cc (parts.1))
    of_binary binary.Less p q hx e again = let parts = sort_if-some _ sort.Truth (sort.Word w) e in absurd (cc (parts.1))
    of_binary (binary.Word o) p q hx e again = let parts = sort_if-some _ p (sort.Word w) e in again (hx ∙ ap Some parts.1)
    of_binary binary.Load p q hx e again = let parts = sort_if-some _ (sort.Word W8) (sort.Word w) e in cc (parts.1)
    of_binary binary.Join p q hx e again = let parts = sort_if-some _ (sort.Word W16) (sort.Word w) e in cc (parts.1)
width_is (Ternary operator x y z) w h =
    let parts = with_three-some (sort_of_ternary operator) (sort_of x) (sort_of y) (sort_of z) (sort.Word w) h in
    of_ternary operator parts.0 parts.1 parts.2 parts.4 parts.6 (width_is y w)
  where
    of_ternary : (o : TernaryOperator) (p q r : Sort) → sort_of y ≡ Some q → sort_of_ternary o p q r ≡ Some (sort.Word w) → (sort_of y ≡ Some (sort.Word w) → width_of y ≡ w) → width_of (Ternary o x y z) ≡ w
    of_ternary ternary.Choose p q r hy e again = let parts = sort_if-some _ q (sort.Word w) e in again (hy ∙ ap Some parts.1)
    of_ternary ternary.Store p q r hy e again = let parts = sort_if-some _ sort.Memory (sort.Word w) e in absurd (cc (parts.1))
width_is (Quaternary operator a b c d) w h =
    let parts = with_four-some (sort_of_quaternary operator) (sort_of a) (sort_of b) (sort_of c) (sort_of d) (sort.Word w) h in
    of_quaternary operator parts.0 parts.1 parts.2 parts.3 parts.8
  where
    of_quaternary : (o : QuaternaryOperator) (p q r s : Sort) → sort_of_quaternary o p q r s ≡ Some (sort.Word w) → width_of (Quaternary o a b c d) ≡ w
    of_quaternary quaternary.Over p q r s e = let parts = sort_if-some _ sort.Memory (sort.Word w) e in absurd (cc (parts.1))
    of_quaternary quaternary.Join p q r s e = let parts = sort_if-some _ (sort.Word W32) (sort.Word w) e in cc (parts.1)
width_is (Octonary a b c d i j k l) w h =
    let parts = sort_if-some (all_bytes (sort_of a ∷ sort_of b ∷ sort_of c ∷ sort_of d ∷ sort_of i ∷ sort_of j ∷ sort_of k ∷ sort_of l ∷ [])) (sort.Word W64) (sort.Word w) h in
    cc (parts.1)

module _ (runs : List Run) where
  pub keeps_itself : (s : Sort) (t : Term) → sort_of t ≡ Some s → Keeps runs s t t
  keeps_itself s t e = record { sorted = e; value_is = λ assignment h fixed. refl }

  pub keeps_then : (s : Sort) (t u v : Term) → Keeps runs s t u → Keeps runs s u v → Keeps runs s t v
  keeps_then s t u v a b = record { sorted = b.sorted; value_is = λ assignment h fixed. b.value_is assignment h fixed ∙ a.value_is assignment h fixed }

  pub keeps_if : (s : Sort) (t u v : Term) (test : Bool) → (test ≡ true → Keeps runs s t u) → (test ≡ false → Keeps runs s t v) → Keeps runs s t (cond test u v)
  keeps_if s t u v true f g = f refl
  keeps_if s t u v false f g = g refl

  -- ---- rule 1

  pub keeps_value_of_one : (operator : UnaryOperator) (x : Term) (s : Sort) (otherwise : Term) → is_memory s ≡ false → sort_of (Unary operator x) ≡ Some s
      → Keeps runs s (Unary operator x) otherwise → Keeps runs s (Unary operator x) (value_of_one_or operator x otherwise)
  unfolding sort_of value
  keeps_value_of_one operator x s otherwise not_memory e other =
      keeps_if s (Unary operator x) (constant_of (unary_value operator (known x))) otherwise (is_constant x)
      (λ is.
      let parts = with_one-some (sort_of_unary operator) (sort_of x) s e in
      let fits = unary_value-sort operator parts.0 s (known x) parts.2 (known-sort x parts.0 is parts.1) in
      record {
        sorted = constant-sort s (unary_value operator (known x)) not_memory fits;
        value_is = λ assignment h fixed. constant-value assignment s (unary_value operator (known x)) not_memory fits ∙ ap (unary_value operator) (sym (known-value assignment x is));
      })
      (λ isnt. other)

  pub keeps_value_of_two : (operator : BinaryOperator) (x y : Term) (s : Sort) (otherwise : Term) → is_memory s ≡ false → sort_of (Binary operator x y) ≡ Some s
      → Keeps runs s (Binary operator x y) otherwise → Keeps runs s (Binary operator x y) (value_of_two_or operator x y otherwise)
  unfolding sort_of value
  keeps_value_of_two operator x y s otherwise not_memory e other =
      keeps_if s (Binary operator x y) (constant_of (binary_value operator (known x) (known y))) otherwise (is_constant x && is_constant y)
      (λ are.
      let parts = with_two-some (sort_of_binary operator) (sort_of x) (sort_of y) s e in
      let both = and_parts (is_constant x) (is_constant y) are in
      let fits = binary_value-sort operator parts.0 parts.1 s (known x) (known y) parts.4 (known-sort x parts.0 both.0 parts.2) (known-sort y parts.1 both.1 parts.3) in
      record {
        sorted = constant-sort s (binary_value operator (known x) (known y)) not_memory fits;
        value_is = λ assignment h fixed.
            let ex = known-value assignment x both.0 in
            let ey = known-value assignment y both.1 in
            let same : binary_value operator (known x) (known y) ≡ binary_value operator (value assignment x) (value assignment y) = cc in
            constant-value assignment s (binary_value operator (known x) (known y)) not_memory fits ∙ same;
      })
      (λ arent. other)

  -- an optional term
  pub keeps_option : (s : Sort) (t u otherwise : Term) (test : Bool) → (test ≡ true → Keeps runs s t u) → Keeps runs s t otherwise → Keeps runs s t (unwrap_or (cond test (Some u) None) otherwise)
  keeps_option s t u otherwise true f other = f refl
  keeps_option s t u otherwise false f other = other

  -- a term has one sort
  pub at_sort : (s p : Sort) (t u : Term) → sort_of t ≡ Some s → Keeps runs s t u → sort_of t ≡ Some p → Keeps runs p t u
  at_sort s p t u h kept e = subst (λ q. Keeps runs q t u) (same_Some s p (sym h ∙ e)) kept

  -- ---- arguments in their places

  pub unary_keeps : (operator : UnaryOperator) (x u : Term) (s : Sort) → sort_of (Unary operator x) ≡ Some s → ((p : Sort) → sort_of x ≡ Some p → Keeps runs p x u) → Keeps runs s (Unary operator x) (Unary operator u)
  unfolding sort_of value
  unary_keeps operator x u s h f =
      let parts = with_one-some (sort_of_unary operator) (sort_of x) s h in
      let kept = f parts.0 parts.1 in
      let sorts : sort_of u ≡ sort_of x = kept.sorted ∙ sym parts.1 in
      record { sorted = ap (with_one (sort_of_unary operator)) sorts ∙ h; value_is = λ assignment g fixed. ap (unary_value operator) (kept.value_is assignment g fixed) }

  pub binary_keeps : (operator : BinaryOperator) (x y u v : Term) (s : Sort) → sort_of (Binary operator x y) ≡ Some s → ((p : Sort) → sort_of x ≡ Some p → Keeps runs p x u)
      → ((p : Sort) → sort_of y ≡ Some p → Keeps runs p y v) → Keeps runs s (Binary operator x y) (Binary operator u v)
  unfolding sort_of value
  binary_keeps operator x y u v s h f g =
      let parts = with_two-some (sort_of_binary operator) (sort_of x) (sort_of y) s h in
      let first = f parts.0 parts.2 in
      let second = g parts.1 parts.3 in
      let one : sort_of u ≡ sort_of x = first.sorted ∙ sym parts.2 in
      let two : sort_of v ≡ sort_of y = second.sorted ∙ sym parts.3 in
      record {
        sorted = ap (λ o. with_two (sort_of_binary operator) o (sort_of v)) one ∙ ap (with_two (sort_of_binary operator) (sort_of x)) two ∙ h;
        value_is = λ assignment k fixed.
            let e1 = first.value_is assignment k fixed in
            let e2 = second.value_is assignment k fixed in
            ap (λ o. binary_value operator o (value assignment v)) e1 ∙ ap (binary_value operator (value assignment x)) e2;
      }

  pub ternary_keeps : (operator : TernaryOperator) (x y z t u v : Term) (s : Sort) → sort_of (Ternary operator x y z) ≡ Some s → ((p : Sort) → sort_of x ≡ Some p → Keeps runs p x t)
      → ((p : Sort) → sort_of y ≡ Some p → Keeps runs p y u) → ((p : Sort) → sort_of z ≡ Some p → Keeps runs p z v) → Keeps runs s (Ternary operator x y z) (Ternary operator t u v)
  unfolding sort_of value
  ternary_keeps operator x y z t u v s h f g i =
      let parts = with_three-some (sort_of_ternary operator) (sort_of x) (sort_of y) (sort_of z) s h in
      let first = f parts.0 parts.3 in
      let second = g parts.1 parts.4 in
      let third = i parts.2 parts.5 in
      let one : sort_of t ≡ sort_of x = first.sorted ∙ sym parts.3 in
      let two : sort_of u ≡ sort_of y = second.sorted ∙ sym parts.4 in
      let three : sort_of v ≡ sort_of z = third.sorted ∙ sym parts.5 in
      record {
        sorted = rw (one, two, three) h;
        value_is = λ assignment k fixed. rw (first.value_is assignment k fixed, second.value_is assignment k fixed, third.value_is assignment k fixed) refl;
      }

  pub quaternary_keeps : (operator : QuaternaryOperator) (a b c d t u v w : Term) (s : Sort) → sort_of (Quaternary operator a b c d) ≡ Some s → ((p : Sort) → sort_of a ≡ Some p → Keeps runs p a t)
      → ((p : Sort) → sort_of b ≡ Some p → Keeps runs p b u) → ((p : Sort) → sort_of c ≡ Some p → Keeps runs p c v) → ((p : Sort) → sort_of d ≡ Some p → Keeps runs p d w)
      → Keeps runs s (Quaternary operator a b c d) (Quaternary operator t u v w)
  unfolding sort_of value
  quaternary_keeps operator a b c d t u v w s h f g i j =
      let parts = with_four-some (sort_of_quaternary operator) (sort_of a) (sort_of b) (sort_of c) (sort_of d) s h in
      let first = f parts.0 parts.4 in
      let second = g parts.1 parts.5 in
      let third = i parts.2 parts.6 in
      let fourth = j parts.3 parts.7 in
      let one : sort_of t ≡ sort_of a = first.sorted ∙ sym parts.4 in
      let two : sort_of u ≡ sort_of b = second.sorted ∙ sym parts.5 in
      let three : sort_of v ≡ sort_of c = third.sorted ∙ sym parts.6 in
      let four : sort_of w ≡ sort_of d = fourth.sorted ∙ sym parts.7 in
      record {
        sorted = rw (one, two, three, four) h;
        value_is = λ assignment k fixed. rw (first.value_is assignment k fixed, second.value_is assignment k fixed, third.value_is assignment k fixed, fourth.value_is assignment k fixed) refl;
      }
