-- An operator over the same arguments in another order has the same value.
use Rattle.std.proofs.Common.{◌≡◌, ℕ, ◌+◌, ◌-◌, ◌*◌, ◌%◌, ◌^◌, ◌<◌, Bool, true, false, cond, List, [], ◌∷◌, ◌++◌, Option, Some, None, option_map, refl, sym, ap, ◌∙◌, subst, arith, length, eqb-true, eq-eqb}
use Rattle.std.specs.Prelude.{◌==◌, ◌&&◌, ◌||◌, not, nat_le, if◌then◌else◌, max, bit_or, bit_xor}
use Rattle.std.proofs.lemmas.Bool.{and_parts}
use Rattle.std.proofs.lemmas.Option.{same_Some}
use Rattle.std.specs.Int.{bit_at}
use Rattle.std.specs.Int.Bits.{or_zero_r, xor_zero_r}
use Rattle.std.proofs.lemmas.Nat.{pow_pos, mod_below, and_comm, or_comm, xor_comm, and_assoc}
use Rattle.std.proofs.lemmas.Nat.Bits.{bit_at_or, bit_at_xor, same_from_bits}
use Rattle.term_core_spec.specs.declared.Width.{Width}
use Rattle.term_core_spec.specs.declared.Sort.{Sort}
use Rattle.term_core_spec.specs.declared.Sort.TheVariants as sort
use Rattle.term_core_spec.specs.declared.WordOperator.{WordOperator}
use Rattle.term_core_spec.specs.declared.WordOperator.TheVariants as word
use Rattle.term_core_spec.specs.declared.BinaryOperator.{BinaryOperator}
use Rattle.term_core_spec.specs.declared.BinaryOperator.TheVariants as binary
use Rattle.term_core_spec.specs.contracts.BinaryOperatorPartialEq.TheImpl as binary_test
use Rattle.term_core_spec.specs.Term.{Term, Binary, equal, on_words}
use Rattle.term_core_spec.specs.Sort.{bits, sort_of, sort_of_binary, is_truth}
use Rattle.term_core_spec.specs.Value.{Value, Truth, Number, Bytes, Assignment, IsAssignment, value, binary_value, operation}
use Rattle.term_core_spec.specs.Same.{same_term}
use Rattle.term_core_spec.proofs.Same.{same_is, binary-same}
use Rattle.term_core_spec.proofs.Sorts.{sort_if-some, with_two-some, same_sort-true}
use Rattle.term_norm_spec.proofs.Equals.{Alike, truths, words, alike_of, value-equal_words}
use Rattle.term_norm_spec.proofs.Numbers.{mod-small, and-full_right}
use Rattle.term_norm_spec.proofs.Truths.{truth_value_of, value-and, value-or}
use Rattle.term_norm_spec.proofs.Words.{word_of, words_of, value-words}
use Rattle.word_steps_spec.specs.Polynomial.{without, holds_of, same_atoms, number_of_value}
use Rattle.word_steps_spec.specs.Commuting.{ARGUMENTS, is_commutative, is_associative, is_nested, arguments_under, are_arguments_of_both, same_up_to_order}
use Rattle.word_steps_spec.proofs.Congruence.{congruent_same, congruent_sym, congruent_then, congruent_product, congruent_mod, congruent_equal}
use Rattle.word_steps_spec.proofs.Sorts.{bool_sort}

-- either of two tests
pub either_test : {P : Type 0} (a b : Bool) → (a || b) ≡ true → (a ≡ true → P) → (b ≡ true → P) → P
either_test true b e f g = f refl
either_test false b e f g = g e

-- ---- an operation that may be done in any order, over a list

module _ (A : Type 0) (on : A → A → A) (of : Term → A) where
  total : List Term → A → A
  total [] last = last
  total (t ∷ ts) last = on (of t) (total ts last)

-- the operation may be done in any order
record IsFree (A : Type 0) (on : A → A → A) : Type 0 where
  pub swaps : (a b : A) → on a b ≡ on b a
  pub regroups : (a b c : A) → on (on a b) c ≡ on a (on b c)

module _ (A : Type 0) (on : A → A → A) (of : Term → A) (free : IsFree A on) where
  abbrev all : List Term → A → A
  all = total A on of

  move : (a b c : A) → on a (on b c) ≡ on b (on a c)
  move a b c = sym (free.regroups a b c) ∙ ap (λ d. on d c) (free.swaps a b) ∙ free.regroups b a c

  without_total : (last : A) (t : Term) (us : List Term) (o : Option (List Term)) → without t us ≡ o → (rest : List Term) → o ≡ Some rest → all us last ≡ on (of t) (all rest last)
  unfolding without total
  without_total last t [] o e rest d = absurd (cc)
  without_total last t (u ∷ us) o e rest d = by (same_term t u) refl (e ∙ d) (λ others f. without_total last t us (Some others) f others refl)
    where
      inner : (p : Option (List Term)) → without t us ≡ p → option_map (λ others. u ∷ others) p ≡ Some rest
          → ((others : List Term) → without t us ≡ Some others → all us last ≡ on (of t) (all others last))
          → on (of u) (all us last) ≡ on (of t) (all rest last)
      inner None f g again = absurd (cc)
      inner (Some others) f g again =
          ap (on (of u)) (again others f) ∙ move (of u) (of t) (all others last) ∙ ap (λ r. on (of t) (all r last)) (same_Some (u ∷ others) rest g)

      by : (test : Bool) → same_term t u ≡ test → cond test (Some us) (option_map (λ others. u ∷ others) (without t us)) ≡ Some rest
          → ((others : List Term) → without t us ≡ Some others → all us last ≡ on (of t) (all others last))
          → on (of u) (all us last) ≡ on (of t) (all rest last)
      by true same f again = ap (λ v. on (of v) (all us last)) (sym (same_is t u same)) ∙ ap (λ r. on (of t) (all r last)) (same_Some us rest f)
      by false other f again = inner (without t us) refl f again

  same_total : (last : A) (ts us : List Term) → same_atoms ts us ≡ true → all ts last ≡ all us last
  unfolding same_atoms total
  same_total last [] [] e = refl
  same_total last [] (u ∷ us) e = absurd (cc)
  same_total last (t ∷ ts) us e = by (without t us) refl e (same_total last ts)
    where
      by : (o : Option (List Term)) → without t us ≡ o → holds_of (same_atoms ts) o ≡ true → ((vs : List Term) → same_atoms ts vs ≡ true → all ts last ≡ all vs last)
          → on (of t) (all ts last) ≡ all us last
      by None d f again = absurd (cc)
      by (Some rest) d f again = ap (on (of t)) (again rest f) ∙ sym (without_total last t us (Some rest) d rest refl)

  total-append : (last : A) (ts us : List Term) → all (ts ++ us) last ≡ all ts (all us last)
  unfolding total
  total-append last [] us = refl
  total-append last (t ∷ ts) us = ap (on (of t)) (total-append last ts us)

  total-one : (last : A) (t : Term) → all (t ∷ []) last ≡ on (of t) last
  unfolding total
  total-one last t = refl

  -- what an operator of this kind makes, of its arguments
  total-both : (last : A) (x y : Term) (ts us : List Term) (a : A) → a ≡ on (of x) (of y) → ((z : A) → on (of x) z ≡ all ts z) → ((z : A) → on (of y) z ≡ all us z)
      → on a last ≡ all (ts ++ us) last
  total-both last x y ts us a e first second =
      ap (λ b. on b last) e ∙ free.regroups (of x) (of y) last ∙ ap (on (of x)) (second last) ∙ first (all us last) ∙ sym (total-append last ts us)

  -- terms of the same arguments; the last is one that leaves both as they are
  same_whole : (last : A) (x y : Term) (ts us : List Term) → on (of x) last ≡ of x → on (of y) last ≡ of y → on (of x) last ≡ all ts last → on (of y) last ≡ all us last
      → same_atoms ts us ≡ true → of x ≡ of y
  same_whole last x y ts us first_is second_is first second same = sym first_is ∙ first ∙ same_total last ts us same ∙ sym second ∙ second_is

-- ---- the operations

or_regroups : (a b c : ℕ) → bit_or (bit_or a b) c ≡ bit_or a (bit_or b c)
or_regroups a b c = same_from_bits (bit_or (bit_or a b) c) (bit_or a (bit_or b c))
    (λ i.
    bit_at_or (bit_or a b) c i ∙ ap (λ n. max n (bit_at c i)) (bit_at_or a b i) ∙ largest (bit_at a i) (bit_at b i) (bit_at c i)
    ∙ sym (ap (max (bit_at a i)) (bit_at_or b c i)) ∙ sym (bit_at_or a (bit_or b c) i))
  where
    largest : (p q r : ℕ) → max (max p q) r ≡ max p (max q r)
    largest p q r = omega arith

xor_regroups : (a b c : ℕ) → bit_xor (bit_xor a b) c ≡ bit_xor a (bit_xor b c)
xor_regroups a b c = same_from_bits (bit_xor (bit_xor a b) c) (bit_xor a (bit_xor b c))
    (λ i.
    bit_at_xor (bit_xor a b) c i ∙ ap (λ n. (n + bit_at c i) % 2) (bit_at_xor a b i) ∙ odd (bit_at a i) (bit_at b i) (bit_at c i)
    ∙ sym (ap (λ n. (bit_at a i + n) % 2) (bit_at_xor b c i)) ∙ sym (bit_at_xor a (bit_xor b c) i))
  where
    odd : (p q r : ℕ) → ((p + q) % 2 + r) % 2 ≡ (p + (q + r) % 2) % 2
    odd p q r = omega arith

product_regroups : (m a b c : ℕ) → 0 < m → (a * b % m) * c % m ≡ a * (b * c % m) % m
product_regroups m a b c positive =
    congruent_equal m ((a * b % m) * c % m) (a * (b * c % m) % m)
    (congruent_then m ((a * b % m) * c % m) ((a * b % m) * c) (a * (b * c % m) % m) (congruent_mod m ((a * b % m) * c))
    (congruent_then m ((a * b % m) * c) (a * b * c) (a * (b * c % m) % m)
    (congruent_product m (a * b % m) (a * b) c c (congruent_mod m (a * b)) (congruent_same m c c refl))
    (congruent_then m (a * b * c) (a * (b * c)) (a * (b * c % m) % m) (congruent_same m (a * b * c) (a * (b * c)) (omega arith))
    (congruent_sym m (a * (b * c % m) % m) (a * (b * c))
    (congruent_then m (a * (b * c % m) % m) (a * (b * c % m)) (a * (b * c)) (congruent_mod m (a * (b * c % m)))
    (congruent_product m a a (b * c % m) (b * c) (congruent_same m a a refl) (congruent_mod m (b * c))))))))
    (mod_below ((a * b % m) * c) m positive) (mod_below (a * (b * c % m)) m positive)

-- of words: the operation may be done in any order, and there is a number that leaves words as they are
record IsFreeOnWords (count : ℕ) (o : WordOperator) : Type 0 where
  pub free : IsFree ℕ (operation o count)
  pub last : ℕ
  pub last_is : (a : ℕ) → a < 2 ^ count → operation o count a last ≡ a

word_operations : (count : ℕ) (o : WordOperator) → is_commutative (binary.Word o) ≡ true → IsFreeOnWords count o
unfolding is_commutative operation
word_operations count word.And e = record {
  free = record { swaps = and_comm; regroups = λ a b c. and_assoc c a b };
  last = 2 ^ count - 1;
  last_is = and-full_right count;
}
word_operations count word.Or e = record { free = record { swaps = or_comm; regroups = or_regroups }; last = 0; last_is = λ a below. or_zero_r a }
word_operations count word.Xor e = record { free = record { swaps = xor_comm; regroups = xor_regroups }; last = 0; last_is = λ a below. xor_zero_r a }
word_operations count word.Multiply e = record {
  free = record { swaps = λ a b. ap (λ n. n % 2 ^ count) (turned a b); regroups = λ a b c. product_regroups (2 ^ count) a b c (pow_pos count) };
  last = 1;
  last_is = λ a below. ap (λ n. n % 2 ^ count) (one a) ∙ mod-small a (2 ^ count) below;
}
  where
    turned : (a b : ℕ) → a * b ≡ b * a
    turned a b = omega arith

    one : (a : ℕ) → a * 1 ≡ a
    one a = omega arith
word_operations count o e = absurd (cc)

-- of truth values
on_bools : BinaryOperator → Bool → Bool → Bool
on_bools binary.And a b = a && b
on_bools binary.Or a b = a || b
on_bools binary.Equal a b = if a then b else not b
on_bools operator a b = false

record IsFreeOnBools (o : BinaryOperator) : Type 0 where
  pub free : IsFree Bool (on_bools o)
  pub last : Bool
  pub last_is : (a : Bool) → on_bools o a last ≡ a

IsBoolOperator : BinaryOperator → Type 0
IsBoolOperator binary.And = Unit {0}
IsBoolOperator binary.Or = Unit {0}
IsBoolOperator binary.Equal = Unit {0}
IsBoolOperator o = ⊥

bool_operations : (o : BinaryOperator) → IsBoolOperator o → IsFreeOnBools o
unfolding on_bools IsBoolOperator
bool_operations binary.And h = record { free = record { swaps = swaps; regroups = regroups }; last = true; last_is = last_is }
  where
    swaps : (a b : Bool) → (a && b) ≡ (b && a)
    swaps true true = refl
    swaps true false = refl
    swaps false true = refl
    swaps false false = refl

    regroups : (a b c : Bool) → ((a && b) && c) ≡ (a && (b && c))
    regroups true b c = refl
    regroups false b c = refl

    last_is : (a : Bool) → (a && true) ≡ a
    last_is true = refl
    last_is false = refl
bool_operations binary.Or h = record { free = record { swaps = swaps; regroups = regroups }; last = false; last_is = last_is }
  where
    swaps : (a b : Bool) → (a || b) ≡ (b || a)
    swaps true true = refl
    swaps true false = refl
    swaps false true = refl
    swaps false false = refl

    regroups : (a b c : Bool) → ((a || b) || c) ≡ (a || (b || c))
    regroups true b c = refl
    regroups false b c = refl

    last_is : (a : Bool) → (a || false) ≡ a
    last_is true = refl
    last_is false = refl
bool_operations binary.Equal h = record { free = record { swaps = swaps; regroups = regroups }; last = true; last_is = last_is }
  where
    swaps : (a b : Bool) → (if a then b else not b) ≡ (if b then a else not a)
    swaps true true = refl
    swaps true false = refl
    swaps false true = refl
    swaps false false = refl

    regroups : (a b c : Bool) → (if (if a then b else not b) then c else not c) ≡ (if a then (if b then c else not c) else not (if b then c else not c))
    regroups true b c = refl
    regroups false true c = refl
    regroups false false true = refl
    regroups false false false = refl

    last_is : (a : Bool) → (if a then true else not true) ≡ a
    last_is true = refl
    last_is false = refl
bool_operations o h = absurd h

-- ---- values

truth_of_value : Value → Bool
truth_of_value (Truth b) = b
truth_of_value (Number width n) = false
truth_of_value (Bytes memory) = false

module _ (assignment : Assignment) (assigns : IsAssignment assignment) where
  abbrev number : Term → ℕ
  number t = number_of_value (value assignment t)

  abbrev truth_of : Term → Bool
  truth_of t = truth_of_value (value assignment t)

  -- ---- words

  module _ (w : Width) (o : WordOperator) where
    abbrev on : ℕ → ℕ → ℕ
    on = operation o (bits w)

    pub word_made : (x y : Term) → sort_of x ≡ Some (sort.Word w) → sort_of y ≡ Some (sort.Word w) → number (on_words o x y) ≡ on (number x) (number y)
    word_made x y hx hy =
        let vx = word_of assignment assigns w x hx in
        let vy = word_of assignment assigns w y hy in
        ap number_of_value (value-words assignment o w x y vx.0 vy.0 vx.1 vy.1) ∙ ap (λ n. on n vy.0) (sym (ap number_of_value vx.1)) ∙ ap (on (number x)) (sym (ap number_of_value vy.1))

    words_total : IsFree ℕ on → (t : Term) → sort_of t ≡ Some (sort.Word w) → (last : ℕ) → on (number t) last ≡ total ℕ on number (arguments_under (binary.Word o) t) last
    unfolding arguments_under
    words_total free (Binary inner x y) h last = by (is_nested (binary.Word o) inner x) refl (words_total free x) (words_total free y)
      where
        by : (test : Bool) → is_nested (binary.Word o) inner x ≡ test
            → (sort_of x ≡ Some (sort.Word w) → (z : ℕ) → on (number x) z ≡ total ℕ on number (arguments_under (binary.Word o) x) z)
            → (sort_of y ≡ Some (sort.Word w) → (z : ℕ) → on (number y) z ≡ total ℕ on number (arguments_under (binary.Word o) y) z)
            → on (number (Binary inner x y)) last
            ≡ total ℕ on number (cond test (arguments_under (binary.Word o) x ++ arguments_under (binary.Word o) y) (Binary inner x y ∷ [])) last
        by true e first second =
            let both = and_parts (binary_test.ghosts.eq inner (binary.Word o)) (is_associative inner x) e in
            let is : inner ≡ binary.Word o = binary-same inner (binary.Word o) both.0 in
            let parts = words_of o x y (sort.Word w) (ap (λ i. sort_of (Binary i x y)) (sym is) ∙ h) in
            let hx = parts.2 ∙ ap Some (sym parts.1) in
            let hy = parts.3 ∙ ap Some (sym parts.1) in
            total-both ℕ on number free last x y (arguments_under (binary.Word o) x) (arguments_under (binary.Word o) y) (number (Binary inner x y))
            (ap (λ i. number (Binary i x y)) is ∙ word_made x y hx hy) (first hx) (second hy)
        by false e first second = sym (total-one ℕ on number free last (Binary inner x y))
    words_total free t h last = sym (total-one ℕ on number free last t)

    words_same : is_commutative (binary.Word o) ≡ true → (t u : Term) → sort_of t ≡ Some (sort.Word w) → sort_of u ≡ Some (sort.Word w)
        → same_atoms (arguments_under (binary.Word o) t) (arguments_under (binary.Word o) u) ≡ true → value assignment t ≡ value assignment u
    words_same e t u ht hu same =
        let is = word_operations (bits w) o e in
        let vt = word_of assignment assigns w t ht in
        let vu = word_of assignment assigns w u hu in
        let nt : number t ≡ vt.0 = ap number_of_value vt.1 in
        let nu : number u ≡ vu.0 = ap number_of_value vu.1 in
        let one = same_whole ℕ on number is.free is.last t u (arguments_under (binary.Word o) t) (arguments_under (binary.Word o) u)
        (is.last_is (number t) (subst (λ n. n < 2 ^ bits w) (sym nt) vt.2)) (is.last_is (number u) (subst (λ n. n < 2 ^ bits w) (sym nu) vu.2))
        (words_total is.free t ht is.last) (words_total is.free u hu is.last) same in
        vt.1 ∙ ap (Number w) (sym nt ∙ one ∙ nu) ∙ sym vu.1

    words_turned : is_commutative (binary.Word o) ≡ true → (x y : Term) → sort_of x ≡ Some (sort.Word w) → sort_of y ≡ Some (sort.Word w)
        → value assignment (on_words o x y) ≡ value assignment (on_words o y x)
    words_turned e x y hx hy =
        let vx = word_of assignment assigns w x hx in
        let vy = word_of assignment assigns w y hy in
        value-words assignment o w x y vx.0 vy.0 vx.1 vy.1 ∙ ap (Number w) ((word_operations (bits w) o e).free.swaps vx.0 vy.0) ∙ sym (value-words assignment o w y x vy.0 vx.0 vy.1 vx.1)

  -- ---- truth values

  record IsMadeOfBools (o : BinaryOperator) (x y : Term) : Type 0 where
    pub first : sort_of x ≡ Some sort.Truth
    pub second : sort_of y ≡ Some sort.Truth
    pub value_is : truth_of (Binary o x y) ≡ on_bools o (truth_of x) (truth_of y)

  pub value-equal_truths : (x y : Term) (a b : Bool) → value assignment x ≡ Truth a → value assignment y ≡ Truth b → value assignment (equal x y) ≡ Truth (if a then b else not b)
  unfolding value binary_value
  value-equal_truths x y a b ex ey = rw (ex, ey) refl

  made_of : (o : BinaryOperator) (x y : Term) → sort_of x ≡ Some sort.Truth → sort_of y ≡ Some sort.Truth
      → ((a b : Bool) → value assignment x ≡ Truth a → value assignment y ≡ Truth b → value assignment (Binary o x y) ≡ Truth (on_bools o a b)) → IsMadeOfBools o x y
  unfolding truth_of_value
  made_of o x y hx hy is =
      let vx = truth_value_of assignment assigns x hx in
      let vy = truth_value_of assignment assigns y hy in
      record {
        first = hx;
        second = hy;
        value_is = ap truth_of_value (is vx.0 vy.0 vx.1 vy.1) ∙ ap (λ b. on_bools o b vy.0) (sym (ap truth_of_value vx.1)) ∙ ap (on_bools o (truth_of x)) (sym (ap truth_of_value vy.1));
      }

  bool_made : (o : BinaryOperator) (x y : Term) → IsBoolOperator o → is_associative o x ≡ true → sort_of (Binary o x y) ≡ Some sort.Truth → IsMadeOfBools o x y
  unfolding on_bools IsBoolOperator sort_of sort_of_binary
  bool_made binary.And x y is e h =
      let parts = with_two-some (sort_of_binary binary.And) (sort_of x) (sort_of y) sort.Truth h in
      let both = and_parts (is_truth parts.0) (is_truth parts.1) ((sort_if-some _ sort.Truth sort.Truth parts.4).0) in
      made_of binary.And x y (parts.2 ∙ ap Some (same_sort-true parts.0 sort.Truth both.0)) (parts.3 ∙ ap Some (same_sort-true parts.1 sort.Truth both.1)) (value-and assignment x y)
  bool_made binary.Or x y is e h =
      let parts = with_two-some (sort_of_binary binary.Or) (sort_of x) (sort_of y) sort.Truth h in
      let both = and_parts (is_truth parts.0) (is_truth parts.1) ((sort_if-some _ sort.Truth sort.Truth parts.4).0) in
      made_of binary.Or x y (parts.2 ∙ ap Some (same_sort-true parts.0 sort.Truth both.0)) (parts.3 ∙ ap Some (same_sort-true parts.1 sort.Truth both.1)) (value-or assignment x y)
  bool_made binary.Equal x y is e h = by (alike_of x y sort.Truth h).1 (bool_sort x e)
    where
      by : Alike x y → sort_of x ≡ Some sort.Truth → IsMadeOfBools binary.Equal x y
      by (truths hx hy) s = made_of binary.Equal x y hx hy (value-equal_truths x y)
      by (words w hx hy) s = absurd (cc)
  bool_made o x y is e h = absurd is

  module _ (o : BinaryOperator) (is : IsBoolOperator o) where
    bools_total : IsFree Bool (on_bools o) → (t : Term) → sort_of t ≡ Some sort.Truth → (last : Bool) → on_bools o (truth_of t) last ≡ total Bool (on_bools o) truth_of (arguments_under o t) last
    unfolding arguments_under
    bools_total free (Binary inner x y) h last = by (is_nested o inner x) refl (bools_total free x) (bools_total free y)
      where
        by : (test : Bool) → is_nested o inner x ≡ test
            → (sort_of x ≡ Some sort.Truth → (z : Bool) → on_bools o (truth_of x) z ≡ total Bool (on_bools o) truth_of (arguments_under o x) z)
            → (sort_of y ≡ Some sort.Truth → (z : Bool) → on_bools o (truth_of y) z ≡ total Bool (on_bools o) truth_of (arguments_under o y) z)
            → on_bools o (truth_of (Binary inner x y)) last ≡ total Bool (on_bools o) truth_of (cond test (arguments_under o x ++ arguments_under o y) (Binary inner x y ∷ [])) last
        by true e first second =
            let both = and_parts (binary_test.ghosts.eq inner o) (is_associative inner x) e in
            let one : inner ≡ o = binary-same inner o both.0 in
            let made = bool_made o x y is (ap (λ i. is_associative i x) (sym one) ∙ both.1) (ap (λ i. sort_of (Binary i x y)) (sym one) ∙ h) in
            total-both Bool (on_bools o) truth_of free last x y (arguments_under o x) (arguments_under o y) (truth_of (Binary inner x y))
            (ap (λ i. truth_of (Binary i x y)) one ∙ made.value_is) (first made.first) (second made.second)
        by false e first second = sym (total-one Bool (on_bools o) truth_of free last (Binary inner x y))
    bools_total free t h last = sym (total-one Bool (on_bools o) truth_of free last t)

    bools_same : (t u : Term) → sort_of t ≡ Some sort.Truth → sort_of u ≡ Some sort.Truth → same_atoms (arguments_under o t) (arguments_under o u) ≡ true → value assignment t ≡ value assignment u
    unfolding truth_of_value
    bools_same t u ht hu same =
        let able = bool_operations o is in
        let vt = truth_value_of assignment assigns t ht in
        let vu = truth_value_of assignment assigns u hu in
        let one = same_whole Bool (on_bools o) truth_of able.free able.last t u (arguments_under o t) (arguments_under o u) (able.last_is (truth_of t)) (able.last_is (truth_of u))
        (bools_total able.free t ht able.last) (bools_total able.free u hu able.last) same in
        vt.1 ∙ ap Truth (sym (ap truth_of_value vt.1) ∙ one ∙ ap truth_of_value vu.1) ∙ sym vu.1

    bools_turned : (x y : Term) → ((a b : Bool) → value assignment x ≡ Truth a → value assignment y ≡ Truth b → value assignment (Binary o x y) ≡ Truth (on_bools o a b))
        → ((a b : Bool) → value assignment y ≡ Truth a → value assignment x ≡ Truth b → value assignment (Binary o y x) ≡ Truth (on_bools o a b))
        → sort_of x ≡ Some sort.Truth → sort_of y ≡ Some sort.Truth → value assignment (Binary o x y) ≡ value assignment (Binary o y x)
    bools_turned x y first second hx hy =
        let vx = truth_value_of assignment assigns x hx in
        let vy = truth_value_of assignment assigns y hy in
        first vx.0 vy.0 vx.1 vy.1 ∙ ap Truth ((bool_operations o is).free.swaps vx.0 vy.0) ∙ sym (second vy.0 vx.0 vy.1 vx.1)

  -- ---- both arguments the other way round

  equal_turned : (x y : Term) → Alike x y → value assignment (equal x y) ≡ value assignment (equal y x)
  unfolding on_bools IsBoolOperator
  equal_turned x y (truths hx hy) = bools_turned binary.Equal tt x y (value-equal_truths x y) (value-equal_truths y x) hx hy
  equal_turned x y (words w hx hy) =
      let vx = word_of assignment assigns w x hx in
      let vy = word_of assignment assigns w y hy in
      value-equal_words assignment w x y vx.0 vy.0 vx.1 vy.1 ∙ ap Truth (turned vx.0 vy.0) ∙ sym (value-equal_words assignment w y x vy.0 vx.0 vy.1 vx.1)
    where
      turned : (a b : ℕ) → (a == b) ≡ (b == a)
      turned a b = by (a == b) (b == a) refl refl
        where
          by : (p q : Bool) → (a == b) ≡ p → (b == a) ≡ q → p ≡ q
          by true true h k = refl
          by false false h k = refl
          by true false h k = sym (eq-eqb b a (sym (eqb-true a b h))) ∙ k
          by false true h k = sym h ∙ eq-eqb a b (sym (eqb-true b a k))

  either_way : (o : BinaryOperator) (x y : Term) (s : Sort) → is_commutative o ≡ true → sort_of (Binary o x y) ≡ Some s → value assignment (Binary o x y) ≡ value assignment (Binary o y x)
  unfolding is_commutative on_bools IsBoolOperator sort_of sort_of_binary
  either_way binary.And x y s e h =
      let parts = with_two-some (sort_of_binary binary.And) (sort_of x) (sort_of y) s h in
      let both = and_parts (is_truth parts.0) (is_truth parts.1) ((sort_if-some _ sort.Truth s parts.4).0) in
      bools_turned binary.And tt x y (value-and assignment x y) (value-and assignment y x)
      (parts.2 ∙ ap Some (same_sort-true parts.0 sort.Truth both.0)) (parts.3 ∙ ap Some (same_sort-true parts.1 sort.Truth both.1))
  either_way binary.Or x y s e h =
      let parts = with_two-some (sort_of_binary binary.Or) (sort_of x) (sort_of y) s h in
      let both = and_parts (is_truth parts.0) (is_truth parts.1) ((sort_if-some _ sort.Truth s parts.4).0) in
      bools_turned binary.Or tt x y (value-or assignment x y) (value-or assignment y x)
      (parts.2 ∙ ap Some (same_sort-true parts.0 sort.Truth both.0)) (parts.3 ∙ ap Some (same_sort-true parts.1 sort.Truth both.1))
  either_way binary.Equal x y s e h = equal_turned x y (alike_of x y s h).1
  either_way (binary.Word o) x y s e h = let parts = words_of o x y s h in words_turned parts.0 o e x y parts.2 parts.3
  either_way o x y s e h = absurd (cc)

  -- ---- the rule

  one_operator : (o : BinaryOperator) (x y u v : Term) → is_commutative o ≡ true → Alike (Binary o x y) (Binary o u v)
      → same_atoms (arguments_under o (Binary o x y)) (arguments_under o (Binary o u v)) ≡ true → value assignment (Binary o x y) ≡ value assignment (Binary o u v)
  unfolding is_commutative IsBoolOperator sort_of sort_of_binary
  one_operator binary.And x y u v e (truths ht hu) same = bools_same binary.And tt (Binary binary.And x y) (Binary binary.And u v) ht hu same
  one_operator binary.Or x y u v e (truths ht hu) same = bools_same binary.Or tt (Binary binary.Or x y) (Binary binary.Or u v) ht hu same
  one_operator binary.Equal x y u v e (truths ht hu) same = bools_same binary.Equal tt (Binary binary.Equal x y) (Binary binary.Equal u v) ht hu same
  one_operator (binary.Word o) x y u v e (words w ht hu) same = words_same w o e (Binary (binary.Word o) x y) (Binary (binary.Word o) u v) ht hu same
  one_operator (binary.Word o) x y u v e (truths ht hu) same = let parts = words_of o x y sort.Truth ht in absurd (cc (parts.1))
  one_operator binary.And x y u v e (words w ht hu) same = let parts = with_two-some (sort_of_binary binary.And) (sort_of x) (sort_of y) (sort.Word w) ht in absurd (cc ((sort_if-some _ sort.Truth (sort.Word w) parts.4).1))
  one_operator binary.Or x y u v e (words w ht hu) same = let parts = with_two-some (sort_of_binary binary.Or) (sort_of x) (sort_of y) (sort.Word w) ht in absurd (cc ((sort_if-some _ sort.Truth (sort.Word w) parts.4).1))
  one_operator binary.Equal x y u v e (words w ht hu) same = absurd (cc ((alike_of x y (sort.Word w) ht).0))
  one_operator o x y u v e alike same = absurd (cc)

  sorted_first : (t u : Term) → Alike t u → (s : Sort) × (sort_of t ≡ Some s)
  sorted_first t u (truths ht hu) = (sort.Truth, ht)
  sorted_first t u (words w ht hu) = (sort.Word w, ht)

  pub comm_sound : (t u : Term) → Alike t u → same_up_to_order t u ≡ true → value assignment t ≡ value assignment u
  unfolding same_up_to_order
  comm_sound (Binary o x y) (Binary p u v) alike e =
      let first = and_parts (is_commutative o) _ e in
      let second = and_parts (binary_test.ghosts.eq o p) _ first.1 in
      let is : o ≡ p = binary-same o p second.0 in
      either_test (same_term x v && same_term y u) (are_arguments_of_both (arguments_under o (Binary o x y)) (arguments_under o (Binary o u v))) second.1
      (λ turned.
      let both = and_parts (same_term x v) (same_term y u) turned in
      let sorted = sorted_first (Binary o x y) (Binary p u v) alike in
      either_way o x y sorted.0 first.0 sorted.1 ∙ ap (λ t. value assignment (Binary o y t)) (same_is x v both.0) ∙ ap (λ t. value assignment (Binary o t v)) (same_is y u both.1)
      ∙ ap (λ i. value assignment (Binary i u v)) is)
      (λ same.
      let both = and_parts (nat_le (length (arguments_under o (Binary o x y))) ARGUMENTS) (same_atoms (arguments_under o (Binary o x y)) (arguments_under o (Binary o u v))) same in
      one_operator o x y u v first.0 (subst (λ i. Alike (Binary o x y) (Binary i u v)) (sym is) alike) both.1 ∙ ap (λ i. value assignment (Binary i u v)) is)
  comm_sound t u alike e = absurd (cc)
