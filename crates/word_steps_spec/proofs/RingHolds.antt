-- The value of the polynomial of a word is the word's, modulo 2 ^ width.
use Rattle.std.proofs.Common.{◌≡◌, ℕ, zero, suc, ◌+◌, ◌-◌, ◌*◌, ◌/◌, ◌%◌, ◌^◌, ◌<◌, Bool, true, false, cond, List, [], ◌∷◌, map, length, Some, inl, inr, refl, sym, ap, ◌∙◌, subst, arith, eqb-true, div-one}
use Rattle.std.specs.Prelude.{◌==◌, ◌&&◌, ◌||◌, not, if◌then◌else◌, nat_lt, nat_le, min, bit_and, bit_xor}
use Rattle.std.specs.Int.{bit_at}
use Rattle.std.specs.Int.Bits.{xor_add_and}
use Rattle.std.proofs.lemmas.Nat.Bits.{bit_at-lt, bit_at_and, same_from_bits_below}
use Rattle.std.proofs.lemmas.Bool.{and_parts, leb-true}
use Rattle.std.proofs.lemmas.Nat.{pow_pos, pow-add, xor_block, xor_comm, and_le_l, div-add-mod', div_below, mod_below}
use Rattle.term_core_spec.specs.declared.Width.{Width}
use Rattle.term_core_spec.specs.declared.Width.TheVariants.{W8, W16, W32, W64}
use Rattle.term_core_spec.specs.declared.Sort.{Sort}
use Rattle.term_core_spec.specs.declared.Sort.TheVariants as sort
use Rattle.term_core_spec.specs.declared.Atom.TheVariants as atom
use Rattle.term_core_spec.specs.declared.UnaryOperator.{UnaryOperator}
use Rattle.term_core_spec.specs.declared.UnaryOperator.TheVariants as unary
use Rattle.term_core_spec.specs.declared.WordOperator.{WordOperator}
use Rattle.term_core_spec.specs.declared.WordOperator.TheVariants as word
use Rattle.term_core_spec.specs.declared.BinaryOperator.{BinaryOperator}
use Rattle.term_core_spec.specs.declared.BinaryOperator.TheVariants as binary
use Rattle.term_core_spec.specs.declared.TernaryOperator.TheVariants as ternary
use Rattle.term_core_spec.specs.Term.{Term, Leaf, Unary, Binary, Ternary, constant, complement, not_term, and_term, or_term, equal, choose, low, byte, divide, on_words}
use Rattle.term_core_spec.specs.Sort.{bits, sort_if, is_truth, sort_of, sort_of_unary, sort_of_binary}
use Rattle.term_core_spec.specs.Value.{Truth, Number, Assignment, IsAssignment, value, unary_value, operation}
use Rattle.term_core_spec.proofs.Same.{same_is}
use Rattle.term_core_spec.proofs.Sorts.{sort_if-some, with_two-some, same_sort-true}
use Rattle.memory_spec.specs.Runs.{fixed_byte}
use Rattle.term_norm_spec.specs.Fixed.{HoldsFixed}
use Rattle.term_norm_spec.specs.Patterns.{width_of, width_of_sort, is_constant, number_of}
use Rattle.term_norm_spec.specs.Normal.{normal_low}
use Rattle.term_norm_spec.proofs.Numbers.{mod-small, xor-zero_right}
use Rattle.term_norm_spec.proofs.Equals.{Alike, truths, words, alike_of}
use Rattle.term_norm_spec.proofs.Truths.{sort-under_not, truth_value_of, value-not, value-and, value-or, value-choose}
use Rattle.term_norm_spec.proofs.Keeps.{width_is, constant_is, constant_sorted, value-constant}
use Rattle.term_norm_spec.proofs.Words.{sort-words, sort-under_complement, words_of, word_of, value-words, value-complement}
use Rattle.term_norm_spec.proofs.Cuts.{low_of, byte_parts, keeps_low}
use Rattle.word_steps_spec.specs.Numbers.{is_bool}
use Rattle.word_steps_spec.specs.Bitwise.{all_below, is_fixed, bits_of}
use Rattle.word_steps_spec.specs.Polynomial.{Polynomial, MONOMIALS, low_atom, plus, scaled, minus, times, plus_summand, constant_polynomial, atom_polynomial, lowered, bounded, has_small_monomials, number_of_value, product, polynomial_value}
use Rattle.word_steps_spec.specs.Ring.{CHOICE_WIDTH, covers, is_cover, inverted_polynomial, are_few_pairs, condition, choice_polynomial, top_bit, is_top_bit, complement_polynomial, flipped_polynomial, polynomial_of_operation, polynomial_of_unary, polynomial}
use Rattle.word_steps_spec.proofs.Congruence.{IsCongruent, congruent_same, congruent_sym, congruent_then, congruent_plus, congruent_times, congruent_product, congruent_multiple, congruent_mod, congruent_minus, congruent_divisor, congruent_equal}
use Rattle.word_steps_spec.proofs.Polynomials.{plus_summand_value, plus_value, scaled_value, minus_value, times_value, constant_value, atom_value}
use Rattle.word_steps_spec.proofs.Sorts.{bool_sort, sort_bool}
use Rattle.word_steps_spec.proofs.CommHolds.{either_test, value-equal_truths}
use Rattle.word_steps_spec.proofs.BitsHold.{IsChoice, choice_of, all_below_at, bits_are, fixed_value, number_below, number_is_known}
use Rattle.word_steps_spec.proofs.Atoms.{IsAtom, AreAtoms, HasAtoms, plus_summand_atoms, plus_atoms, scaled_atoms, minus_atoms, times_atoms, constant_atoms}

-- the number of a word
number_same : (w v : Width) (a b : ℕ) → Number w a ≡ Number v b → a ≡ b
number_same w v a b e = ap number_of_value e

-- a word with the top bit flipped is the word with the top bit added
pub top_flipped : (w : Width) (i : ℕ) → i < 2 ^ bits w → IsCongruent (2 ^ bits w) (2 ^ (bits w - 1) + i) (bit_xor i (2 ^ (bits w - 1)))
top_flipped w i below = subst (λ m. IsCongruent m (2 ^ (bits w - 1) + i) (bit_xor i (2 ^ (bits w - 1)))) (sym (doubled w)) (flipped (bits w - 1) i (subst (λ m. i < m) (doubled w) below))
  where
    doubled : (w : Width) → 2 ^ bits w ≡ 2 * 2 ^ (bits w - 1)
    doubled W8 = refl
    doubled W16 = refl
    doubled W32 = refl
    doubled W64 = refl

    halves : (k h r : ℕ) → h < 2 → r < 2 ^ k → IsCongruent (2 * 2 ^ k) (2 ^ k + (h * 2 ^ k + r)) (bit_xor (h * 2 ^ k + r) (1 * 2 ^ k + 0))
    halves k zero r two below =
        congruent_same (2 * 2 ^ k) (2 ^ k + (0 * 2 ^ k + r)) (bit_xor (0 * 2 ^ k + r) (1 * 2 ^ k + 0))
        (let e = xor_block k 0 1 r 0 below (pow_pos k) in
        let d = xor-zero_right r 0 refl in
        let one : bit_xor 0 1 ≡ 1 = refl in
        sym (e ∙ ap (λ n. n * 2 ^ k + bit_xor r 0) one ∙ ap (λ n. 1 * 2 ^ k + n) d ∙ sum (2 ^ k) r))
      where
        sum : (a r : ℕ) → 1 * a + r ≡ a + (0 * a + r)
        sum a r = omega arith
    halves k (suc zero) r two below =
        let e = xor_block k 1 1 r 0 below (pow_pos k) in
        let d = xor-zero_right r 0 refl in
        let none : bit_xor 1 1 ≡ 0 = refl in
        congruent_then (2 * 2 ^ k) (2 ^ k + (1 * 2 ^ k + r)) (1 * (2 * 2 ^ k) + r) (bit_xor (1 * 2 ^ k + r) (1 * 2 ^ k + 0))
        (congruent_same (2 * 2 ^ k) (2 ^ k + (1 * 2 ^ k + r)) (1 * (2 * 2 ^ k) + r) (sum (2 ^ k) r))
        (congruent_then (2 * 2 ^ k) (1 * (2 * 2 ^ k) + r) r (bit_xor (1 * 2 ^ k + r) (1 * 2 ^ k + 0)) (congruent_multiple (2 * 2 ^ k) 1 r)
        (congruent_same (2 * 2 ^ k) r (bit_xor (1 * 2 ^ k + r) (1 * 2 ^ k + 0)) (sym (e ∙ ap (λ n. n * 2 ^ k + bit_xor r 0) none ∙ ap (λ n. 0 * 2 ^ k + n) d ∙ only (2 ^ k) r))))
      where
        sum : (a r : ℕ) → a + (1 * a + r) ≡ 1 * (2 * a) + r
        sum a r = omega arith

        only : (a r : ℕ) → 0 * a + r ≡ r
        only a r = omega arith
    halves k (suc (suc h)) r two below = absurd (omega arith)

    flipped : (k i : ℕ) → i < 2 * 2 ^ k → IsCongruent (2 * 2 ^ k) (2 ^ k + i) (bit_xor i (2 ^ k))
    flipped k i below =
        let parts = div-add-mod' i (2 ^ k) in
        let power : 1 * 2 ^ k + 0 ≡ 2 ^ k = omega arith in
        subst (λ n. IsCongruent (2 * 2 ^ k) (2 ^ k + i) (bit_xor i n)) power
        (subst (λ n. IsCongruent (2 * 2 ^ k) (2 ^ k + n) (bit_xor n (1 * 2 ^ k + 0))) parts
        (halves k (i / 2 ^ k) (i % 2 ^ k) (div_below i (2 ^ k) 2 (pow_pos k) below) (mod_below i (2 ^ k) (pow_pos k))))

-- a number that has only bits of n, flipped at all places of n
inverted_sum : (a n : ℕ) → bit_and a n ≡ a → bit_xor a n + a ≡ n
inverted_sum a n e = let sum = xor_add_and a n in omega arith

module _ (assignment : Assignment) (assigns : IsAssignment assignment) where
  covered_bits : (w : Width) (y x : Term) → sort_of y ≡ Some (sort.Word w) → sort_of x ≡ Some (sort.Word w) → is_cover (bits w) y x ≡ true
      → bit_and (number_of_value (value assignment x)) (number_of_value (value assignment y)) ≡ number_of_value (value assignment x)
  covered_bits w y x hy hx e =
      let both = and_parts (nat_le CHOICE_WIDTH (bits w)) (is_constant y && covers (number_of y) x) e in
      let tests = and_parts (is_constant y) (covers (number_of y) x) both.1 in
      let small = number_below assignment assigns w x hx in
      let all = subst (λ u. all_below (bits u) (λ i. bit_at (number_of y) i == 1 || is_fixed false (bits_of x i)) ≡ true) (width_is x w hx) tests.1 in
      ap (bit_and (number_of_value (value assignment x))) (number_is_known assignment assigns w y hy tests.0)
      ∙ same_from_bits_below (bits w) (bit_and (number_of_value (value assignment x)) (number_of y)) (number_of_value (value assignment x))
      (below_too (number_of_value (value assignment x)) (number_of y) (2 ^ bits w) small) small
      (λ i l.
      bit_at_and (number_of_value (value assignment x)) (number_of y) i
      ∙ either_test (bit_at (number_of y) i == 1) (is_fixed false (bits_of x i)) (all_below_at (bits w) (λ k. bit_at (number_of y) k == 1 || is_fixed false (bits_of x k)) all i l)
      (λ one. least_one (bit_at (number_of_value (value assignment x)) i) (bit_at (number_of y) i) (bit_at-lt (number_of_value (value assignment x)) i) (eqb-true (bit_at (number_of y) i) 1 one))
      (λ none.
      least_none (bit_at (number_of_value (value assignment x)) i) (bit_at (number_of y) i)
      (sym (bits_are assignment assigns x w hx i l) ∙ fixed_value assignment assigns false (bits_of x i) none)))
    where
      below_too : (a n m : ℕ) → a < m → bit_and a n < m
      below_too a n m l = let le = and_le_l a n in omega arith

      least_one : (a b : ℕ) → a < 2 → b ≡ 1 → min a b ≡ a
      least_one a b l e = omega arith

      least_none : (a b : ℕ) → a ≡ 0 → min a b ≡ a
      least_none a b e = omega arith

  abbrev pv : Polynomial → ℕ
  pv p = polynomial_value assignment p

  pub record IsPolynomialOf (w : Width) (t : Term) (p : Polynomial) : Type 0 where
    pub atoms : HasAtoms w p
    pub value_is : (n : ℕ) → value assignment t ≡ Number w n → IsCongruent (2 ^ bits w) (polynomial_value assignment p) n

  atom_is : (w : Width) (t : Term) → sort_of t ≡ Some (sort.Word w) → IsPolynomialOf w t (atom_polynomial t)
  atom_is w t h = record {
    atoms = ((inl h, tt), tt);
    value_is = λ n e. congruent_same (2 ^ bits w) (pv (atom_polynomial t)) n (atom_value assignment t ∙ ap number_of_value e);
  }

  if_is : (w : Width) (t : Term) (test : Bool) (p : Polynomial) → sort_of t ≡ Some (sort.Word w) → (test ≡ true → IsPolynomialOf w t p) → IsPolynomialOf w t (cond test p (atom_polynomial t))
  if_is w t true p h f = f refl
  if_is w t false p h f = atom_is w t h

  bounded_is : (w : Width) (t : Term) (p : Polynomial) → sort_of t ≡ Some (sort.Word w) → IsPolynomialOf w t p → IsPolynomialOf w t (bounded t p)
  bounded_is w t p h is = if_is w t (nat_le (length p) MONOMIALS && has_small_monomials p) p h (λ e. is)

  -- ---- operations on words x and y, of the polynomials p and q

  module _ (w : Width) (x y : Term) (hx : sort_of x ≡ Some (sort.Word w)) (hy : sort_of y ≡ Some (sort.Word w)) (p q : Polynomial)
      (of_x : IsPolynomialOf w x p) (of_y : IsPolynomialOf w y q) where
    abbrev c : ℕ
    c = bits w

    abbrev m : ℕ
    m = 2 ^ bits w

    -- what the operation gives of the numbers i and j of x and y
    abbrev Gives : WordOperator → (ℕ → ℕ → ℕ → Type 0) → Type 0
    Gives o G = (i j : ℕ) → i < m → j < m → value assignment x ≡ Number w i → value assignment y ≡ Number w j
        → IsCongruent m (pv p) i → IsCongruent m (pv q) j → G i j (operation o c i j)

    of_operation : (o : WordOperator) (r : Polynomial) → HasAtoms w r → Gives o (λ i j n. IsCongruent m (pv r) n) → IsPolynomialOf w (on_words o x y) r
    of_operation o r atoms f = record {
      atoms = atoms;
      value_is = λ n e.
          let vx = word_of assignment assigns w x hx in
          let vy = word_of assignment assigns w y hy in
          subst (λ k. IsCongruent m (pv r) k) (number_same w w (operation o c vx.0 vy.0) n (sym (value-words assignment o w x y vx.0 vy.0 vx.1 vy.1) ∙ e))
          (f vx.0 vy.0 vx.2 vy.2 vx.1 vy.1 (of_x.value_is vx.0 vx.1) (of_y.value_is vy.0 vy.1));
    }

    add_is : IsPolynomialOf w (on_words word.Add x y) (plus c p q)
    unfolding operation
    add_is = of_operation word.Add (plus c p q) (plus_atoms w c p q of_x.atoms of_y.atoms) (λ i j bi bj vi vj ci cj.
        congruent_then m (pv (plus c p q)) (pv p + pv q) ((i + j) % m) (plus_value assignment c p q)
        (congruent_then m (pv p + pv q) (i + j) ((i + j) % m) (congruent_plus m (pv p) i (pv q) j ci cj) (congruent_sym m ((i + j) % m) (i + j) (congruent_mod m (i + j)))))

    -- a difference, from what it gives with the subtrahend added
    by_sum : (r s : Polynomial) (i k n : ℕ) → IsCongruent m (pv (minus c r s) + pv s) (pv r) → IsCongruent m (pv r) i → IsCongruent m (pv s) k → IsCongruent m (n + k) i
        → IsCongruent m (pv (minus c r s)) n
    by_sum r s i k n difference ci ck sum =
        congruent_minus m (pv (minus c r s)) n (pv s)
        (congruent_then m (pv (minus c r s) + pv s) (pv r) (n + pv s) difference
        (congruent_then m (pv r) i (n + pv s) ci
        (congruent_then m i (n + k) (n + pv s) (congruent_sym m (n + k) i sum)
        (congruent_plus m n n k (pv s) (congruent_same m n n refl) (congruent_sym m (pv s) k ck)))))

    subtract_is : IsPolynomialOf w (on_words word.Subtract x y) (minus c p q)
    unfolding operation
    subtract_is = of_operation word.Subtract (minus c p q) (minus_atoms w c p q of_x.atoms of_y.atoms) (λ i j bi bj vi vj ci cj.
        let small : j % m ≡ j = mod-small j m bj in
        let whole : i + (m - j) + j ≡ 1 * m + i = omega arith in
        by_sum p q i j ((i + (m - j % m)) % m) (minus_value assignment c p q) ci cj
        (congruent_then m ((i + (m - j % m)) % m + j) (i + (m - j) + j) i
        (congruent_plus m ((i + (m - j % m)) % m) (i + (m - j)) j j
        (congruent_then m ((i + (m - j % m)) % m) (i + (m - j % m)) (i + (m - j)) (congruent_mod m (i + (m - j % m)))
        (congruent_same m (i + (m - j % m)) (i + (m - j)) (ap (λ k. i + (m - k)) small)))
        (congruent_same m j j refl))
        (congruent_then m (i + (m - j) + j) (1 * m + i) i (congruent_same m (i + (m - j) + j) (1 * m + i) whole) (congruent_multiple m 1 i))))

    multiply_is : IsPolynomialOf w (on_words word.Multiply x y) (times c p q)
    unfolding operation
    multiply_is = of_operation word.Multiply (times c p q) (times_atoms w c p q of_x.atoms of_y.atoms) (λ i j bi bj vi vj ci cj.
        congruent_then m (pv (times c p q)) (pv p * pv q) ((i * j) % m) (times_value assignment c assigns p q)
        (congruent_then m (pv p * pv q) (i * j) ((i * j) % m) (congruent_product m (pv p) i (pv q) j ci cj) (congruent_sym m ((i * j) % m) (i * j) (congruent_mod m (i * j)))))

    shift_is : is_constant y ≡ true → nat_lt (number_of y) c ≡ true → IsPolynomialOf w (on_words word.ShiftLeft x y) (scaled c (2 ^ number_of y) p)
    unfolding operation
    shift_is known less = of_operation word.ShiftLeft (scaled c (2 ^ number_of y) p) (scaled_atoms w c (2 ^ number_of y) p of_x.atoms) (λ i j bi bj vi vj ci cj.
        let number : j ≡ number_of y = number_same w w j (number_of y) (sym vj ∙ ap (value assignment) (constant_is w y hy known).0 ∙ value-constant assignment w (number_of y)) in
        let test : nat_lt j c ≡ true = ap (λ k. nat_lt k c) number ∙ less in
        subst (λ b. IsCongruent m (pv (scaled c (2 ^ number_of y) p)) (cond b ((i * 2 ^ j) % m) 0)) (sym test)
        (congruent_then m (pv (scaled c (2 ^ number_of y) p)) (2 ^ number_of y * pv p) ((i * 2 ^ j) % m) (scaled_value assignment c (2 ^ number_of y) p)
        (congruent_then m (2 ^ number_of y * pv p) (2 ^ number_of y * i) ((i * 2 ^ j) % m) (congruent_times m (2 ^ number_of y) (pv p) i ci)
        (congruent_then m (2 ^ number_of y * i) (i * 2 ^ j) ((i * 2 ^ j) % m) (congruent_same m (2 ^ number_of y * i) (i * 2 ^ j) (turned (2 ^ number_of y) i ∙ ap (λ k. i * 2 ^ k) (sym number)))
        (congruent_sym m ((i * 2 ^ j) % m) (i * 2 ^ j) (congruent_mod m (i * 2 ^ j)))))))
      where
        turned : (a b : ℕ) → a * b ≡ b * a
        turned a b = omega arith

    remainder_is : IsPolynomialOf w (on_words word.Remainder x y) (minus c p (times c q (atom_polynomial (divide x y))))
    unfolding operation
    remainder_is =
        of_operation word.Remainder (minus c p (times c q (atom_polynomial (divide x y))))
        (minus_atoms w c p (times c q (atom_polynomial (divide x y))) of_x.atoms (times_atoms w c q (atom_polynomial (divide x y)) of_y.atoms (atom_is w (divide x y) (sort-words word.Divide w x y hx hy)).atoms))
        (λ i j bi bj vi vj ci cj.
        let d : ℕ = operation word.Divide c i j in
        let quotient = (atom_is w (divide x y) (sort-words word.Divide w x y hx hy)).value_is d (value-words assignment word.Divide w x y i j vi vj) in
        by_sum p (times c q (atom_polynomial (divide x y))) i (j * d) (cond (j == 0) i (i % j)) (minus_value assignment c p (times c q (atom_polynomial (divide x y)))) ci
        (congruent_then m (pv (times c q (atom_polynomial (divide x y)))) (pv q * pv (atom_polynomial (divide x y))) (j * d) (times_value assignment c assigns q (atom_polynomial (divide x y)))
        (congruent_product m (pv q) j (pv (atom_polynomial (divide x y))) d cj quotient))
        (congruent_same m (cond (j == 0) i (i % j) + j * d) i (divided i j (j == 0) refl)))
      where
        divided : (i j : ℕ) (test : Bool) → (j == 0) ≡ test → cond test i (i % j) + j * cond test (2 ^ bits w - 1) (i / j) ≡ i
        divided i j true e = let none : j ≡ 0 = eqb-true j 0 e in rw none (omega arith)
        divided i j false e = let parts = div-add-mod' i j in swap i j (i / j) (i % j) parts
          where
            swap : (i j a b : ℕ) → a * j + b ≡ i → b + j * a ≡ i
            swap i j a b e = omega arith

    -- ---- all bits that a word may have flipped

    invert_second : is_cover c y x ≡ true → IsPolynomialOf w (on_words word.Xor x y) (minus c q p)
    unfolding operation
    invert_second e = of_operation word.Xor (minus c q p) (minus_atoms w c q p of_y.atoms of_x.atoms) (λ i j bi bj vi vj ci cj.
        let covered = covered_bits w y x hy hx e in
        let sum = inverted_sum i j (subst (λ k. bit_and i k ≡ i) (ap number_of_value vj) (subst (λ k. bit_and k (number_of_value (value assignment y)) ≡ k) (ap number_of_value vi) covered)) in
        by_sum q p j i (bit_xor i j) (minus_value assignment c q p) cj ci (congruent_same m (bit_xor i j + i) j sum))

    invert_first : is_cover c x y ≡ true → IsPolynomialOf w (on_words word.Xor x y) (minus c p q)
    unfolding operation
    invert_first e = of_operation word.Xor (minus c p q) (minus_atoms w c p q of_x.atoms of_y.atoms) (λ i j bi bj vi vj ci cj.
        let covered = covered_bits w x y hx hy e in
        let sum = inverted_sum j i (subst (λ k. bit_and j k ≡ j) (ap number_of_value vi) (subst (λ k. bit_and k (number_of_value (value assignment x)) ≡ k) (ap number_of_value vj) covered)) in
        by_sum p q i j (bit_xor i j) (minus_value assignment c p q) ci cj (congruent_same m (bit_xor i j + j) i (ap (λ n. n + j) (xor_comm i j) ∙ sum)))

    -- ---- the top bit flipped

    top_number : (z : Term) → sort_of z ≡ Some (sort.Word w) → is_top_bit z ≡ true → (k : ℕ) → value assignment z ≡ Number w k → (k ≡ top_bit z) × (top_bit z ≡ 2 ^ (bits w - 1))
    top_number z hz e k vk = (
      number_same w (width_of z) k (top_bit z) (sym vk ∙ ap (value assignment) (same_is z (constant (width_of z) (top_bit z)) e) ∙ value-constant assignment (width_of z) (top_bit z)),
      ap (λ v. 2 ^ (bits v - 1)) (width_is z w hz),
    )

    flip_value : (r : Polynomial) (t i : ℕ) → i < m → t ≡ 2 ^ (bits w - 1) → IsCongruent m (pv r) i → IsCongruent m (pv (plus c (constant_polynomial c t) r)) (bit_xor i t)
    flip_value r t i below e ci =
        congruent_then m (pv (plus c (constant_polynomial c t) r)) (pv (constant_polynomial c t) + pv r) (bit_xor i t) (plus_value assignment c (constant_polynomial c t) r)
        (congruent_then m (pv (constant_polynomial c t) + pv r) (t + i) (bit_xor i t)
        (congruent_plus m (pv (constant_polynomial c t)) t (pv r) i (constant_value assignment c t) ci)
        (subst (λ k. IsCongruent m (k + i) (bit_xor i k)) (sym e) (top_flipped w i below)))

    flip_second : is_top_bit y ≡ true → IsPolynomialOf w (on_words word.Xor x y) (plus c (constant_polynomial c (top_bit y)) p)
    unfolding operation
    flip_second e =
        of_operation word.Xor (plus c (constant_polynomial c (top_bit y)) p) (plus_atoms w c (constant_polynomial c (top_bit y)) p (constant_atoms w c (top_bit y)) of_x.atoms) (λ i j bi bj vi vj ci cj.
        let top = top_number y hy e j vj in
        subst (λ k. IsCongruent m (pv (plus c (constant_polynomial c (top_bit y)) p)) (bit_xor i k)) (sym top.0) (flip_value p (top_bit y) i bi top.1 ci))

    flip_first : is_top_bit x ≡ true → IsPolynomialOf w (on_words word.Xor x y) (plus c (constant_polynomial c (top_bit x)) q)
    unfolding operation
    flip_first e =
        of_operation word.Xor (plus c (constant_polynomial c (top_bit x)) q) (plus_atoms w c (constant_polynomial c (top_bit x)) q (constant_atoms w c (top_bit x)) of_y.atoms) (λ i j bi bj vi vj ci cj.
        let top = top_number x hx e i vi in
        subst (λ k. IsCongruent m (pv (plus c (constant_polynomial c (top_bit x)) q)) k) (xor_comm j (top_bit x) ∙ ap (λ k. bit_xor k j) (sym top.0))
        (flip_value q (top_bit x) j bj top.1 cj))

    pub operation_is : (o : WordOperator) → IsPolynomialOf w (on_words o x y) (polynomial_of_operation o x y p q)
    unfolding polynomial_of_operation
    operation_is word.Add = rw (width_is x w hx) (bounded_is w (on_words word.Add x y) (plus c p q) (sort-words word.Add w x y hx hy) add_is)
    operation_is word.Subtract = rw (width_is x w hx) (bounded_is w (on_words word.Subtract x y) (minus c p q) (sort-words word.Subtract w x y hx hy) subtract_is)
    operation_is word.Multiply =
        rw (width_is x w hx)
        (if_is w (on_words word.Multiply x y) (nat_le (length p * length q) MONOMIALS) (bounded (on_words word.Multiply x y) (times c p q)) (sort-words word.Multiply w x y hx hy)
        (λ e. bounded_is w (on_words word.Multiply x y) (times c p q) (sort-words word.Multiply w x y hx hy) multiply_is))
    operation_is word.ShiftLeft =
        rw (width_is x w hx)
        (if_is w (on_words word.ShiftLeft x y) (is_constant y && nat_lt (number_of y) c) (bounded (on_words word.ShiftLeft x y) (scaled c (2 ^ number_of y) p)) (sort-words word.ShiftLeft w x y hx hy)
        (λ e.
        let both = and_parts (is_constant y) (nat_lt (number_of y) c) e in
        bounded_is w (on_words word.ShiftLeft x y) (scaled c (2 ^ number_of y) p) (sort-words word.ShiftLeft w x y hx hy) (shift_is both.0 both.1)))
    operation_is word.Xor =
        subst (λ v. IsPolynomialOf w (on_words word.Xor x y) (flipped_polynomial (bits v) (on_words word.Xor x y) x y p q)) (sym (width_is x w hx))
        (first (is_top_bit y) refl)
      where
        second : (test : Bool) → is_cover c x y ≡ test
            → IsPolynomialOf w (on_words word.Xor x y) (cond test (bounded (on_words word.Xor x y) (minus c p q)) (atom_polynomial (on_words word.Xor x y)))
        second true e = bounded_is w (on_words word.Xor x y) (minus c p q) (sort-words word.Xor w x y hx hy) (invert_first e)
        second false e = atom_is w (on_words word.Xor x y) (sort-words word.Xor w x y hx hy)

        inverted : (test : Bool) → is_cover c y x ≡ test
            → IsPolynomialOf w (on_words word.Xor x y) (cond test (bounded (on_words word.Xor x y) (minus c q p))
            (cond (is_cover c x y) (bounded (on_words word.Xor x y) (minus c p q)) (atom_polynomial (on_words word.Xor x y))))
        inverted true e = bounded_is w (on_words word.Xor x y) (minus c q p) (sort-words word.Xor w x y hx hy) (invert_second e)
        inverted false e = second (is_cover c x y) refl

        last : (test : Bool) → is_top_bit x ≡ test
            → IsPolynomialOf w (on_words word.Xor x y) (cond test (bounded (on_words word.Xor x y) (plus c (constant_polynomial c (top_bit x)) q)) (inverted_polynomial c (on_words word.Xor x y) x y p q))
        last true e = bounded_is w (on_words word.Xor x y) (plus c (constant_polynomial c (top_bit x)) q) (sort-words word.Xor w x y hx hy) (flip_first e)
        last false e = inverted (is_cover c y x) refl

        first : (test : Bool) → is_top_bit y ≡ test
            → IsPolynomialOf w (on_words word.Xor x y) (cond test (bounded (on_words word.Xor x y) (plus c (constant_polynomial c (top_bit y)) p))
            (cond (is_top_bit x) (bounded (on_words word.Xor x y) (plus c (constant_polynomial c (top_bit x)) q)) (inverted_polynomial c (on_words word.Xor x y) x y p q)))
        first true e = bounded_is w (on_words word.Xor x y) (plus c (constant_polynomial c (top_bit y)) p) (sort-words word.Xor w x y hx hy) (flip_second e)
        first false e = last (is_top_bit x) refl
    operation_is word.Remainder =
        rw (width_is x w hx)
        (bounded_is w (on_words word.Remainder x y) (minus c p (times c q (atom_polynomial (divide x y)))) (sort-words word.Remainder w x y hx hy) remainder_is)
    operation_is word.And = atom_is w (on_words word.And x y) (sort-words word.And w x y hx hy)
    operation_is word.Or = atom_is w (on_words word.Or x y) (sort-words word.Or w x y hx hy)
    operation_is word.ShiftRight = atom_is w (on_words word.ShiftRight x y) (sort-words word.ShiftRight w x y hx hy)
    operation_is word.ShiftRightSigned = atom_is w (on_words word.ShiftRightSigned x y) (sort-words word.ShiftRightSigned w x y hx hy)
    operation_is word.Divide = atom_is w (on_words word.Divide x y) (sort-words word.Divide w x y hx hy)

  -- ---- low bits

  holds_none : HoldsFixed [] assignment
  unfolding fixed_byte
  holds_none v f memory e address byte at = absurd (cc)

  module _ (w v : Width) (le : nat_le (bits w) (bits v) ≡ true) where
    sort-low : (t : Term) → sort_of t ≡ Some (sort.Word v) → sort_of (low w t) ≡ Some (sort.Word w)
    unfolding sort_of sort_of_unary
    sort-low t h = rw (h, le) refl

    value-low : (t : Term) (i : ℕ) → value assignment t ≡ Number v i → value assignment (low w t) ≡ Number w (i % 2 ^ bits w)
    unfolding value unary_value
    value-low t i e = rw e refl

    low_number : (t : Term) → sort_of t ≡ Some (sort.Word v) → IsCongruent (2 ^ bits w) (number_of_value (value assignment (normal_low w t))) (number_of_value (value assignment t))
    low_number t h =
        let vt = word_of assignment assigns v t h in
        let is : value assignment (normal_low w t) ≡ Number w (vt.0 % 2 ^ bits w) =
        (keeps_low [] w t (sort-low t h)).value_is assignment assigns holds_none ∙ value-low t vt.0 vt.1 in
        congruent_then (2 ^ bits w) (number_of_value (value assignment (normal_low w t))) (vt.0 % 2 ^ bits w) (number_of_value (value assignment t))
        (congruent_same (2 ^ bits w) (number_of_value (value assignment (normal_low w t))) (vt.0 % 2 ^ bits w) (ap number_of_value is))
        (congruent_then (2 ^ bits w) (vt.0 % 2 ^ bits w) vt.0 (number_of_value (value assignment t)) (congruent_mod (2 ^ bits w) vt.0)
        (congruent_same (2 ^ bits w) vt.0 (number_of_value (value assignment t)) (sym (ap number_of_value vt.1))))

    low_atom_number : (t : Term) → IsAtom v t → IsCongruent (2 ^ bits w) (number_of_value (value assignment (low_atom w t))) (number_of_value (value assignment t))
    low_atom_number t h = by (is_bool t) refl h
      where
        by : (test : Bool) → is_bool t ≡ test → IsAtom v t → IsCongruent (2 ^ bits w) (number_of_value (value assignment (cond test t (normal_low w t)))) (number_of_value (value assignment t))
        by true e h = congruent_same (2 ^ bits w) (number_of_value (value assignment t)) (number_of_value (value assignment t)) refl
        by false e (inl h) = low_number t h
        by false e (inr h) = let d = sort_bool t h in absurd (cc)

    low_atom_is : (t : Term) → IsAtom v t → IsAtom w (low_atom w t)
    low_atom_is t h = by (is_bool t) refl h
      where
        by : (test : Bool) → is_bool t ≡ test → IsAtom v t → IsAtom w (cond test t (normal_low w t))
        by true e h = inr (bool_sort t e)
        by false e (inl h) = inl ((keeps_low [] w t (sort-low t h)).sorted)
        by false e (inr h) = let d = sort_bool t h in absurd (cc)

    low_product : (ts : List Term) → AreAtoms v ts → IsCongruent (2 ^ bits w) (product assignment (map (low_atom w) ts)) (product assignment ts)
    unfolding product
    low_product [] h = congruent_same (2 ^ bits w) 1 1 refl
    low_product (t ∷ ts) h =
        congruent_product (2 ^ bits w) (number_of_value (value assignment (low_atom w t))) (number_of_value (value assignment t))
        (product assignment (map (low_atom w) ts)) (product assignment ts) (low_atom_number t h.0) (low_product ts h.1)

    low_words : (ts : List Term) → AreAtoms v ts → AreAtoms w (map (low_atom w) ts)
    low_words [] h = tt
    low_words (t ∷ ts) h = (low_atom_is t h.0, low_words ts h.1)

    lowered_atoms : (p : Polynomial) → HasAtoms v p → HasAtoms w (lowered w p)
    unfolding lowered
    lowered_atoms [] h = tt
    lowered_atoms (s ∷ p) h = plus_summand_atoms w (bits w) s.coefficient (map (low_atom w) s.atoms) (lowered w p) (low_words s.atoms h.0) (lowered_atoms p h.1)

    lowered_value : (p : Polynomial) → HasAtoms v p → IsCongruent (2 ^ bits w) (pv (lowered w p)) (pv p)
    unfolding lowered polynomial_value
    lowered_value [] h = congruent_same (2 ^ bits w) 0 0 refl
    lowered_value (s ∷ p) h =
        congruent_then (2 ^ bits w) (pv (plus_summand (bits w) s.coefficient (map (low_atom w) s.atoms) (lowered w p)))
        (s.coefficient * product assignment (map (low_atom w) s.atoms) + pv (lowered w p)) (s.coefficient * product assignment s.atoms + pv p)
        (plus_summand_value assignment (bits w) s.coefficient (map (low_atom w) s.atoms) (lowered w p))
        (congruent_plus (2 ^ bits w) (s.coefficient * product assignment (map (low_atom w) s.atoms)) (s.coefficient * product assignment s.atoms) (pv (lowered w p)) (pv p)
        (congruent_times (2 ^ bits w) s.coefficient (product assignment (map (low_atom w) s.atoms)) (product assignment s.atoms) (low_product s.atoms h.0))
        (lowered_value p h.1))

    -- the low bits of t, of the polynomial p
    lowered_is : (t u : Term) (p : Polynomial) → IsPolynomialOf v t p → sort_of t ≡ Some (sort.Word v) → ((i : ℕ) → value assignment t ≡ Number v i → value assignment u ≡ Number w (i % 2 ^ bits w))
        → IsPolynomialOf w u (lowered w p)
    lowered_is t u p is h says = record {
      atoms = lowered_atoms p is.atoms;
      value_is = λ n e.
          let vt = word_of assignment assigns v t h in
          let number : vt.0 % 2 ^ bits w ≡ n = number_same w w (vt.0 % 2 ^ bits w) n (sym (says vt.0 vt.1) ∙ e) in
          congruent_then (2 ^ bits w) (pv (lowered w p)) (pv p) n (lowered_value p is.atoms)
          (congruent_then (2 ^ bits w) (pv p) vt.0 n
          (divisor (pv p) vt.0 (is.value_is vt.0 vt.1))
          (congruent_then (2 ^ bits w) vt.0 (vt.0 % 2 ^ bits w) n (congruent_sym (2 ^ bits w) (vt.0 % 2 ^ bits w) vt.0 (congruent_mod (2 ^ bits w) vt.0))
          (congruent_same (2 ^ bits w) (vt.0 % 2 ^ bits w) n number)));
    }
      where
        divisor : (a b : ℕ) → IsCongruent (2 ^ bits v) a b → IsCongruent (2 ^ bits w) a b
        divisor a b h =
            let sum : bits v ≡ (bits v - bits w) + bits w = le_sum (bits w) (bits v) le in
            congruent_divisor (2 ^ (bits v - bits w)) (2 ^ bits w) a b (subst (λ k. IsCongruent k a b) (ap (λ k. 2 ^ k) sum ∙ pow-add 2 (bits v - bits w) (bits w)) h)
          where
            le_sum : (a b : ℕ) → nat_le a b ≡ true → b ≡ (b - a) + a
            le_sum a b e = let f = leb-true a b e in omega arith

  -- ---- operators on one word

  complement_is : (w : Width) (x : Term) (p : Polynomial) → sort_of x ≡ Some (sort.Word w) → IsPolynomialOf w x p → IsPolynomialOf w (complement x) (complement_polynomial (bits w) p)
  complement_is w x p hx is = record {
    atoms = plus_atoms w (bits w) (scaled (bits w) (2 ^ bits w - 1) p) (constant_polynomial (bits w) (2 ^ bits w - 1)) (scaled_atoms w (bits w) (2 ^ bits w - 1) p is.atoms) (constant_atoms w (bits w) (2 ^ bits w - 1));
    value_is = λ n e.
        let vx = word_of assignment assigns w x hx in
        let number : 2 ^ bits w - 1 - vx.0 ≡ n = number_same w w (2 ^ bits w - 1 - vx.0) n (sym (value-complement assignment w x vx.0 vx.1 vx.2) ∙ e) in
        let m : ℕ = 2 ^ bits w in
        congruent_then (2 ^ bits w) (pv (complement_polynomial (bits w) p)) (pv (scaled (bits w) (2 ^ bits w - 1) p) + pv (constant_polynomial (bits w) (2 ^ bits w - 1))) n
        (plus_value assignment (bits w) (scaled (bits w) (2 ^ bits w - 1) p) (constant_polynomial (bits w) (2 ^ bits w - 1)))
        (congruent_then (2 ^ bits w) (pv (scaled (bits w) (2 ^ bits w - 1) p) + pv (constant_polynomial (bits w) (2 ^ bits w - 1))) ((2 ^ bits w - 1) * vx.0 + (2 ^ bits w - 1)) n
        (congruent_plus (2 ^ bits w) (pv (scaled (bits w) (2 ^ bits w - 1) p)) ((2 ^ bits w - 1) * vx.0) (pv (constant_polynomial (bits w) (2 ^ bits w - 1))) (2 ^ bits w - 1)
        (congruent_then (2 ^ bits w) (pv (scaled (bits w) (2 ^ bits w - 1) p)) ((2 ^ bits w - 1) * pv p) ((2 ^ bits w - 1) * vx.0) (scaled_value assignment (bits w) (2 ^ bits w - 1) p)
        (congruent_times (2 ^ bits w) (2 ^ bits w - 1) (pv p) vx.0 (is.value_is vx.0 vx.1)))
        (constant_value assignment (bits w) (2 ^ bits w - 1)))
        (congruent_then (2 ^ bits w) ((2 ^ bits w - 1) * vx.0 + (2 ^ bits w - 1)) (vx.0 * 2 ^ bits w + (2 ^ bits w - 1 - vx.0)) n
        (congruent_same (2 ^ bits w) ((2 ^ bits w - 1) * vx.0 + (2 ^ bits w - 1)) (vx.0 * 2 ^ bits w + (2 ^ bits w - 1 - vx.0)) (gathered (2 ^ bits w) vx.0 vx.2))
        (congruent_then (2 ^ bits w) (vx.0 * 2 ^ bits w + (2 ^ bits w - 1 - vx.0)) (2 ^ bits w - 1 - vx.0) n (congruent_multiple (2 ^ bits w) vx.0 (2 ^ bits w - 1 - vx.0))
        (congruent_same (2 ^ bits w) (2 ^ bits w - 1 - vx.0) n number))));
  }
    where
      gathered : (m i : ℕ) → i < m → (m - 1) * i + (m - 1) ≡ i * m + (m - 1 - i)
      gathered zero i below = absurd (omega arith)
      gathered (suc k) i below = let e : suc k - 1 ≡ k = omega arith in ap (λ j. j * i + j) e ∙ step k i below ∙ ap (λ j. i * suc k + (j - i)) (sym e)
        where
          step : (k i : ℕ) → i < suc k → k * i + k ≡ i * suc k + (k - i)
          step k i below = omega arith

  has_byte : (v : Width) → nat_le 8 (bits v) ≡ true
  has_byte W8 = refl
  has_byte W16 = refl
  has_byte W32 = refl
  has_byte W64 = refl

  value-first_byte : (v : Width) (x : Term) (place : ℕ) → place ≡ 0 → (i : ℕ) → value assignment x ≡ Number v i → value assignment (byte place x) ≡ Number W8 (i % 2 ^ 8)
  unfolding value unary_value
  value-first_byte v x place first i e = rw (first, e) (ap (λ k. Number W8 (k % 2 ^ 8)) (div-one i))

  unary_is : (o : UnaryOperator) (w : Width) (x : Term) (p : Polynomial) → sort_of (Unary o x) ≡ Some (sort.Word w) → ((v : Width) → sort_of x ≡ Some (sort.Word v) → IsPolynomialOf v x p)
      → IsPolynomialOf w (Unary o x) (polynomial_of_unary o x p)
  unfolding polynomial_of_unary
  unary_is unary.Complement w x p h is =
      let hx = sort-under_complement w x h in
      rw (width_is x w hx) (bounded_is w (complement x) (complement_polynomial (bits w) p) h (complement_is w x p hx (is w hx)))
  unary_is (unary.Low u) w x p h is =
      let r = low_of u x (sort.Word w) h in
      subst (λ k. IsPolynomialOf k (low u x) (bounded (low u x) (lowered u p))) (sym (ap width_of_sort r.0.gives))
      (bounded_is u (low u x) (lowered u p) (sort-low u r.0.from r.1 x r.0.sorted)
      (lowered_is u r.0.from r.1 x (low u x) p (is r.0.from r.0.sorted) r.0.sorted (value-low u r.0.from r.1 x)))
  unary_is (unary.Byte place) w x p h is =
      let r = byte_parts place x (sort.Word w) h in
      subst (λ k. IsPolynomialOf k (byte place x) (cond (place == 0) (bounded (byte place x) (lowered W8 p)) (atom_polynomial (byte place x)))) (sym (ap width_of_sort r.2))
      (if_is W8 (byte place x) (place == 0) (bounded (byte place x) (lowered W8 p)) (h ∙ ap Some r.2)
      (λ e.
      bounded_is W8 (byte place x) (lowered W8 p) (h ∙ ap Some r.2)
      (lowered_is W8 r.0 (has_byte r.0) x (byte place x) p (is r.0 r.1) r.1 (value-first_byte r.0 x place (eqb-true place 0 e)))))
  unary_is unary.Not w x p h is = atom_is w (Unary unary.Not x) h
  unary_is (unary.ZeroExtend u) w x p h is = atom_is w (Unary (unary.ZeroExtend u) x) h
  unary_is (unary.SignExtend u) w x p h is = atom_is w (Unary (unary.SignExtend u) x) h

  -- ---- conditions

  -- the polynomial of a truth value is 1 where it holds, else 0
  record IsConditionOf (w : Width) (t : Term) (p : Polynomial) : Type 0 where
    pub atoms : HasAtoms w p
    pub value_is : IsCongruent (2 ^ bits w) (polynomial_value assignment p) (number_of_value (value assignment t))

  difference_is : (w : Width) (r s : Polynomial) (i k n : ℕ) → IsCongruent (2 ^ bits w) (pv r) i → IsCongruent (2 ^ bits w) (pv s) k → n + k ≡ i → IsCongruent (2 ^ bits w) (pv (minus (bits w) r s)) n
  difference_is w r s i k n ci ck sum =
      congruent_minus (2 ^ bits w) (pv (minus (bits w) r s)) n (pv s)
      (congruent_then (2 ^ bits w) (pv (minus (bits w) r s) + pv s) (pv r) (n + pv s) (minus_value assignment (bits w) r s)
      (congruent_then (2 ^ bits w) (pv r) i (n + pv s) ci
      (congruent_then (2 ^ bits w) i (n + k) (n + pv s) (congruent_same (2 ^ bits w) i (n + k) (sym sum))
      (congruent_plus (2 ^ bits w) n n k (pv s) (congruent_same (2 ^ bits w) n n refl) (congruent_sym (2 ^ bits w) (pv s) k ck)))))

  module _ (w : Width) where
    condition_atom : (t : Term) → sort_of t ≡ Some sort.Truth → IsConditionOf w t (atom_polynomial t)
    condition_atom t h = record {
      atoms = ((inr h, tt), tt);
      value_is = congruent_same (2 ^ bits w) (pv (atom_polynomial t)) (number_of_value (value assignment t)) (atom_value assignment t);
    }

    condition_if : (t : Term) (test : Bool) (p : Polynomial) → sort_of t ≡ Some sort.Truth → (test ≡ true → IsConditionOf w t p) → IsConditionOf w t (cond test p (atom_polynomial t))
    condition_if t true p h f = f refl
    condition_if t false p h f = condition_atom t h

    condition_bounded : (t : Term) (p : Polynomial) → sort_of t ≡ Some sort.Truth → IsConditionOf w t p → IsConditionOf w t (bounded t p)
    condition_bounded t p h is = condition_if t (nat_le (length p) MONOMIALS && has_small_monomials p) p h (λ e. is)

    -- of a number that is a truth value
    abbrev digit : Bool → ℕ
    digit b = cond b 1 0

    product_is : (x y : Term) (p q : Polynomial) → IsConditionOf w x p → IsConditionOf w y q
        → IsCongruent (2 ^ bits w) (pv (times (bits w) p q)) (number_of_value (value assignment x) * number_of_value (value assignment y))
    product_is x y p q of_x of_y =
        congruent_then (2 ^ bits w) (pv (times (bits w) p q)) (pv p * pv q) (number_of_value (value assignment x) * number_of_value (value assignment y))
        (times_value assignment (bits w) assigns p q)
        (congruent_product (2 ^ bits w) (pv p) (number_of_value (value assignment x)) (pv q) (number_of_value (value assignment y)) of_x.value_is of_y.value_is)

    sum_is : (x y : Term) (p q : Polynomial) → IsConditionOf w x p → IsConditionOf w y q
        → IsCongruent (2 ^ bits w) (pv (plus (bits w) p q)) (number_of_value (value assignment x) + number_of_value (value assignment y))
    sum_is x y p q of_x of_y =
        congruent_then (2 ^ bits w) (pv (plus (bits w) p q)) (pv p + pv q) (number_of_value (value assignment x) + number_of_value (value assignment y))
        (plus_value assignment (bits w) p q)
        (congruent_plus (2 ^ bits w) (pv p) (number_of_value (value assignment x)) (pv q) (number_of_value (value assignment y)) of_x.value_is of_y.value_is)

    -- the opposite
    not_is : (x : Term) (p : Polynomial) → sort_of x ≡ Some sort.Truth → IsConditionOf w x p → IsConditionOf w (not_term x) (minus (bits w) (constant_polynomial (bits w) 1) p)
    not_is x p hx of_x = record {
      atoms = minus_atoms w (bits w) (constant_polynomial (bits w) 1) p (constant_atoms w (bits w) 1) of_x.atoms;
      value_is =
          let vx = truth_value_of assignment assigns x hx in
          difference_is w (constant_polynomial (bits w) 1) p 1 (number_of_value (value assignment x)) (number_of_value (value assignment (not_term x)))
          (constant_value assignment (bits w) 1) of_x.value_is
          (ap (λ n. n + number_of_value (value assignment x)) (ap number_of_value (value-not assignment x vx.0 vx.1)) ∙ ap (λ n. digit (not vx.0) + n) (ap number_of_value vx.1) ∙ one vx.0);
    }
      where
        one : (b : Bool) → digit (not b) + digit b ≡ 1
        one true = refl
        one false = refl

    module _ (x y : Term) (hx : sort_of x ≡ Some sort.Truth) (hy : sort_of y ≡ Some sort.Truth) (p q : Polynomial)
        (of_x : IsConditionOf w x p) (of_y : IsConditionOf w y q) where
      abbrev i : ℕ
      i = number_of_value (value assignment x)

      abbrev j : ℕ
      j = number_of_value (value assignment y)

      -- what is true of both digits is true of i and j
      of_digits : (P : ℕ → ℕ → ℕ → Type 0) (t : Term) (f : Bool → Bool → Bool)
          → ((a b : Bool) → value assignment x ≡ Truth a → value assignment y ≡ Truth b → value assignment t ≡ Truth (f a b))
          → ((a b : Bool) → P (digit (f a b)) (digit a) (digit b)) → P (number_of_value (value assignment t)) i j
      of_digits P t f is holds =
          let vx = truth_value_of assignment assigns x hx in
          let vy = truth_value_of assignment assigns y hy in
          subst (λ n. P n i j) (sym (ap number_of_value (is vx.0 vy.0 vx.1 vy.1)))
          (subst (λ n. P (digit (f vx.0 vy.0)) n j) (sym (ap number_of_value vx.1)) (subst (λ n. P (digit (f vx.0 vy.0)) (digit vx.0) n) (sym (ap number_of_value vy.1)) (holds vx.0 vy.0)))

      and_is : IsConditionOf w (and_term x y) (times (bits w) p q)
      and_is = record {
        atoms = times_atoms w (bits w) p q of_x.atoms of_y.atoms;
        value_is =
            congruent_then (2 ^ bits w) (pv (times (bits w) p q)) (i * j) (number_of_value (value assignment (and_term x y))) (product_is x y p q of_x of_y)
            (congruent_same (2 ^ bits w) (i * j) (number_of_value (value assignment (and_term x y))) (of_digits (λ n k l. k * l ≡ n) (and_term x y) ◌&&◌ (value-and assignment x y) both));
      }
        where
          both : (a b : Bool) → digit a * digit b ≡ digit (a && b)
          both true true = refl
          both true false = refl
          both false true = refl
          both false false = refl

      or_is : IsConditionOf w (or_term x y) (minus (bits w) (plus (bits w) p q) (times (bits w) p q))
      or_is = record {
        atoms = minus_atoms w (bits w) (plus (bits w) p q) (times (bits w) p q) (plus_atoms w (bits w) p q of_x.atoms of_y.atoms) (times_atoms w (bits w) p q of_x.atoms of_y.atoms);
        value_is =
            difference_is w (plus (bits w) p q) (times (bits w) p q) (i + j) (i * j) (number_of_value (value assignment (or_term x y))) (sum_is x y p q of_x of_y) (product_is x y p q of_x of_y)
            (of_digits (λ n k l. n + k * l ≡ k + l) (or_term x y) ◌||◌ (value-or assignment x y) either);
      }
        where
          either : (a b : Bool) → digit (a || b) + digit a * digit b ≡ digit a + digit b
          either true true = refl
          either true false = refl
          either false true = refl
          either false false = refl

      equal_is : IsConditionOf w (equal x y) (minus (bits w) (plus (bits w) (constant_polynomial (bits w) 1) (scaled (bits w) 2 (times (bits w) p q))) (plus (bits w) p q))
      equal_is = record {
        atoms =
            minus_atoms w (bits w) (plus (bits w) (constant_polynomial (bits w) 1) (scaled (bits w) 2 (times (bits w) p q))) (plus (bits w) p q)
            (plus_atoms w (bits w) (constant_polynomial (bits w) 1) (scaled (bits w) 2 (times (bits w) p q)) (constant_atoms w (bits w) 1)
            (scaled_atoms w (bits w) 2 (times (bits w) p q) (times_atoms w (bits w) p q of_x.atoms of_y.atoms)))
            (plus_atoms w (bits w) p q of_x.atoms of_y.atoms);
        value_is =
            difference_is w (plus (bits w) (constant_polynomial (bits w) 1) (scaled (bits w) 2 (times (bits w) p q))) (plus (bits w) p q) (1 + 2 * (i * j)) (i + j)
            (number_of_value (value assignment (equal x y)))
            (congruent_then (2 ^ bits w) (pv (plus (bits w) (constant_polynomial (bits w) 1) (scaled (bits w) 2 (times (bits w) p q))))
            (pv (constant_polynomial (bits w) 1) + pv (scaled (bits w) 2 (times (bits w) p q))) (1 + 2 * (i * j))
            (plus_value assignment (bits w) (constant_polynomial (bits w) 1) (scaled (bits w) 2 (times (bits w) p q)))
            (congruent_plus (2 ^ bits w) (pv (constant_polynomial (bits w) 1)) 1 (pv (scaled (bits w) 2 (times (bits w) p q))) (2 * (i * j)) (constant_value assignment (bits w) 1)
            (congruent_then (2 ^ bits w) (pv (scaled (bits w) 2 (times (bits w) p q))) (2 * pv (times (bits w) p q)) (2 * (i * j)) (scaled_value assignment (bits w) 2 (times (bits w) p q))
            (congruent_times (2 ^ bits w) 2 (pv (times (bits w) p q)) (i * j) (product_is x y p q of_x of_y)))))
            (sum_is x y p q of_x of_y)
            (of_digits (λ n k l. n + (k + l) ≡ 1 + 2 * (k * l)) (equal x y) (λ a b. if a then b else not b) (value-equal_truths assignment assigns x y) same);
      }
        where
          same : (a b : Bool) → digit (if a then b else not b) + (digit a + digit b) ≡ 1 + 2 * (digit a * digit b)
          same true true = refl
          same true false = refl
          same false true = refl
          same false false = refl

    both_truths : (o : BinaryOperator) (x y : Term) → ((s t : Sort) → sort_of_binary o s t ≡ sort_if (is_truth s && is_truth t) sort.Truth) → sort_of (Binary o x y) ≡ Some sort.Truth
        → (sort_of x ≡ Some sort.Truth) × (sort_of y ≡ Some sort.Truth)
    unfolding sort_of
    both_truths o x y is h =
        let parts = with_two-some (sort_of_binary o) (sort_of x) (sort_of y) sort.Truth h in
        let both = and_parts (is_truth parts.0) (is_truth parts.1) ((sort_if-some (is_truth parts.0 && is_truth parts.1) sort.Truth sort.Truth (sym (is parts.0 parts.1) ∙ parts.4)).0) in
        (parts.2 ∙ ap Some (same_sort-true parts.0 sort.Truth both.0), parts.3 ∙ ap Some (same_sort-true parts.1 sort.Truth both.1))

    condition_is : (t : Term) → sort_of t ≡ Some sort.Truth → IsConditionOf w t (condition (bits w) t)
    unfolding condition value sort_of_binary
    condition_is (Leaf (atom.Truth b)) h = record { atoms = constant_atoms w (bits w) (digit b); value_is = constant_value assignment (bits w) (digit b) }
    condition_is (Unary unary.Not x) h =
        let hx = sort-under_not x h in
        condition_bounded (not_term x) (minus (bits w) (constant_polynomial (bits w) 1) (condition (bits w) x)) h (not_is x (condition (bits w) x) hx (condition_is x hx))
    condition_is (Binary binary.And x y) h =
        let both = both_truths binary.And x y (λ s t. refl) h in
        let p : Polynomial = condition (bits w) x in
        let q : Polynomial = condition (bits w) y in
        condition_if (and_term x y) (are_few_pairs p q) (bounded (and_term x y) (times (bits w) p q)) h
        (λ e. condition_bounded (and_term x y) (times (bits w) p q) h (and_is x y both.0 both.1 p q (condition_is x both.0) (condition_is y both.1)))
    condition_is (Binary binary.Or x y) h =
        let both = both_truths binary.Or x y (λ s t. refl) h in
        let p : Polynomial = condition (bits w) x in
        let q : Polynomial = condition (bits w) y in
        condition_if (or_term x y) (are_few_pairs p q) (bounded (or_term x y) (minus (bits w) (plus (bits w) p q) (times (bits w) p q))) h
        (λ e. condition_bounded (or_term x y) (minus (bits w) (plus (bits w) p q) (times (bits w) p q)) h (or_is x y both.0 both.1 p q (condition_is x both.0) (condition_is y both.1)))
    condition_is (Binary binary.Equal x y) h = by (condition (bits w) x) (condition (bits w) y) (condition_is x) (condition_is y)
      where
        beside : Alike x y → sort_of x ≡ Some sort.Truth → sort_of y ≡ Some sort.Truth
        beside (truths hx hy) g = hy
        beside (words v hx hy) g = absurd (cc)

        by : (p q : Polynomial) → (sort_of x ≡ Some sort.Truth → IsConditionOf w x p) → (sort_of y ≡ Some sort.Truth → IsConditionOf w y q)
            → IsConditionOf w (equal x y) (cond (is_bool x && are_few_pairs p q)
            (bounded (equal x y) (minus (bits w) (plus (bits w) (constant_polynomial (bits w) 1) (scaled (bits w) 2 (times (bits w) p q))) (plus (bits w) p q)))
            (atom_polynomial (equal x y)))
        by p q first second =
            let r : Polynomial = minus (bits w) (plus (bits w) (constant_polynomial (bits w) 1) (scaled (bits w) 2 (times (bits w) p q))) (plus (bits w) p q) in
            condition_if (equal x y) (is_bool x && are_few_pairs p q) (bounded (equal x y) r) h
            (λ e.
            let tests = and_parts (is_bool x) (are_few_pairs p q) e in
            let hx = bool_sort x tests.0 in
            let hy = beside (alike_of x y sort.Truth h).1 hx in
            condition_bounded (equal x y) r h (equal_is x y hx hy p q (first hx) (second hy)))
    condition_is t h = condition_atom t h

  -- ---- choices

  choice_is : (w : Width) (c x y : Term) (r p q : Polynomial) → IsChoice assignment assigns w c x y → IsConditionOf w c r → IsPolynomialOf w x p → IsPolynomialOf w y q
      → IsPolynomialOf w (choose c x y) (plus (bits w) q (times (bits w) r (minus (bits w) p q)))
  choice_is w c x y r p q is of_c of_x of_y = record {
    atoms =
        plus_atoms w (bits w) q (times (bits w) r (minus (bits w) p q)) of_y.atoms
        (times_atoms w (bits w) r (minus (bits w) p q) of_c.atoms (minus_atoms w (bits w) p q of_x.atoms of_y.atoms));
    value_is = λ n e.
        let vc = truth_value_of assignment assigns c is.test in
        congruent_then (2 ^ bits w) (pv (plus (bits w) q (times (bits w) r (minus (bits w) p q)))) (pv q + pv r * pv (minus (bits w) p q)) n
        (congruent_then (2 ^ bits w) (pv (plus (bits w) q (times (bits w) r (minus (bits w) p q)))) (pv q + pv (times (bits w) r (minus (bits w) p q))) (pv q + pv r * pv (minus (bits w) p q))
        (plus_value assignment (bits w) q (times (bits w) r (minus (bits w) p q)))
        (congruent_plus (2 ^ bits w) (pv q) (pv q) (pv (times (bits w) r (minus (bits w) p q))) (pv r * pv (minus (bits w) p q))
        (congruent_same (2 ^ bits w) (pv q) (pv q) refl) (times_value assignment (bits w) assigns r (minus (bits w) p q))))
        (by n vc.0 (subst (λ k. IsCongruent (2 ^ bits w) (pv r) k) (ap number_of_value vc.1) of_c.value_is) (sym (value-choose assignment c x y vc.0 vc.1) ∙ e));
  }
    where
      digits : (k : ℕ) → IsCongruent (2 ^ bits w) (pv r) k → IsCongruent (2 ^ bits w) (pv q + pv r * pv (minus (bits w) p q)) (pv q + k * pv (minus (bits w) p q))
      digits k h =
          congruent_plus (2 ^ bits w) (pv q) (pv q) (pv r * pv (minus (bits w) p q)) (k * pv (minus (bits w) p q)) (congruent_same (2 ^ bits w) (pv q) (pv q) refl)
          (congruent_product (2 ^ bits w) (pv r) k (pv (minus (bits w) p q)) (pv (minus (bits w) p q)) h (congruent_same (2 ^ bits w) (pv (minus (bits w) p q)) (pv (minus (bits w) p q)) refl))

      one : (a b : ℕ) → a + 1 * b ≡ b + a
      one a b = omega arith

      none : (a b : ℕ) → a + 0 * b ≡ a
      none a b = omega arith

      by : (n : ℕ) (test : Bool) → IsCongruent (2 ^ bits w) (pv r) (cond test 1 0) → cond test (value assignment x) (value assignment y) ≡ Number w n
          → IsCongruent (2 ^ bits w) (pv q + pv r * pv (minus (bits w) p q)) n
      by n true h e =
          congruent_then (2 ^ bits w) (pv q + pv r * pv (minus (bits w) p q)) (pv q + 1 * pv (minus (bits w) p q)) n (digits 1 h)
          (congruent_then (2 ^ bits w) (pv q + 1 * pv (minus (bits w) p q)) (pv (minus (bits w) p q) + pv q) n
          (congruent_same (2 ^ bits w) (pv q + 1 * pv (minus (bits w) p q)) (pv (minus (bits w) p q) + pv q) (one (pv q) (pv (minus (bits w) p q))))
          (congruent_then (2 ^ bits w) (pv (minus (bits w) p q) + pv q) (pv p) n (minus_value assignment (bits w) p q) (of_x.value_is n e)))
      by n false h e =
          congruent_then (2 ^ bits w) (pv q + pv r * pv (minus (bits w) p q)) (pv q + 0 * pv (minus (bits w) p q)) n (digits 0 h)
          (congruent_then (2 ^ bits w) (pv q + 0 * pv (minus (bits w) p q)) (pv q) n
          (congruent_same (2 ^ bits w) (pv q + 0 * pv (minus (bits w) p q)) (pv q) (none (pv q) (pv (minus (bits w) p q)))) (of_y.value_is n e))

  -- ---- the theorem

  constant_polynomial_is : (v : Width) (n : ℕ) → IsPolynomialOf v (constant v n) (constant_polynomial (bits v) n)
  constant_polynomial_is v n = record {
    atoms = constant_atoms v (bits v) n;
    value_is = λ k e.
        congruent_then (2 ^ bits v) (pv (constant_polynomial (bits v) n)) n k (constant_value assignment (bits v) n)
        (congruent_same (2 ^ bits v) n k (number_same v v n k (sym (value-constant assignment v n) ∙ e)));
  }

  -- the polynomial of a word has the word's value, modulo 2 ^ width
  pub polynomial_is : (t : Term) (w : Width) → sort_of t ≡ Some (sort.Word w) → IsPolynomialOf w t (polynomial t)
  unfolding polynomial
  polynomial_is (Leaf (atom.Constant v n)) w h =
      subst (λ u. IsPolynomialOf u (constant v n) (constant_polynomial (bits v) n)) (constant_sorted v n w h).0 (constant_polynomial_is v n)
  polynomial_is (Unary o x) w h = unary_is o w x (polynomial x) h (polynomial_is x)
  polynomial_is (Binary (binary.Word o) x y) w h =
      let is = words_of o x y (sort.Word w) h in
      let hx = is.2 in
      let hy = is.3 in
      subst (λ u. IsPolynomialOf u (on_words o x y) (polynomial_of_operation o x y (polynomial x) (polynomial y))) (sym (ap width_of_sort is.1))
      (operation_is is.0 x y hx hy (polynomial x) (polynomial y) (polynomial_is x is.0 hx) (polynomial_is y is.0 hy) o)
  polynomial_is (Ternary ternary.Choose c x y) w h =
      let is = choice_of assignment assigns w c x y h in
      let p : Polynomial = polynomial x in
      let q : Polynomial = polynomial y in
      subst (λ u. IsPolynomialOf w (choose c x y) (choice_polynomial (bits u) (choose c x y) (condition (bits u) c) (polynomial x) (polynomial y))) (sym (width_is x w is.first))
      (if_is w (choose c x y) (nat_le CHOICE_WIDTH (bits w) && nat_le (length (condition (bits w) c) * length (minus (bits w) p q)) MONOMIALS)
      (bounded (choose c x y) (plus (bits w) q (times (bits w) (condition (bits w) c) (minus (bits w) p q)))) h
      (λ e.
      bounded_is w (choose c x y) (plus (bits w) q (times (bits w) (condition (bits w) c) (minus (bits w) p q))) h
      (choice_is w c x y (condition (bits w) c) p q is (condition_is w c is.test) (polynomial_is x w is.first) (polynomial_is y w is.second))))
  polynomial_is t w h = atom_is w t h

pub polynomial_number : (assignment : Assignment) → IsAssignment assignment → (t : Term) (w : Width) → sort_of t ≡ Some (sort.Word w) → (n : ℕ) → value assignment t ≡ Number w n
    → polynomial_value assignment (polynomial t) % 2 ^ bits w ≡ n
polynomial_number assignment assigns t w h n e =
    let vt = word_of assignment assigns w t h in
    let number : vt.0 ≡ n = number_same w w vt.0 n (sym vt.1 ∙ e) in
    let below : n < 2 ^ bits w = subst (λ k. k < 2 ^ bits w) number vt.2 in
    congruent_equal (2 ^ bits w) (polynomial_value assignment (polynomial t) % 2 ^ bits w) n
    (congruent_then (2 ^ bits w) (polynomial_value assignment (polynomial t) % 2 ^ bits w) (polynomial_value assignment (polynomial t)) n (congruent_mod (2 ^ bits w) (polynomial_value assignment (polynomial t)))
    ((polynomial_is assignment assigns t w h).value_is n e))
    (mod_below (polynomial_value assignment (polynomial t)) (2 ^ bits w) (pow_pos (bits w))) below
