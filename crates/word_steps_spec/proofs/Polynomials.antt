-- The values of sums and products of polynomials.
use Rattle.std.proofs.Common.{◌≡◌, ℕ, zero, suc, ◌+◌, ◌-◌, ◌*◌, ◌^◌, ◌<◌, Bool, true, false, cond, List, [], ◌∷◌, Option, Some, None, option_map, refl, sym, ap, ◌∙◌, subst, arith, eqb-true}
use Rattle.std.specs.Prelude.{◌==◌, ◌&&◌}
use Rattle.std.specs.List.{list_any}
use Rattle.std.proofs.lemmas.Bool.{and_parts}
use Rattle.std.proofs.lemmas.Option.{same_Some}
use Rattle.std.proofs.lemmas.Nat.{pow_pos}
use Rattle.term_core_spec.specs.Term.{Term}
use Rattle.term_core_spec.specs.Same.{same_term}
use Rattle.term_core_spec.specs.Value.{Assignment, IsAssignment, value, low_bits}
use Rattle.term_core_spec.proofs.Same.{same_is}
use Rattle.term_norm_spec.proofs.Truths.{truth_value_of}
use Rattle.word_steps_spec.specs.Numbers.{is_bool}
use Rattle.word_steps_spec.specs.Polynomial.{Summand, Polynomial, without, holds_of, same_atoms, with_atoms, with_summand, plus_summand, plus, scaled, minus, times_summand, times, constant_polynomial, atom_polynomial, number_of_value, product, polynomial_value}
use Rattle.word_steps_spec.proofs.CommHolds.{either_test}
use Rattle.word_steps_spec.proofs.Sorts.{bool_sort}
use Rattle.word_steps_spec.proofs.Congruence.{IsCongruent, congruent_same, congruent_then, congruent_plus, congruent_product, congruent_multiple, congruent_mod}

module _ (assignment : Assignment) where
  abbrev number : Term → ℕ
  number t = number_of_value (value assignment t)

  -- ---- monomials

  without_product : (t : Term) (us : List Term) (o : Option (List Term)) → without t us ≡ o → (rest : List Term) → o ≡ Some rest → product assignment us ≡ number t * product assignment rest
  unfolding without product
  without_product t [] o e rest d = absurd (cc)
  without_product t (u ∷ us) o e rest d = by (same_term t u) refl (e ∙ d) (λ others f. without_product t us (Some others) f others refl)
    where
      inner : (p : Option (List Term)) → without t us ≡ p → option_map (λ others. u ∷ others) p ≡ Some rest
          → ((others : List Term) → without t us ≡ Some others → product assignment us ≡ number t * product assignment others)
          → number u * product assignment us ≡ number t * product assignment rest
      inner None f g all = absurd (cc)
      inner (Some others) f g all =
          let again = all others f in
          let is = same_Some (u ∷ others) rest g in
          ap (λ n. number u * n) again ∙ swap (number u) (number t) (product assignment others) ∙ ap (λ r. number t * product assignment r) is
        where
          swap : (a b c : ℕ) → a * (b * c) ≡ b * (a * c)
          swap a b c = omega arith

      by : (test : Bool) → same_term t u ≡ test → cond test (Some us) (option_map (λ others. u ∷ others) (without t us)) ≡ Some rest
          → ((others : List Term) → without t us ≡ Some others → product assignment us ≡ number t * product assignment others)
          → number u * product assignment us ≡ number t * product assignment rest
      by true same f all = ap (λ v. number v * product assignment us) (sym (same_is t u same)) ∙ ap (λ r. number t * product assignment r) (same_Some us rest f)
      by false other f all = inner (without t us) refl f all

  same_product : (ts us : List Term) → same_atoms ts us ≡ true → product assignment ts ≡ product assignment us
  unfolding same_atoms product
  same_product [] [] e = refl
  same_product [] (u ∷ us) e = absurd (cc)
  same_product (t ∷ ts) us e = by (without t us) refl e (same_product ts)
    where
      by : (o : Option (List Term)) → without t us ≡ o → holds_of (same_atoms ts) o ≡ true → ((vs : List Term) → same_atoms ts vs ≡ true → product assignment ts ≡ product assignment vs)
          → number t * product assignment ts ≡ product assignment us
      by None d f again = absurd (cc)
      by (Some rest) d f again = ap (λ n. number t * n) (again rest f) ∙ sym (without_product t us (Some rest) d rest refl)

  -- a truth value is 1 or 0, and may be left out beside itself
  truth_once : IsAssignment assignment → (t : Term) (us : List Term) → is_bool t ≡ true → list_any (same_term t) us ≡ true → product assignment us ≡ number t * product assignment us
  unfolding product
  truth_once assigns t [] b e = absurd (cc)
  truth_once assigns t (u ∷ us) b e =
      either_test (same_term t u) (list_any (same_term t) us) e
      (λ same.
      let is = truth_value_of assignment assigns t (bool_sort t b) in
      subst (λ w. number w * product assignment us ≡ number t * (number w * product assignment us)) (same_is t u same) (square is.0 (number t) (product assignment us) (ap number_of_value is.1)))
      (λ later. ap (λ n. number u * n) (truth_once assigns t us b later) ∙ swap (number u) (number t) (product assignment us))
    where
      square : (b : Bool) (n r : ℕ) → n ≡ cond b 1 0 → n * r ≡ n * (n * r)
      square true n r e = rw e (omega arith)
      square false n r e = rw e (omega arith)

      swap : (a b r : ℕ) → a * (b * r) ≡ b * (a * r)
      swap a b r = omega arith

  product-with_atoms : IsAssignment assignment → (ts us : List Term) → product assignment (with_atoms ts us) ≡ product assignment ts * product assignment us
  unfolding with_atoms product
  product-with_atoms assigns [] us = omega arith
  product-with_atoms assigns (t ∷ ts) us = by (is_bool t && list_any (same_term t) us) refl (product-with_atoms assigns ts us)
    where
      swap : (a b c : ℕ) → a * (b * c) ≡ b * a * c
      swap a b c = omega arith

      regroup : (a b c : ℕ) → a * (b * c) ≡ a * b * c
      regroup a b c = omega arith

      by : (test : Bool) → (is_bool t && list_any (same_term t) us) ≡ test → product assignment (with_atoms ts us) ≡ product assignment ts * product assignment us
          → product assignment (cond test (with_atoms ts us) (t ∷ with_atoms ts us)) ≡ number t * product assignment ts * product assignment us
      by true e again =
          let both = and_parts (is_bool t) (list_any (same_term t) us) e in
          again ∙ ap (λ n. product assignment ts * n) (truth_once assigns t us both.0 both.1) ∙ swap (product assignment ts) (number t) (product assignment us)
      by false e again = ap (λ n. number t * n) again ∙ regroup (number t) (product assignment ts) (product assignment us)

  -- ---- sums

  abbrev pv : Polynomial → ℕ
  pv p = polynomial_value assignment p

  with_summand_value : (c : ℕ) (atoms : List Term) (rest : Polynomial) → pv (with_summand c atoms rest) ≡ c * product assignment atoms + pv rest
  unfolding polynomial_value
  with_summand_value c atoms rest = by (c == 0) refl
    where
      by : (test : Bool) → (c == 0) ≡ test → pv (cond test rest (record { coefficient = c; atoms = atoms } ∷ rest)) ≡ c * product assignment atoms + pv rest
      by true e = let none : c ≡ 0 = eqb-true c 0 e in rw none (omega arith)
      by false e = refl

  module _ (count : ℕ) where
    abbrev m : ℕ
    m = 2 ^ count

    with_low_value : (c : ℕ) (atoms : List Term) (rest : Polynomial) → IsCongruent m (pv (with_summand (low_bits count c) atoms rest)) (c * product assignment atoms + pv rest)
    with_low_value c atoms rest =
        congruent_then m _ (low_bits count c * product assignment atoms + pv rest) _
        (congruent_same m _ _ (with_summand_value (low_bits count c) atoms rest))
        (congruent_plus m _ _ _ _ (congruent_product m _ _ _ _ (congruent_mod m c) (congruent_same m (product assignment atoms) (product assignment atoms) refl)) (congruent_same m (pv rest) (pv rest) refl))

    pub plus_summand_value : (c : ℕ) (atoms : List Term) (p : Polynomial) → IsCongruent m (pv (plus_summand count c atoms p)) (c * product assignment atoms + pv p)
    unfolding plus_summand polynomial_value
    plus_summand_value c atoms [] = with_low_value c atoms []
    plus_summand_value c atoms (s ∷ p) = by (same_atoms atoms s.atoms) refl (plus_summand_value c atoms p)
      where
        gather : (a b x r : ℕ) → (a + b) * x + r ≡ a * x + (b * x + r)
        gather a b x r = omega arith

        move : (a b r : ℕ) → a + (b + r) ≡ b + (a + r)
        move a b r = omega arith

        by : (test : Bool) → same_atoms atoms s.atoms ≡ test → IsCongruent m (pv (plus_summand count c atoms p)) (c * product assignment atoms + pv p)
            → IsCongruent m (pv (cond test (with_summand (low_bits count (c + s.coefficient)) s.atoms p) (s ∷ plus_summand count c atoms p))) (c * product assignment atoms + (s.coefficient * product assignment s.atoms + pv p))
        by true e again =
            let one = same_product atoms s.atoms e in
            congruent_then m _ ((c + s.coefficient) * product assignment s.atoms + pv p) _ (with_low_value (c + s.coefficient) s.atoms p)
            (congruent_same m _ _ (gather c s.coefficient (product assignment s.atoms) (pv p) ∙ ap (λ n. c * n + (s.coefficient * product assignment s.atoms + pv p)) (sym one)))
        by false e again =
            congruent_then m _ (s.coefficient * product assignment s.atoms + (c * product assignment atoms + pv p)) _
            (congruent_plus m _ _ _ _ (congruent_same m (s.coefficient * product assignment s.atoms) (s.coefficient * product assignment s.atoms) refl) again)
            (congruent_same m _ _ (move (s.coefficient * product assignment s.atoms) (c * product assignment atoms) (pv p)))

    pub plus_value : (p q : Polynomial) → IsCongruent m (pv (plus count p q)) (pv p + pv q)
    unfolding plus polynomial_value
    plus_value [] q = congruent_same m (pv q) (0 + pv q) (omega arith)
    plus_value (s ∷ p) q =
        congruent_then m _ (s.coefficient * product assignment s.atoms + pv (plus count p q)) _ (plus_summand_value s.coefficient s.atoms (plus count p q))
        (congruent_then m _ (s.coefficient * product assignment s.atoms + (pv p + pv q)) _
        (congruent_plus m _ _ _ _ (congruent_same m (s.coefficient * product assignment s.atoms) (s.coefficient * product assignment s.atoms) refl) (plus_value p q))
        (congruent_same m _ _ (regroup (s.coefficient * product assignment s.atoms) (pv p) (pv q))))
      where
        regroup : (a b c : ℕ) → a + (b + c) ≡ a + b + c
        regroup a b c = omega arith

    pub scaled_value : (c : ℕ) (p : Polynomial) → IsCongruent m (pv (scaled count c p)) (c * pv p)
    unfolding scaled polynomial_value
    scaled_value c [] = congruent_same m 0 (c * 0) (omega arith)
    scaled_value c (s ∷ p) =
        congruent_then m _ (c * s.coefficient * product assignment s.atoms + pv (scaled count c p)) _ (with_low_value (c * s.coefficient) s.atoms (scaled count c p))
        (congruent_then m _ (c * s.coefficient * product assignment s.atoms + c * pv p) _
        (congruent_plus m _ _ _ _ (congruent_same m (c * s.coefficient * product assignment s.atoms) (c * s.coefficient * product assignment s.atoms) refl) (scaled_value c p))
        (congruent_same m _ _ (regroup c s.coefficient (product assignment s.atoms) (pv p))))
      where
        regroup : (a b x r : ℕ) → a * b * x + a * r ≡ a * (b * x + r)
        regroup a b x r = omega arith

    -- one less than m, times a number, and the number are a multiple of m
    less_one : (n a : ℕ) → (m - 1) * n + (a + n) ≡ n * m + a
    less_one n a = by m (pow_pos count)
      where
        by : (k : ℕ) → 0 < k → (k - 1) * n + (a + n) ≡ n * k + a
        by zero h = absurd (omega arith)
        by (suc k) h = let e : suc k - 1 ≡ k = omega arith in ap (λ j. j * n + (a + n)) e ∙ step k
          where
            step : (k : ℕ) → k * n + (a + n) ≡ n * suc k + a
            step k = omega arith

    -- the difference with the subtrahend added
    pub minus_value : (p q : Polynomial) → IsCongruent m (pv (minus count p q) + pv q) (pv p)
    minus_value p q =
        congruent_then m _ ((m - 1) * pv q + pv p + pv q) _
        (congruent_plus m _ _ _ _
        (congruent_then m _ (pv (scaled count (m - 1) q) + pv p) _ (plus_value (scaled count (m - 1) q) p)
        (congruent_plus m _ _ _ _ (scaled_value (m - 1) q) (congruent_same m (pv p) (pv p) refl)))
        (congruent_same m (pv q) (pv q) refl))
        (congruent_then m _ (pv q * m + pv p) _ (congruent_same m _ _ (regroup ((m - 1) * pv q) (pv p) (pv q) ∙ less_one (pv q) (pv p))) (congruent_multiple m (pv q) (pv p)))
      where
        regroup : (a b c : ℕ) → a + b + c ≡ a + (b + c)
        regroup a b c = omega arith

    -- ---- products

    times_summand_value : IsAssignment assignment → (s : Summand) (q : Polynomial) → IsCongruent m (pv (times_summand count s q)) (s.coefficient * product assignment s.atoms * pv q)
    unfolding times_summand polynomial_value
    times_summand_value assigns s [] = congruent_same m 0 (s.coefficient * product assignment s.atoms * 0) (omega arith)
    times_summand_value assigns s (u ∷ q) =
        congruent_then m _ (s.coefficient * u.coefficient * product assignment (with_atoms s.atoms u.atoms) + pv (times_summand count s q)) _
        (plus_summand_value (s.coefficient * u.coefficient) (with_atoms s.atoms u.atoms) (times_summand count s q))
        (congruent_then m _ (s.coefficient * u.coefficient * product assignment (with_atoms s.atoms u.atoms) + s.coefficient * product assignment s.atoms * pv q) _
        (congruent_plus m _ _ _ _ (congruent_same m (s.coefficient * u.coefficient * product assignment (with_atoms s.atoms u.atoms)) _ refl) (times_summand_value assigns s q))
        (congruent_same m _ _ (ap (λ n. s.coefficient * u.coefficient * n + s.coefficient * product assignment s.atoms * pv q) (product-with_atoms assigns s.atoms u.atoms)
        ∙ regroup s.coefficient u.coefficient (product assignment s.atoms) (product assignment u.atoms) (pv q))))
      where
        regroup : (a b x y r : ℕ) → a * b * (x * y) + a * x * r ≡ a * x * (b * y + r)
        regroup a b x y r = omega arith

    pub times_value : IsAssignment assignment → (p q : Polynomial) → IsCongruent m (pv (times count p q)) (pv p * pv q)
    unfolding times polynomial_value
    times_value assigns [] q = congruent_same m 0 (0 * pv q) (omega arith)
    times_value assigns (s ∷ p) q =
        congruent_then m _ (pv (times_summand count s q) + pv (times count p q)) _ (plus_value (times_summand count s q) (times count p q))
        (congruent_then m _ (s.coefficient * product assignment s.atoms * pv q + pv p * pv q) _
        (congruent_plus m _ _ _ _ (times_summand_value assigns s q) (times_value assigns p q))
        (congruent_same m _ _ (regroup (s.coefficient * product assignment s.atoms) (pv p) (pv q))))
      where
        regroup : (a b c : ℕ) → a * c + b * c ≡ (a + b) * c
        regroup a b c = omega arith

    pub constant_value : (n : ℕ) → IsCongruent m (pv (constant_polynomial count n)) n
    unfolding product polynomial_value
    constant_value n = congruent_then m _ (n * 1 + 0) n (with_low_value n [] []) (congruent_same m (n * 1 + 0) n (omega arith))

  pub atom_value : (t : Term) → pv (atom_polynomial t) ≡ number t
  unfolding product polynomial_value
  atom_value t = omega arith
