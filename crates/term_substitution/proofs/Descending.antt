-- What is left to take, as more is.
use Rattle.std.proofs.Common.{◌≡◌, ◌∙◌, inl, inr, ℕ, zero, suc, ◌+◌, ◌<◌, ◌≤◌, Bool, true, false, cond, if◌then◌else◌, Option, Some, refl, ap, subst, arith}
use Rattle.std.specs.Prelude.{nat_eq, is_some}
use Rattle.std.specs.Cmp.{nat_eq_equiv}
use Rattle.std.proofs.lemmas.Bool.{cases_lt}
use Rattle.term_substitution.specs.Paths.{left, IsNew}

-- one more number of the sums: p and q are whether it was taken afterwards and before
same_or_less : (p q : Bool) (x y : ℕ) → (q ≡ true → p ≡ true) → x ≤ y → (if p then 0 else 1) + x ≤ (if q then 0 else 1) + y
same_or_less true true x y kept le = omega (arith, le)
same_or_less true false x y kept le = omega (arith, le)
same_or_less false true x y kept le = let e : false ≡ true = kept refl in absurd (cc)
same_or_less false false x y kept le = omega (arith, le)

still_less : (p q : Bool) (x y : ℕ) → (q ≡ true → p ≡ true) → x < y → (if p then 0 else 1) + x < (if q then 0 else 1) + y
still_less true true x y kept less = omega (arith, less)
still_less true false x y kept less = omega (arith, less)
still_less false true x y kept less = let e : false ≡ true = kept refl in absurd (cc)
still_less false false x y kept less = omega (arith, less)

now_less : (p q : Bool) (x y : ℕ) → p ≡ true → q ≡ false → x ≤ y → (if p then 0 else 1) + x < (if q then 0 else 1) + y
now_less true true x y there new le = absurd (cc)
now_less true false x y there new le = omega (arith, le)
now_less false q x y there new le = absurd (cc)

module _ (done more : ℕ → Option ℕ) (id index : ℕ) (updates : (q : ℕ) → more q ≡ cond (nat_eq id q) (Some index) (done q)) where
  kept : (k : ℕ) → is_some (done k) ≡ true → is_some (more k) ≡ true
  kept k there = ap is_some (updates k) ∙ by (nat_eq id k)
    where
      by : (b : Bool) → is_some (cond b (Some index) (done k)) ≡ true
      by true = refl
      by false = there

  there : is_some (more id) ≡ true
  there = ap is_some (updates id) ∙ by (nat_eq id id) (nat_eq_equiv.refl id)
    where
      by : (b : Bool) → b ≡ true → is_some (cond b (Some index) (done id)) ≡ true
      by true e = refl
      by false e = absurd (cc)

  no_more : (n : ℕ) → left more n ≤ left done n
  unfolding left
  no_more zero = omega arith
  no_more (suc n) = same_or_less (is_some (more n)) (is_some (done n)) (left more n) (left done n) (kept n) (no_more n)

  pub fewer : (n : ℕ) → id < n → IsNew done id → left more n < left done n
  unfolding left
  fewer zero less new = absurd (omega (arith, less))
  fewer (suc n) less new = elim (cases_lt id n) [
    | inl before ↦ still_less (is_some (more n)) (is_some (done n)) (left more n) (left done n) (kept n) (fewer n before new)
    | inr past ↦
        let at : id ≡ n = omega (arith, less, past) in
        now_less (is_some (more n)) (is_some (done n)) (left more n) (left done n) (subst (λ (k : ℕ). is_some (more k) ≡ true) at there)
        (subst (λ (k : ℕ). is_some (done k) ≡ false) at new) (no_more n)
  ]
