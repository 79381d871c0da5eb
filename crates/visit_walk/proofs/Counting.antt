-- Counts of arrivals, mark by mark.
use Rattle.std.proofs.Common.{◌≡◌, ◌⊎◌, inl, inr, ℕ, zero, suc, ◌+◌, ◌<◌, ◌≤◌, true, false, List, [], ◌∷◌, ◌++◌, length, map, get_or, drop, replicate, refl, sym, ◌∙◌, ap, subst, arith, append_assoc, append-nil}
use Rattle.std.specs.Prelude.{◌==◌, ◌||◌, if◌then◌else◌}
use Rattle.graph_core_spec.specs.declared.Next.{Next}
use Rattle.graph_core_spec.specs.declared.Next.TheVariants as next
use Rattle.graph_core_spec.specs.declared.Mark.{Mark}
use Rattle.visit_walk_spec.specs.Visits.{counted, is_full, is_last}

next_index : (i : ℕ) → i + 1 ≡ suc i
next_index i = omega arith

module _ (n : ℕ) where
  last-step-suc : (ms : List Mark) (cs : List ℕ) (i : ℕ) (d : Mark) (e : ℕ) → i < length ms → i < length cs
      → is_last (next.At n) (drop i ms) (drop i cs) ≡ (is_full (next.At n) (get_or ms i d) (get_or cs i e) || is_last (next.At n) (drop (suc i) ms) (drop (suc i) cs))
  last-step-suc [] cs i d e a b = absurd (omega (arith, a))
  last-step-suc (m ∷ ms) [] i d e a b = absurd (omega (arith, b))
  last-step-suc (m ∷ ms) (c ∷ cs) zero d e a b = refl
  last-step-suc (m ∷ ms) (c ∷ cs) (suc i) d e a b = last-step-suc ms cs i d e (omega (arith, a)) (omega (arith, b))

  pub last-found : (ms : List Mark) (cs : List ℕ) (i : ℕ) (d : Mark) (e : ℕ) → i < length ms → i < length cs → is_full (next.At n) (get_or ms i d) (get_or cs i e) ≡ true
      → is_last (next.At n) (drop i ms) (drop i cs) ≡ true
  last-found ms cs i d e a b full = last-step-suc ms cs i d e a b ∙ ap (λ t. t || is_last (next.At n) (drop (suc i) ms) (drop (suc i) cs)) full

  pub last-next : (ms : List Mark) (cs : List ℕ) (i : ℕ) (d : Mark) (e : ℕ) → i < length ms → i < length cs → is_full (next.At n) (get_or ms i d) (get_or cs i e) ≡ false
      → is_last (next.At n) (drop (i + 1) ms) (drop (i + 1) cs) ≡ is_last (next.At n) (drop i ms) (drop i cs)
  last-next ms cs i d e a b full =
      subst (λ k. is_last (next.At n) (drop k ms) (drop k cs) ≡ is_last (next.At n) (drop i ms) (drop i cs)) (sym (next_index i))
      (sym (last-step-suc ms cs i d e a b ∙ ap (λ t. t || is_last (next.At n) (drop (suc i) ms) (drop (suc i) cs)) full))

  pub last-over : (ms : List Mark) (cs : List ℕ) (i : ℕ) → length cs ≤ i → is_last (next.At n) (drop i ms) (drop i cs) ≡ false
  last-over [] [] zero over = refl
  last-over [] [] (suc i) over = refl
  last-over [] (c ∷ cs) zero over = refl
  last-over [] (c ∷ cs) (suc i) over = refl
  last-over (m ∷ ms) [] zero over = refl
  last-over (m ∷ ms) [] (suc i) over = over_nothing (drop i ms)
    where
      over_nothing : (ms : List Mark) → is_last (next.At n) ms [] ≡ false
      over_nothing [] = refl
      over_nothing (m ∷ ms) = refl
  last-over (m ∷ ms) (c ∷ cs) zero over = absurd (omega (arith, over))
  last-over (m ∷ ms) (c ∷ cs) (suc i) over = last-over ms cs i (omega (arith, over))

  pub last-end : (ms : List Mark) (cs : List ℕ) (i : ℕ) → length ms ≤ i → is_last (next.At n) (drop i ms) (drop i cs) ≡ false
  last-end [] cs zero over = refl
  last-end [] cs (suc i) over = refl
  last-end (m ∷ ms) cs zero over = absurd (omega (arith, over))
  last-end (m ∷ ms) [] (suc i) over = none ms i
    where
      none : (ms : List Mark) (i : ℕ) → is_last (next.At n) (drop i ms) [] ≡ false
      none [] zero = refl
      none [] (suc i) = refl
      none (m ∷ ms) zero = refl
      none (m ∷ ms) (suc i) = none ms i
  last-end (m ∷ ms) (c ∷ cs) (suc i) over = last-end ms cs i (omega (arith, over))

  counted-step-suc : (ms : List Mark) (cs : List ℕ) (i : ℕ) (d : Mark) (e : ℕ) → i < length ms → i < length cs
      → counted n (drop i ms) (drop i cs) ≡ (if (get_or ms i d).node == n then suc (get_or cs i e) else get_or cs i e) ∷ counted n (drop (suc i) ms) (drop (suc i) cs)
  counted-step-suc [] cs i d e a b = absurd (omega (arith, a))
  counted-step-suc (m ∷ ms) [] i d e a b = absurd (omega (arith, b))
  counted-step-suc (m ∷ ms) (c ∷ cs) zero d e a b = refl
  counted-step-suc (m ∷ ms) (c ∷ cs) (suc i) d e a b = counted-step-suc ms cs i d e (omega (arith, a)) (omega (arith, b))

  -- one more count is added
  pub counted-next : (ms : List Mark) (cs new more : List ℕ) (i : ℕ) (d : Mark) (e next : ℕ) → i < length ms → i < length cs
      → next ≡ (if (get_or ms i d).node == n then suc (get_or cs i e) else get_or cs i e) → more ≡ new ++ next ∷ []
      → new ++ counted n (drop i ms) (drop i cs) ≡ counted n ms cs → more ++ counted n (drop (i + 1) ms) (drop (i + 1) cs) ≡ counted n ms cs
  counted-next ms cs new more i d e next a b is pushed before =
      subst (λ k. more ++ counted n (drop k ms) (drop k cs) ≡ counted n ms cs) (sym (next_index i))
      (ap (λ l. l ++ counted n (drop (suc i) ms) (drop (suc i) cs)) pushed
      ∙ (append_assoc new (next ∷ []) (counted n (drop (suc i) ms) (drop (suc i) cs))
      ∙ (ap (λ x. new ++ x ∷ counted n (drop (suc i) ms) (drop (suc i) cs)) is
      ∙ (ap (λ l. new ++ l) (sym (counted-step-suc ms cs i d e a b)) ∙ before))))

  counted-over : (ms : List Mark) (cs : List ℕ) (i : ℕ) → length cs ≤ i → counted n (drop i ms) (drop i cs) ≡ []
  counted-over [] [] zero over = refl
  counted-over [] [] (suc i) over = refl
  counted-over [] (c ∷ cs) zero over = refl
  counted-over [] (c ∷ cs) (suc i) over = refl
  counted-over (m ∷ ms) [] zero over = refl
  counted-over (m ∷ ms) [] (suc i) over = none (drop i ms)
    where
      none : (ms : List Mark) → counted n ms [] ≡ []
      none [] = refl
      none (m ∷ ms) = refl
  counted-over (m ∷ ms) (c ∷ cs) zero over = absurd (omega (arith, over))
  counted-over (m ∷ ms) (c ∷ cs) (suc i) over = counted-over ms cs i (omega (arith, over))

  counted-end : (ms : List Mark) (cs : List ℕ) (i : ℕ) → length ms ≤ i → counted n (drop i ms) (drop i cs) ≡ []
  counted-end [] cs zero over = refl
  counted-end [] cs (suc i) over = refl
  counted-end (m ∷ ms) cs zero over = absurd (omega (arith, over))
  counted-end (m ∷ ms) [] (suc i) over = none ms i
    where
      none : (ms : List Mark) (i : ℕ) → counted n (drop i ms) [] ≡ []
      none [] zero = refl
      none [] (suc i) = refl
      none (m ∷ ms) zero = refl
      none (m ∷ ms) (suc i) = none ms i
  counted-end (m ∷ ms) (c ∷ cs) (suc i) over = counted-end ms cs i (omega (arith, over))

  pub counted-all-over : (ms : List Mark) (cs new : List ℕ) (i : ℕ) → length cs ≤ i → new ++ counted n (drop i ms) (drop i cs) ≡ counted n ms cs → new ≡ counted n ms cs
  counted-all-over ms cs new i over before = sym (append-nil new) ∙ (ap (λ l. new ++ l) (sym (counted-over ms cs i over)) ∙ before)

  pub counted-all-end : (ms : List Mark) (cs new : List ℕ) (i : ℕ) → length ms ≤ i → new ++ counted n (drop i ms) (drop i cs) ≡ counted n ms cs → new ≡ counted n ms cs
  counted-all-end ms cs new i over before = sym (append-nil new) ∙ (ap (λ l. new ++ l) (sym (counted-end ms cs i over)) ∙ before)

pub zeros-are : (ms : List Mark) → map {B = ℕ} (λ m. 0) ms ≡ replicate (length ms) 0
zeros-are [] = refl
zeros-are (m ∷ ms) = ap (λ l. 0 ∷ l) (zeros-are ms)

-- at a return or a failure no mark is full
pub no-node : (place : Next) (ms : List Mark) (cs : List ℕ) → ((n : ℕ) → place ≡ next.At n → ⊥) → is_last place ms cs ≡ false
no-node place [] cs never = refl
no-node place (m ∷ ms) [] never = refl
no-node place (m ∷ ms) (c ∷ cs) never = ap (λ b. b || is_last place ms cs) (none place never) ∙ no-node place ms cs never
  where
    none : (place : Next) → ((n : ℕ) → place ≡ next.At n → ⊥) → is_full place m c ≡ false
    none (next.At n) never = absurd (never n refl)
    none next.Ret never = refl
    none next.Err never = refl

pub ended-place : (place : Next) (ms : List Mark) (cs : List ℕ) → (place ≡ next.Ret) ⊎ (place ≡ next.Err) → false ≡ is_last place ms cs
ended-place place ms cs (inl e) = sym (no-node place ms cs (λ n f. cc))
ended-place place ms cs (inr e) = sym (no-node place ms cs (λ n f. cc))
