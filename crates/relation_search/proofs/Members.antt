-- Members of lists of numbers, and of what a filter keeps of them.
use Rattle.std.proofs.Common.{◌≡◌, ◌⊎◌, ◌<◌, ◌≤◌, ◌||◌, ℕ, Bool, true, false, cond, List, [], ◌∷◌, length, get_or, refl, sym, subst, inl, inr, arith, eqb-true, eq-eqb}
use Rattle.std.specs.Prelude.{Contains, filter, nat_eq}
use Rattle.std.specs.List.{list_any}
use Rattle.std.proofs.lemmas.List.Elements.{Contains-append_cases, Contains-append_right}

pub none_contained : (t : ℕ) → Contains [] t → ⊥
none_contained t (k, below, here) = omega (arith, below)

only_contained : (x t : ℕ) → Contains (x ∷ []) t → t ≡ x
only_contained x t (k, below, here) = first k below here
  where
    first : (k : ℕ) → k < length (x ∷ []) → get_or (x ∷ []) k t ≡ t → t ≡ x
    first k below here = let zero : k ≡ 0 = omega (arith, below) in sym (subst (λ j. get_or (x ∷ []) j t ≡ t) zero here)

pub contained_here : (x : ℕ) (xs : List ℕ) → Contains (x ∷ xs) x
contained_here x xs = (0, omega arith, refl)

pub contained_later : (x : ℕ) (xs : List ℕ) (t : ℕ) → Contains xs t → Contains (x ∷ xs) t
contained_later x xs t c = Contains-append_right (x ∷ []) xs t c

pub contained_cases : (x : ℕ) (xs : List ℕ) (t : ℕ) → Contains (x ∷ xs) t → (t ≡ x) ⊎ Contains xs t
contained_cases x xs t c = elim (Contains-append_cases (x ∷ []) xs t c) [ inl only ↦ inl (only_contained x t only) | inr later ↦ inr later ]

-- ---- whether a number is a member

pub contained_or_not : (xs : List ℕ) (t : ℕ) → Contains xs t ⊎ (Contains xs t → ⊥)
contained_or_not [] t = inr (none_contained t)
contained_or_not (x ∷ xs) t = decided (nat_eq x t) refl (contained_or_not xs t)
  where
    decided : (b : Bool) → nat_eq x t ≡ b → Contains xs t ⊎ (Contains xs t → ⊥) → Contains (x ∷ xs) t ⊎ (Contains (x ∷ xs) t → ⊥)
    decided true e rest = inl (subst (Contains (x ∷ xs)) (eqb-true x t e) (contained_here x xs))
    decided false e (inl later) = inl (contained_later x xs t later)
    decided false e (inr absent) = inr (λ c. elim (contained_cases x xs t c) [ inl same ↦ absurd (let is = eq-eqb x t (sym same) in cc) | inr later ↦ absent later ])

pub any_of_contained : (xs : List ℕ) (t : ℕ) → Contains xs t → list_any (λ x. nat_eq x t) xs ≡ true
any_of_contained [] t c = absurd (none_contained t c)
any_of_contained (x ∷ xs) t c = found (nat_eq x t) refl (contained_cases x xs t c) (λ later. any_of_contained xs t later)
  where
    found : (b : Bool) → nat_eq x t ≡ b → (t ≡ x) ⊎ Contains xs t → (Contains xs t → list_any (λ x. nat_eq x t) xs ≡ true)
        → (b || list_any (λ x. nat_eq x t) xs) ≡ true
    found true e cases rest = refl
    found false e (inl same) rest = absurd (let is = eq-eqb x t (sym same) in cc)
    found false e (inr later) rest = rest later

pub none_of_others : (xs : List ℕ) (t : ℕ) → (Contains xs t → ⊥) → list_any (λ x. nat_eq x t) xs ≡ false
none_of_others [] t absent = refl
none_of_others (x ∷ xs) t absent = missed (nat_eq x t) refl (none_of_others xs t (λ c. absent (contained_later x xs t c)))
  where
    missed : (b : Bool) → nat_eq x t ≡ b → list_any (λ x. nat_eq x t) xs ≡ false → (b || list_any (λ x. nat_eq x t) xs) ≡ false
    missed true e rest = absurd (absent (subst (Contains (x ∷ xs)) (eqb-true x t e) (contained_here x xs)))
    missed false e rest = rest

-- ---- what a filter keeps

module _ (test : ℕ → Bool) where
  pub in_filter : (xs : List ℕ) (t : ℕ) → Contains xs t → test t ≡ true → Contains (filter test xs) t
  in_filter [] t c passes = absurd (none_contained t c)
  in_filter (x ∷ xs) t c passes = kept (test x) refl (contained_cases x xs t c) (λ later. in_filter xs t later passes)
    where
      kept : (b : Bool) → test x ≡ b → (t ≡ x) ⊎ Contains xs t → (Contains xs t → Contains (filter test xs) t)
          → Contains (cond b (x ∷ filter test xs) (filter test xs)) t
      kept true e (inl same) rest = subst (Contains (x ∷ filter test xs)) (sym same) (contained_here x (filter test xs))
      kept true e (inr later) rest = contained_later x (filter test xs) t (rest later)
      kept false e (inl same) rest = absurd (let is : test x ≡ true = subst (λ z. test z ≡ true) same passes in cc)
      kept false e (inr later) rest = rest later

  pub of_filter : (xs : List ℕ) (t : ℕ) → Contains (filter test xs) t → Contains xs t
  of_filter [] t c = c
  of_filter (x ∷ xs) t c = among (test x) (λ later. of_filter xs t later) c
    where
      among : (b : Bool) → (Contains (filter test xs) t → Contains xs t) → Contains (cond b (x ∷ filter test xs) (filter test xs)) t → Contains (x ∷ xs) t
      among true rest c = elim (contained_cases x (filter test xs) t c) [
        | inl same ↦ subst (Contains (x ∷ xs)) (sym same) (contained_here x xs)
        | inr later ↦ contained_later x xs t (rest later)
      ]
      among false rest c = contained_later x xs t (rest c)

  at_most : (xs : List ℕ) → length (filter test xs) ≤ length xs
  at_most [] = omega arith
  at_most (x ∷ xs) = by_test (test x) (at_most xs)
    where
      by_test : (b : Bool) → length (filter test xs) ≤ length xs → length (cond b (x ∷ filter test xs) (filter test xs)) ≤ length (x ∷ xs)
      by_test true rest = omega (arith, rest)
      by_test false rest = omega (arith, rest)

  -- where a member doesn't pass, it keeps fewer
  pub fewer_pass : (xs : List ℕ) (t : ℕ) → Contains xs t → test t ≡ false → length (filter test xs) < length xs
  fewer_pass [] t c fails = absurd (none_contained t c)
  fewer_pass (x ∷ xs) t c fails = by_test (test x) refl (contained_cases x xs t c) (at_most xs) (λ later. fewer_pass xs t later fails)
    where
      by_test : (b : Bool) → test x ≡ b → (t ≡ x) ⊎ Contains xs t → length (filter test xs) ≤ length xs
          → (Contains xs t → length (filter test xs) < length xs) → length (cond b (x ∷ filter test xs) (filter test xs)) < length (x ∷ xs)
      by_test true e (inl same) most rest = absurd (let is : test x ≡ false = subst (λ z. test z ≡ false) same fails in cc)
      by_test true e (inr later) most rest = let less = rest later in omega (arith, less)
      by_test false e cases most rest = omega (arith, most)
