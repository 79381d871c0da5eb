-- Numbers where what one is now has changed, and where one has been added.
use Rattle.std.proofs.Common.{◌≡◌, ℕ, zero, suc, ◌+◌, true, List, [], ◌∷◌, ◌++◌, length, get_or, set, ◌⊎◌, inl, inr, refl, sym, ap, ◌∙◌, arith, length-set, length-append}
use Rattle.std.specs.Prelude.{nat_lt}
use Rattle.std.proofs.lemmas.Bool.{ltb-true, lt-ltb}
use Rattle.term_core_spec.specs.Term.{Term}
use Rattle.word_steps_spec.specs.Numbers.{Number, missing, number_at, is_number, operation_at, term_at, now_at, with_now}

set_either : {A : Type 0} (xs : List A) (i j : ℕ) (a d : A) → (get_or (set xs i a) j d ≡ get_or xs j d) ⊎ ((j ≡ i) × (get_or (set xs i a) j d ≡ a))
set_either [] i j a d = inl refl
set_either (x ∷ xs) zero zero a d = inr (refl, refl)
set_either (x ∷ xs) zero (suc j) a d = inl refl
set_either (x ∷ xs) (suc i) zero a d = inl refl
set_either {A} (x ∷ xs) (suc i) (suc j) a d = by (set_either xs i j a d)
  where
    by : (get_or (set xs i a) j d ≡ get_or xs j d) ⊎ ((j ≡ i) × (get_or (set xs i a) j d ≡ a))
        → (get_or (set xs i a) j d ≡ get_or xs j d) ⊎ ((suc j ≡ suc i) × (get_or (set xs i a) j d ≡ a))
    by (inl e) = inl e
    by (inr e) = inr (ap suc e.0, e.1)

push_either : {A : Type 0} (xs : List A) (j : ℕ) (a d : A) → (get_or (xs ++ a ∷ []) j d ≡ get_or xs j d) ⊎ ((j ≡ length xs) × (get_or (xs ++ a ∷ []) j d ≡ a))
push_either [] zero a d = inr (refl, refl)
push_either [] (suc j) a d = inl refl
push_either (x ∷ xs) zero a d = inl refl
push_either {A} (x ∷ xs) (suc j) a d = by (push_either xs j a d)
  where
    by : (get_or (xs ++ a ∷ []) j d ≡ get_or xs j d) ⊎ ((j ≡ length xs) × (get_or (xs ++ a ∷ []) j d ≡ a))
        → (get_or (xs ++ a ∷ []) j d ≡ get_or xs j d) ⊎ ((suc j ≡ suc (length xs)) × (get_or (xs ++ a ∷ []) j d ≡ a))
    by (inl e) = inl e
    by (inr e) = inr (ap suc e.0, e.1)

-- the number n, where t is what it is now
abbrev pub now_is : Number → Term → Number
now_is n t = record n { now = t }

pub with_now-either : (numbers : List Number) (k : ℕ) (t : Term) (j : ℕ)
    → (number_at (with_now numbers k t) j ≡ number_at numbers j) ⊎ ((j ≡ k) × (number_at (with_now numbers k t) j ≡ now_is (number_at numbers k) t))
unfolding number_at with_now
with_now-either numbers zero t j = inl refl
with_now-either numbers (suc i) t zero = inl refl
with_now-either numbers (suc i) t (suc j) = by (set_either numbers i j (now_is (get_or numbers i missing) t) missing)
  where
    by : (get_or (set numbers i (now_is (get_or numbers i missing) t)) j missing ≡ get_or numbers j missing)
        ⊎ ((j ≡ i) × (get_or (set numbers i (now_is (get_or numbers i missing) t)) j missing ≡ now_is (get_or numbers i missing) t))
        → (get_or (set numbers i (now_is (get_or numbers i missing) t)) j missing ≡ get_or numbers j missing)
        ⊎ ((suc j ≡ suc i) × (get_or (set numbers i (now_is (get_or numbers i missing) t)) j missing ≡ now_is (get_or numbers i missing) t))
    by (inl e) = inl e
    by (inr e) = inr (ap suc e.0, e.1)

-- every number has the operator and the term that it had
pub with_now-operation : (numbers : List Number) (k : ℕ) (t : Term) (j : ℕ) → operation_at (with_now numbers k t) j ≡ operation_at numbers j
with_now-operation numbers k t j = by (with_now-either numbers k t j)
  where
    by : (number_at (with_now numbers k t) j ≡ number_at numbers j) ⊎ ((j ≡ k) × (number_at (with_now numbers k t) j ≡ now_is (number_at numbers k) t))
        → operation_at (with_now numbers k t) j ≡ operation_at numbers j
    by (inl e) = ap (λ (n : Number). n.operation) e
    by (inr e) = ap (λ (n : Number). n.operation) e.1 ∙ ap (operation_at numbers) (sym e.0)

pub with_now-term : (numbers : List Number) (k : ℕ) (t : Term) (j : ℕ) → term_at (with_now numbers k t) j ≡ term_at numbers j
with_now-term numbers k t j = by (with_now-either numbers k t j)
  where
    by : (number_at (with_now numbers k t) j ≡ number_at numbers j) ⊎ ((j ≡ k) × (number_at (with_now numbers k t) j ≡ now_is (number_at numbers k) t))
        → term_at (with_now numbers k t) j ≡ term_at numbers j
    by (inl e) = ap (λ (n : Number). n.term) e
    by (inr e) = ap (λ (n : Number). n.term) e.1 ∙ ap (term_at numbers) (sym e.0)

-- what j is now is what it was, or j is k and is t
pub with_now-now : (numbers : List Number) (k : ℕ) (t : Term) (j : ℕ)
    → (now_at (with_now numbers k t) j ≡ now_at numbers j) ⊎ ((j ≡ k) × (now_at (with_now numbers k t) j ≡ t))
with_now-now numbers k t j = by (with_now-either numbers k t j)
  where
    by : (number_at (with_now numbers k t) j ≡ number_at numbers j) ⊎ ((j ≡ k) × (number_at (with_now numbers k t) j ≡ now_is (number_at numbers k) t))
        → (now_at (with_now numbers k t) j ≡ now_at numbers j) ⊎ ((j ≡ k) × (now_at (with_now numbers k t) j ≡ t))
    by (inl e) = inl (ap (λ (n : Number). n.now) e)
    by (inr e) = inr (e.0, ap (λ (n : Number). n.now) e.1)

pub with_now-there : (numbers : List Number) (k : ℕ) (t : Term) (j : ℕ) → is_number (with_now numbers k t) j ≡ is_number numbers j
unfolding is_number with_now
with_now-there numbers zero t j = refl
with_now-there numbers (suc i) t zero = refl
with_now-there numbers (suc i) t (suc j) = ap (nat_lt j) (length-set numbers i (now_is (get_or numbers i missing) t))

-- ---- one number more

pub push-either : (numbers : List Number) (n : Number) (j : ℕ)
    → (number_at (numbers ++ n ∷ []) j ≡ number_at numbers j) ⊎ ((j ≡ suc (length numbers)) × (number_at (numbers ++ n ∷ []) j ≡ n))
unfolding number_at
push-either numbers n zero = inl refl
push-either numbers n (suc j) = by (push_either numbers j n missing)
  where
    by : (get_or (numbers ++ n ∷ []) j missing ≡ get_or numbers j missing) ⊎ ((j ≡ length numbers) × (get_or (numbers ++ n ∷ []) j missing ≡ n))
        → (get_or (numbers ++ n ∷ []) j missing ≡ get_or numbers j missing) ⊎ ((suc j ≡ suc (length numbers)) × (get_or (numbers ++ n ∷ []) j missing ≡ n))
    by (inl e) = inl e
    by (inr e) = inr (ap suc e.0, e.1)

-- a number that was there is as it was
pub push-same : (numbers : List Number) (n : Number) (j : ℕ) → is_number numbers j ≡ true → number_at (numbers ++ n ∷ []) j ≡ number_at numbers j
unfolding is_number
push-same numbers n zero there = absurd (cc)
push-same numbers n (suc j) there = by (push-either numbers n (suc j))
  where
    by : (number_at (numbers ++ n ∷ []) (suc j) ≡ number_at numbers (suc j)) ⊎ ((suc j ≡ suc (length numbers)) × (number_at (numbers ++ n ∷ []) (suc j) ≡ n))
        → number_at (numbers ++ n ∷ []) (suc j) ≡ number_at numbers (suc j)
    by (inl e) = e
    by (inr e) = let below = ltb-true j (length numbers) there in absurd (omega (arith, below, e.0))

pub push-there : (numbers : List Number) (n : Number) (j : ℕ) → is_number numbers j ≡ true → is_number (numbers ++ n ∷ []) j ≡ true
unfolding is_number
push-there numbers n zero there = absurd (cc)
push-there numbers n (suc j) there =
    let below = ltb-true j (length numbers) there in
    let more : length (numbers ++ n ∷ []) ≡ length numbers + 1 = length-append numbers (n ∷ []) in
    lt-ltb j (length (numbers ++ n ∷ [])) (omega (arith, below, more))
