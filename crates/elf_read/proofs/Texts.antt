-- The bytes of a list up to the first that passes a test; those of a string table from an offset up to a 0 byte.
use Rattle.std.proofs.Common.{◌≡◌, ◌≢◌, ◌==◌, ◌+◌, ◌-◌, ◌<◌, ◌≤◌, ◌∙◌, ◌++◌, ℕ, zero, suc, Bool, true, false, List, [], ◌∷◌, length, get_or, take, drop, ap, sym, refl, arith, add-one, eq-eqb, ne_eqb}
use Rattle.std.specs.List.{before_first, position_or_len}
use Rattle.std.proofs.Math.Seq.{drop-cons}
use Rattle.std.proofs.lemmas.List.{length-drop, drop_all}
use Rattle.elf_read.specs.NameTree.{text_at}

pub positive : (n : ℕ) → (n ≡ 0 → ⊥) → 0 < n
positive zero other = absurd (other refl)
positive (suc n) other = omega arith

pub rejoin : {X : Type 0} (n : ℕ) (xs : List X) → take n xs ++ drop n xs ≡ xs
rejoin zero xs = refl
rejoin (suc n) [] = refl
rejoin (suc n) (x ∷ xs) = ap (λ ys. x ∷ ys) (rejoin n xs)

pub drop_twice : {X : Type 0} (a b : ℕ) (xs : List X) → drop b (drop a xs) ≡ drop (a + b) xs
drop_twice zero b xs = let same : 0 + b ≡ b = omega arith in ap (λ n. drop n xs) (sym same)
drop_twice (suc a) b [] = drop_all b [] (omega arith) ∙ sym (drop_all (suc a + b) [] (omega arith))
drop_twice (suc a) b (x ∷ xs) =
    let same : suc a + b ≡ suc (a + b) = omega arith in
    drop_twice a b xs ∙ ap (λ n. drop n (x ∷ xs)) (sym same)

first_hit : {X : Type 0} (p : X → Bool) (x : X) (xs : List X) → p x ≡ true → before_first p (x ∷ xs) ≡ []
first_hit p x xs e = let at : position_or_len p (x ∷ xs) ≡ 0 = rw e refl in ap (λ n. take n (x ∷ xs)) at

first_miss : {X : Type 0} (p : X → Bool) (x : X) (xs : List X) → p x ≡ false → before_first p (x ∷ xs) ≡ x ∷ before_first p xs
first_miss p x xs e =
    let more : 1 + position_or_len p xs ≡ suc (position_or_len p xs) = omega arith in
    let at : position_or_len p (x ∷ xs) ≡ suc (position_or_len p xs) = rw e more in
    ap (λ n. take n (x ∷ xs)) at

-- no more than all
before_upto : {X : Type 0} (p : X → Bool) (xs : List X) → length (before_first p xs) ≤ length xs
before_upto p [] = omega arith
before_upto p (x ∷ xs) = by_test (p x) refl (before_upto p xs)
  where
    by_test : (b : Bool) → p x ≡ b → length (before_first p xs) ≤ length xs → length (before_first p (x ∷ xs)) ≤ length (x ∷ xs)
    by_test true e h = let none : length (before_first p (x ∷ xs)) ≡ 0 = ap length (first_hit p x xs e) in omega arith
    by_test false e h =
        let more : length (before_first p (x ∷ xs)) ≡ suc (length (before_first p xs)) = ap length (first_miss p x xs e) in
        let long : length (x ∷ xs) ≡ suc (length xs) = refl in
        omega arith

-- the first of them are the first of all
before_take : {X : Type 0} (p : X → Bool) (k : ℕ) (xs : List X) → k ≤ length (before_first p xs) → take k xs ≡ take k (before_first p xs)
before_take p zero xs h = refl
before_take p (suc k) [] h = refl
before_take p (suc k) (x ∷ xs) h = by_test (p x) refl (λ less. before_take p k xs less)
  where
    by_test : (b : Bool) → p x ≡ b → (k ≤ length (before_first p xs) → take k xs ≡ take k (before_first p xs))
        → take (suc k) (x ∷ xs) ≡ take (suc k) (before_first p (x ∷ xs))
    by_test true e next = let none : length (before_first p (x ∷ xs)) ≡ 0 = ap length (first_hit p x xs e) in absurd (omega arith)
    by_test false e next =
        let more : length (before_first p (x ∷ xs)) ≡ suc (length (before_first p xs)) = ap length (first_miss p x xs e) in
        ap (λ ys. x ∷ ys) (next (omega arith)) ∙ ap (λ ys. take (suc k) ys) (sym (first_miss p x xs e))

-- all but the first of them
before_drop : {X : Type 0} (p : X → Bool) (k : ℕ) (xs : List X) → k ≤ length (before_first p xs) → before_first p (drop k xs) ≡ drop k (before_first p xs)
before_drop p zero xs h = refl
before_drop p (suc k) [] h = refl
before_drop p (suc k) (x ∷ xs) h = by_test (p x) refl (λ less. before_drop p k xs less)
  where
    by_test : (b : Bool) → p x ≡ b → (k ≤ length (before_first p xs) → before_first p (drop k xs) ≡ drop k (before_first p xs))
        → before_first p (drop k xs) ≡ drop (suc k) (before_first p (x ∷ xs))
    by_test true e next = let none : length (before_first p (x ∷ xs)) ≡ 0 = ap length (first_hit p x xs e) in absurd (omega arith)
    by_test false e next =
        let more : length (before_first p (x ∷ xs)) ≡ suc (length (before_first p xs)) = ap length (first_miss p x xs e) in
        next (omega arith) ∙ ap (λ ys. drop (suc k) ys) (sym (first_miss p x xs e))

-- the text at an offset, from that at the next one
pub text_ends : (strings : List ℕ) (at : ℕ) → at < length strings → get_or strings at 0 ≡ 0 → text_at strings at ≡ []
text_ends strings at h none =
    ap (λ ys. before_first (λ b. b == 0) ys) (drop-cons strings at 0 h)
    ∙ first_hit (λ b. b == 0) (get_or strings at 0) (drop (suc at) strings) (eq-eqb (get_or strings at 0) 0 none)

pub text_goes_on : (strings : List ℕ) (at : ℕ) → at < length strings → get_or strings at 0 ≢ 0
    → text_at strings at ≡ get_or strings at 0 ∷ text_at strings (at + 1)
text_goes_on strings at h other =
    ap (λ ys. before_first (λ b. b == 0) ys) (drop-cons strings at 0 h)
    ∙ first_miss (λ b. b == 0) (get_or strings at 0) (drop (suc at) strings) (ne_eqb (get_or strings at 0) 0 other)
    ∙ ap (λ n. get_or strings at 0 ∷ before_first (λ b. b == 0) (drop n strings)) (sym (add-one at))

-- the text at an offset inside a text
pub text_inside : (strings : List ℕ) (at k : ℕ) → k ≤ length (text_at strings at) → text_at strings (at + k) ≡ drop k (text_at strings at)
text_inside strings at k h =
    ap (λ ys. before_first (λ b. b == 0) ys) (sym (drop_twice at k strings)) ∙ before_drop (λ b. b == 0) k (drop at strings) h

-- the first bytes of a text
pub text_front : (strings : List ℕ) (at k : ℕ) → k ≤ length (text_at strings at) → take k (drop at strings) ≡ take k (text_at strings at)
text_front strings at k h = before_take (λ b. b == 0) k (drop at strings) h

pub text_upto : (strings : List ℕ) (at : ℕ) → length (text_at strings at) ≤ length strings - at
text_upto strings at = omega (arith, before_upto (λ b. b == 0) (drop at strings), length-drop at strings)
