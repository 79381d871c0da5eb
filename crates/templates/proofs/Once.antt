-- Numbers, each where it is first.
use Rattle.std.proofs.Common.{◌≡◌, ◌∙◌, ◌||◌, ℕ, Bool, true, false, List, [], ◌∷◌, ◌++◌, refl, sym, ap, eqb-true, eq-eqb}
use Rattle.std.specs.Prelude.{if◌then◌else◌, nat_eq}
use Rattle.std.specs.List.{list_any}
use Rattle.std.proofs.Math.Bool.{or_comm}
use Rattle.std.proofs.lemmas.List.Folds.{list_any-append}
use Rattle.templates_spec.specs.Templates.{each_once}

same_either : (a b : ℕ) → nat_eq a b ≡ nat_eq b a
same_either a b = by (nat_eq a b) (nat_eq b a) refl refl
  where
    by : (p q : Bool) → nat_eq a b ≡ p → nat_eq b a ≡ q → nat_eq a b ≡ nat_eq b a
    by true true e f = e ∙ sym f
    by false false e f = e ∙ sym f
    by true false e f = absurd (let same = eq-eqb b a (sym (eqb-true a b e)) in cc)
    by false true e f = absurd (let same = eq-eqb a b (sym (eqb-true b a f)) in cc)

pub any_either : (n : ℕ) (seen : List ℕ) → list_any (λ other. nat_eq other n) seen ≡ list_any (nat_eq n) seen
any_either n [] = refl
any_either n (x ∷ seen) = ap (λ (b : Bool). b || list_any (λ other. nat_eq other n) seen) (same_either x n) ∙ ap (λ (b : Bool). nat_eq n x || b) (any_either n seen)

abbrev AreAlike : List ℕ → List ℕ → Type 0
AreAlike xs ys = (n : ℕ) → list_any (nat_eq n) xs ≡ list_any (nat_eq n) ys

pub once_alike : (xs ys ns : List ℕ) → AreAlike xs ys → each_once xs ns ≡ each_once ys ns
unfolding each_once
once_alike xs ys [] alike = refl
once_alike xs ys (n ∷ ns) alike =
    by (list_any (nat_eq n) xs) (once_alike xs ys ns alike) (once_alike (n ∷ xs) (n ∷ ys) ns (λ m. ap (λ (b : Bool). nat_eq m n || b) (alike m)))
    ∙ ap (λ (b : Bool). if b then each_once ys ns else n ∷ each_once (n ∷ ys) ns) (alike n)
  where
    by : (b : Bool) → each_once xs ns ≡ each_once ys ns → each_once (n ∷ xs) ns ≡ each_once (n ∷ ys) ns
        → (if b then each_once xs ns else n ∷ each_once (n ∷ xs) ns) ≡ (if b then each_once ys ns else n ∷ each_once (n ∷ ys) ns)
    by true e f = e
    by false e f = ap (λ (l : List ℕ). n ∷ l) f

last_alike : (n : ℕ) (seen : List ℕ) → AreAlike (n ∷ seen) (seen ++ n ∷ [])
last_alike n seen m =
    or_comm (nat_eq m n) (list_any (nat_eq m) seen)
    ∙ (ap (λ (b : Bool). list_any (nat_eq m) seen || b) (or_comm false (nat_eq m n))
    ∙ sym (list_any-append (nat_eq m) seen (n ∷ [])))

-- a number that is there already, and one that isn't
pub once_again : (seen ns : List ℕ) (n : ℕ) → list_any (λ other. nat_eq other n) seen ≡ true → each_once seen (n ∷ ns) ≡ each_once seen ns
unfolding each_once
once_again seen ns n e = ap (λ (b : Bool). if b then each_once seen ns else n ∷ each_once (n ∷ seen) ns) (sym (any_either n seen) ∙ e)

pub once_new : (seen ns : List ℕ) (n : ℕ) → list_any (λ other. nat_eq other n) seen ≡ false → each_once seen (n ∷ ns) ≡ n ∷ each_once (seen ++ n ∷ []) ns
unfolding each_once
once_new seen ns n e =
    ap (λ (b : Bool). if b then each_once seen ns else n ∷ each_once (n ∷ seen) ns) (sym (any_either n seen) ∙ e)
    ∙ ap (λ (l : List ℕ). n ∷ l) (once_alike (n ∷ seen) (seen ++ n ∷ []) ns (last_alike n seen))
