-- Tests of the elements of a list, one after the other.
use Rattle.std.proofs.Common.{◌≡◌, ◌<◌, ◌+◌, ◌++◌, ℕ, Bool, true, false, List, [], ◌∷◌, length, get_or, take, refl, ap, ◌∙◌, subst}
use Rattle.std.specs.Prelude.{◌&&◌, ◌||◌}
use Rattle.std.specs.List.{list_any, list_all}
use Rattle.std.proofs.lemmas.List.{take_more}
use Rattle.std.proofs.lemmas.List.Folds.{list_all-append}
use Rattle.std.proofs.lemmas.List.Sums.{AllPass-from_list_all}

any_push : {X : Type 0} (p : X → Bool) (xs : List X) (x : X) → list_any p xs ≡ false → p x ≡ false → list_any p (xs ++ x ∷ []) ≡ false
any_push p [] x e f = ap (λ b. b || false) f
any_push p (y ∷ xs) x e f = neither (p y) (list_any p xs) e (λ rest. any_push p xs x rest f)
  where
    neither : (a b : Bool) → (a || b) ≡ false → (b ≡ false → list_any p (xs ++ x ∷ []) ≡ false) → (a || list_any p (xs ++ x ∷ [])) ≡ false
    neither true b e go = cc
    neither false b e go = go e

-- one more that fails
pub none_more : {X : Type 0} (p : X → Bool) (xs : List X) (i : ℕ) (x : X) → i < length xs → x ≡ get_or xs i x → p x ≡ false
    → list_any p (take i xs) ≡ false → list_any p (take (i + 1) xs) ≡ false
none_more p xs i x below here fails before =
    ap (list_any p) (take_more xs i x below) ∙ any_push p (take i xs) (get_or xs i x) before (subst (λ y. p y ≡ false) here fails)

and_both : (a b : Bool) → a ≡ true → b ≡ true → (a && (b && true)) ≡ true
and_both true true e f = refl
and_both true false e f = cc
and_both false b e f = cc

-- one more that passes
pub all_more : {X : Type 0} (p : X → Bool) (xs : List X) (i : ℕ) (x : X) → i < length xs → x ≡ get_or xs i x → p x ≡ true
    → list_all p (take i xs) ≡ true → list_all p (take (i + 1) xs) ≡ true
all_more p xs i x below here passes before =
    ap (list_all p) (take_more xs i x below) ∙ list_all-append p (take i xs) (get_or xs i x ∷ [])
    ∙ and_both (list_all p (take i xs)) (p (get_or xs i x)) before (subst (λ y. p y ≡ true) here passes)

-- one that fails
pub some_fails : {X : Type 0} (p : X → Bool) (xs : List X) (i : ℕ) (x : X) → i < length xs → x ≡ get_or xs i x → p x ≡ false → list_all p xs ≡ false
some_fails p xs i x below here fails = by_all (list_all p xs) refl
  where
    by_all : (b : Bool) → list_all p xs ≡ b → b ≡ false
    by_all true e = let passes = AllPass-from_list_all p xs e i x below in let gone = subst (λ y. p y ≡ false) here fails in cc
    by_all false e = refl
