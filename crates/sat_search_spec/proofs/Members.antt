-- Literals of a list.
use Rattle.std.proofs.Common.{◌≡◌, ◌⊎◌, inl, inr, ℕ, zero, suc, ◌<◌, ◌+◌, Bool, true, false, List, [], ◌∷◌, ◌++◌, Some, length, map, take, refl, ap, sym, ◌∙◌, subst, arith}
use Rattle.std.specs.Prelude.{◌==◌, ◌&&◌, ◌||◌, not, slice_get}
use Rattle.std.specs.List.{list_any}
use Rattle.std.proofs.lemmas.Bool.Decides.{Decides-eqb}
use Rattle.std.proofs.lemmas.List.Folds.{list_any-append}
use Rattle.clause_check_spec.specs.declared.Literal.{Literal}
use Rattle.clause_check_spec.specs.Clause.{negation, same_literal, same_sign}
use Rattle.clause_check_spec.specs.Step.{is_true}
use Rattle.sat_search_spec.specs.declared.Entry.{Entry}
use Rattle.sat_search_spec.specs.Clauses.{Has}

-- ---- tests

pub either : (a b : Bool) (P : Type 0) → (a || b) ≡ true → (a ≡ true → P) → (b ≡ true → P) → P
either true b P e f g = f refl
either false b P e f g = g e

pub or_left : (a b : Bool) → a ≡ true → (a || b) ≡ true
or_left true b e = refl
or_left false b e = cc

pub or_right : (a b : Bool) → b ≡ true → (a || b) ≡ true
or_right true b e = refl
or_right false b e = e

pub or_neither : (a b : Bool) → a ≡ false → b ≡ false → (a || b) ≡ false
or_neither true b e f = cc
or_neither false b e f = f

pub and_left : (a b : Bool) → (a && b) ≡ true → a ≡ true
and_left true b e = refl
and_left false b e = cc

pub and_right : (a b : Bool) → (a && b) ≡ true → b ≡ true
and_right true b e = e
and_right false b e = cc

pub and_both : (a b : Bool) → a ≡ true → b ≡ true → (a && b) ≡ true
and_both true b e f = f
and_both false b e f = cc

pub true_or_false : (b : Bool) → (b ≡ true) ⊎ (b ≡ false)
true_or_false true = inl refl
true_or_false false = inr refl

pub not_false_is : (b : Bool) → not b ≡ false → b ≡ true
not_false_is true e = refl
not_false_is false e = cc

pub false_by : (b : Bool) → (b ≡ true → ⊥) → b ≡ false
false_by true f = absurd (f refl)
false_by false f = refl

-- ---- literals

not_not : (b : Bool) → not (not b) ≡ b
not_not true = refl
not_not false = refl

pub negation_twice : (l : Literal) → negation (negation l) ≡ l
negation_twice l = ap (λ b. let m : Literal = record { variable = l.variable; is_negated = b } in m) (not_not l.is_negated)

not_own : (b : Bool) → not b ≡ b → ⊥
not_own true e = cc
not_own false e = cc

pub not_negation : (l : Literal) → l ≡ negation l → ⊥
not_negation l e = not_own l.is_negated (sym (ap (λ m. m.is_negated) e))

pub negations_same : (a b : Literal) → negation a ≡ negation b → a ≡ b
negations_same a b e = sym (negation_twice a) ∙ ap negation e ∙ negation_twice b

same_sign_is : (a b : Bool) → same_sign a b ≡ true → a ≡ b
same_sign_is true b e = sym e
same_sign_is false true e = cc
same_sign_is false false e = refl

same_sign_refl : (b : Bool) → same_sign b b ≡ true
same_sign_refl true = refl
same_sign_refl false = refl

pub same_is : (a b : Literal) → same_literal a b ≡ true → a ≡ b
same_is a b e =
    let v = (Decides-eqb a.variable b.variable).0 (and_left (a.variable == b.variable) (same_sign a.is_negated b.is_negated) e) in
    let s = same_sign_is a.is_negated b.is_negated (and_right (a.variable == b.variable) (same_sign a.is_negated b.is_negated) e) in
    ap (λ n. let m : Literal = record { variable = n; is_negated = a.is_negated } in m) v
    ∙ ap (λ s. let m : Literal = record { variable = b.variable; is_negated = s } in m) s

pub same_refl : (l : Literal) → same_literal l l ≡ true
same_refl l = and_both (l.variable == l.variable) (same_sign l.is_negated l.is_negated) ((Decides-eqb l.variable l.variable).1 refl) (same_sign_refl l.is_negated)

pub same_or_other : (a b : Literal) → (a ≡ b) ⊎ (a ≡ b → ⊥)
same_or_other a b = by_test (same_literal a b) refl
  where
    by_test : (t : Bool) → same_literal a b ≡ t → (a ≡ b) ⊎ (a ≡ b → ⊥)
    by_test true e = inl (same_is a b e)
    by_test false e = inr (λ f. let here = subst (λ m. same_literal a m ≡ true) f (same_refl a) in cc)

sign_cases : (s t : Bool) → (s ≡ t) ⊎ (s ≡ not t)
sign_cases true true = inl refl
sign_cases true false = inr refl
sign_cases false true = inr refl
sign_cases false false = inl refl

-- two literals of a variable
pub same_or_negated : (a b : Literal) → a.variable ≡ b.variable → (a ≡ b) ⊎ (a ≡ negation b)
same_or_negated a b e =
    elim (sign_cases a.is_negated b.is_negated) [
      | inl s ↦
          inl (ap (λ n. let m : Literal = record { variable = n; is_negated = a.is_negated } in m) e
          ∙ ap (λ s. let m : Literal = record { variable = b.variable; is_negated = s } in m) s)
      | inr s ↦
          inr (ap (λ n. let m : Literal = record { variable = n; is_negated = a.is_negated } in m) e
          ∙ ap (λ s. let m : Literal = record { variable = b.variable; is_negated = s } in m) s)
    ]

-- ---- members

pub has_nothing : (l : Literal) → Has [] l → ⊥
has_nothing l h = cc

pub has_head : (x : Literal) (xs : List Literal) → Has (x ∷ xs) x
has_head x xs = or_left (same_literal x x) (is_true xs x) (same_refl x)

pub has_tail : (x : Literal) (xs : List Literal) (l : Literal) → Has xs l → Has (x ∷ xs) l
has_tail x xs l h = or_right (same_literal l x) (is_true xs l) h

pub has_cases : (x : Literal) (xs : List Literal) (l : Literal) → Has (x ∷ xs) l → (l ≡ x) ⊎ Has xs l
has_cases x xs l h = either (same_literal l x) (is_true xs l) ((l ≡ x) ⊎ Has xs l) h (λ e. inl (same_is l x e)) (λ there. inr there)

pub has_left : (xs ys : List Literal) (l : Literal) → Has xs l → Has (xs ++ ys) l
has_left xs ys l h = list_any-append (same_literal l) xs ys ∙ or_left (is_true xs l) (is_true ys l) h

pub has_right : (xs ys : List Literal) (l : Literal) → Has ys l → Has (xs ++ ys) l
has_right xs ys l h = list_any-append (same_literal l) xs ys ∙ or_right (is_true xs l) (is_true ys l) h

pub has_either : (xs ys : List Literal) (l : Literal) → Has (xs ++ ys) l → Has xs l ⊎ Has ys l
has_either xs ys l h =
    either (is_true xs l) (is_true ys l) (Has xs l ⊎ Has ys l) (sym (list_any-append (same_literal l) xs ys) ∙ h) (λ e. inl e) (λ e. inr e)

pub has_last : (xs : List Literal) (x : Literal) → Has (xs ++ x ∷ []) x
has_last xs x = has_right xs (x ∷ []) x (has_head x [])

pub has_push : (xs : List Literal) (x l : Literal) → Has (xs ++ x ∷ []) l → Has xs l ⊎ (l ≡ x)
has_push xs x l h =
    elim (has_either xs (x ∷ []) l h) [
      | inl there ↦ inl there
      | inr here ↦
          elim (has_cases x [] l here) [
            | inl e ↦ inr e
            | inr none ↦ absurd (has_nothing l none)
          ]
    ]

-- by place
pub has_at : (xs : List Literal) (i : ℕ) (l : Literal) → slice_get xs i ≡ Some l → Has xs l
has_at [] i l here = cc
has_at (x ∷ xs) zero l here = let e : x ≡ l = cc in subst (λ m. Has (x ∷ xs) m) e (has_head x xs)
has_at (x ∷ xs) (suc i) l here = has_tail x xs l (has_at xs i l here)

pub place_of : (xs : List Literal) (l : Literal) → Has xs l → (i : ℕ) × (slice_get xs i ≡ Some l)
place_of [] l h = cc
place_of (x ∷ xs) l h =
    elim (has_cases x xs l h) [
      | inl e ↦ (0, ap Some (sym e))
      | inr there ↦ let rest = place_of xs l there in (suc rest.0, rest.1)
    ]

pub has_negation : (xs : List Literal) (l : Literal) → Has xs l → Has (map negation xs) (negation l)
has_negation [] l h = cc
has_negation (x ∷ xs) l h =
    elim (has_cases x xs l h) [
      | inl e ↦ subst (λ m. Has (negation x ∷ map negation xs) (negation m)) (sym e) (has_head (negation x) (map negation xs))
      | inr there ↦ has_tail (negation x) (map negation xs) (negation l) (has_negation xs l there)
    ]

pub negation_has : (xs : List Literal) (l : Literal) → Has (map negation xs) l → Has xs (negation l)
negation_has [] l h = cc
negation_has (x ∷ xs) l h =
    elim (has_cases (negation x) (map negation xs) l h) [
      | inl e ↦ subst (λ m. Has (x ∷ xs) m) (sym (ap negation e ∙ negation_twice x)) (has_head x xs)
      | inr there ↦ has_tail x xs (negation l) (negation_has xs l there)
    ]
