-- One more literal: made true, or among the literals of a step.
use Rattle.std.proofs.Common.{◌≡◌, ◌<◌, ◌≤◌, ◌+◌, ◌-◌, ℕ, Bool, true, false, List, [], ◌∷◌, ◌++◌, length, get_or, set, map, take, drop, Option, Some, None, refl, ap, sym, ◌∙◌, subst, arith, get_or-set_same, get_or-set_other, length-set}
use Rattle.std.specs.Prelude.{◌==◌, ◌&&◌, ◌||◌, not, is_some}
use Rattle.std.specs.List.{list_any, list_all}
use Rattle.std.proofs.lemmas.List.{map_push, take_more, take-append-drop}
use Rattle.std.proofs.lemmas.List.Folds.{list_any-append, list_all-append}
use Rattle.clause_check_spec.specs.declared.Literal.{Literal}
use Rattle.clause_check_spec.specs.Clause.{is_of, negation, same_sign, same_literal}
use Rattle.clause_check_spec.specs.Step.{is_true, are_apart, are_fit}
use Rattle.clause_check.specs.Signs.{is_sign, sign_of, Reports}

-- ---- one more true literal

pub in_range : (variables : ℕ) (l : Literal) → is_of variables l ≡ true → (1 ≤ l.variable) × (l.variable ≤ variables)
in_range variables l e = (grind arith, grind arith)

same_sign_sym : (a b : Bool) → same_sign a b ≡ same_sign b a
same_sign_sym true true = refl
same_sign_sym true false = refl
same_sign_sym false true = refl
same_sign_sym false false = refl

equal_numbers : (a b : ℕ) → (a == b) ≡ true → a ≡ b
equal_numbers a b e = grind arith

other_numbers : (a b : ℕ) → (a == b) ≡ false → a ≡ b → ⊥
other_numbers a b e f = grind arith

abbrev with_true : List (Option Bool) → Literal → List (Option Bool)
with_true signs l = set signs (l.variable - 1) (Some l.is_negated)

own_variable : (a b sign : Bool) → a ≡ false → (a || ((true && b) || false)) ≡ b
own_variable true b sign e = cc
own_variable false true sign e = refl
own_variable false false sign e = refl

other_variable : (a b : Bool) → (a || ((false && b) || false)) ≡ a
other_variable true b = refl
other_variable false b = refl

at_own : (signs : List (Option Bool)) (truths : List Literal) (l k : Literal) → Reports signs truths → is_of (length signs) l ≡ true
    → sign_of signs l ≡ None → is_of (length signs) k ≡ true → (k.variable == l.variable) ≡ true
    → (is_true truths k || ((k.variable == l.variable) && same_sign k.is_negated l.is_negated || false)) ≡ is_sign (sign_of (with_true signs l) k) k.is_negated
at_own signs truths l k reports named sign here same =
    let index : k.variable ≡ l.variable = equal_numbers k.variable l.variable same in
    let range = in_range (length signs) l named in
    let unmarked : is_true truths k ≡ false =
    reports k here ∙ ap (λ v. is_sign (get_or signs (v - 1) None) k.is_negated) index ∙ ap (λ o. is_sign o k.is_negated) sign
    in
    let marked : sign_of (with_true signs l) k ≡ Some l.is_negated =
    ap (λ v. get_or (with_true signs l) (v - 1) None) index
    ∙ get_or-set_same signs (l.variable - 1) (Some l.is_negated) None (omega (arith, range.0, range.1))
    in
    ap (λ b. is_true truths k || (b && same_sign k.is_negated l.is_negated || false)) same
    ∙ own_variable (is_true truths k) (same_sign k.is_negated l.is_negated) true unmarked
    ∙ same_sign_sym k.is_negated l.is_negated
    ∙ sym (ap (λ o. is_sign o k.is_negated) marked)

at_other : (signs : List (Option Bool)) (truths : List Literal) (l k : Literal) → Reports signs truths → is_of (length signs) l ≡ true
    → is_of (length signs) k ≡ true → (k.variable == l.variable) ≡ false
    → (is_true truths k || ((k.variable == l.variable) && same_sign k.is_negated l.is_negated || false)) ≡ is_sign (sign_of (with_true signs l) k) k.is_negated
at_other signs truths l k reports named here other =
    let range = in_range (length signs) l named in
    let range_here = in_range (length signs) k here in
    let apart = other_numbers k.variable l.variable other in
    ap (λ b. is_true truths k || (b && same_sign k.is_negated l.is_negated || false)) other
    ∙ other_variable (is_true truths k) (same_sign k.is_negated l.is_negated)
    ∙ reports k here
    ∙ sym (ap (λ o. is_sign o k.is_negated)
    (get_or-set_other signs (l.variable - 1) (k.variable - 1) (Some l.is_negated) None
    (λ e. apart (omega (arith, e, range.0, range_here.0)))))

pub reports_more : (signs : List (Option Bool)) (truths : List Literal) (l : Literal) → Reports signs truths → is_of (length signs) l ≡ true
    → sign_of signs l ≡ None → Reports (set signs (l.variable - 1) (Some l.is_negated)) (truths ++ l ∷ [])
reports_more signs truths l reports named sign k here =
    let named_here : is_of (length signs) k ≡ true =
    subst (λ n. is_of n k ≡ true) (length-set signs (l.variable - 1) (Some l.is_negated)) here
    in
    list_any-append (same_literal k) truths (l ∷ []) ∙ by_index (k.variable == l.variable) refl named_here
  where
    by_index : (b : Bool) → (k.variable == l.variable) ≡ b → is_of (length signs) k ≡ true
        → (is_true truths k || ((k.variable == l.variable) && same_sign k.is_negated l.is_negated || false)) ≡ is_sign (sign_of (with_true signs l) k) k.is_negated
    by_index true e named_here = at_own signs truths l k reports named sign named_here e
    by_index false e named_here = at_other signs truths l k reports named named_here e

pub reports_denied : (signs : List (Option Bool)) (before : List Literal) (l : Literal) → Reports signs (map negation before)
    → is_of (length signs) l ≡ true → sign_of signs l ≡ None
    → Reports (set signs (l.variable - 1) (Some (not l.is_negated))) (map negation (before ++ l ∷ []))
reports_denied signs before l reports named sign =
    subst (Reports (set signs (l.variable - 1) (Some (not l.is_negated)))) (sym (map_push negation before l))
    (reports_more signs (map negation before) (negation l) reports named sign)

-- ---- one more literal of a step

abbrev pub is_of_variable : ℕ → Literal → Bool
is_of_variable v other = other.variable == v

equal_sym : (a b : ℕ) → (a == b) ≡ (b == a)
equal_sym a b = grind arith

-- a literal is of the variable exactly if it is one of the two denied ones
both_signs : (same b r s : Bool) → (same || (r || s)) ≡ ((same && same_sign true (not b) || r) || (same && same_sign false (not b) || s))
both_signs true true true true = refl
both_signs true true true false = refl
both_signs true true false true = refl
both_signs true true false false = refl
both_signs true false true true = refl
both_signs true false true false = refl
both_signs true false false true = refl
both_signs true false false false = refl
both_signs false b true true = refl
both_signs false b true false = refl
both_signs false b false true = refl
both_signs false b false false = refl

abbrev literal_of : ℕ → Bool → Literal
literal_of v b = record { variable = v; is_negated = b }

there_before : (v : ℕ) (before : List Literal)
    → list_any (is_of_variable v) before ≡ (is_true (map negation before) (literal_of v true) || is_true (map negation before) (literal_of v false))
there_before v [] = refl
there_before v (o ∷ before) =
    ap (λ b. b || list_any (is_of_variable v) before) (equal_sym o.variable v)
    ∙ ap (λ b. (v == o.variable) || b) (there_before v before)
    ∙ both_signs (v == o.variable) o.is_negated (is_true (map negation before) (literal_of v true)) (is_true (map negation before) (literal_of v false))

has_sign : (o : Option Bool) → (is_sign o true || is_sign o false) ≡ is_some o
has_sign None = refl
has_sign (Some true) = refl
has_sign (Some false) = refl

denied_before : (signs : List (Option Bool)) (before : List Literal) (l : Literal) → Reports signs (map negation before) → is_of (length signs) l ≡ true
    → list_any (is_of_variable l.variable) before ≡ is_some (sign_of signs l)
denied_before signs before l reports named =
    there_before l.variable before
    ∙ ap (λ b. b || is_true (map negation before) (literal_of l.variable false)) (reports (literal_of l.variable true) named)
    ∙ ap (λ b. is_sign (sign_of signs l) true || b) (reports (literal_of l.variable false) named)
    ∙ has_sign (sign_of signs l)

regroup : (a s b c : Bool) → (not (a || (s || false)) && (b && not c)) ≡ ((not a && b) && not (s || c))
regroup true s b c = refl
regroup false true true true = refl
regroup false true true false = refl
regroup false true false c = refl
regroup false false true c = refl
regroup false false false c = refl

apart_more : (before : List Literal) (l : Literal) → are_apart (before ++ l ∷ []) ≡ (are_apart before && not (list_any (is_of_variable l.variable) before))
apart_more [] l = refl
apart_more (o ∷ before) l =
    ap (λ b. not b && are_apart (before ++ l ∷ [])) (list_any-append (is_of_variable o.variable) before (l ∷ []))
    ∙ ap (λ b. not (list_any (is_of_variable o.variable) before || (b || false)) && are_apart (before ++ l ∷ [])) (equal_sym l.variable o.variable)
    ∙ ap (λ b. not (list_any (is_of_variable o.variable) before || ((o.variable == l.variable) || false)) && b) (apart_more before l)
    ∙ regroup (list_any (is_of_variable o.variable) before) (o.variable == l.variable) (are_apart before) (list_any (is_of_variable l.variable) before)

parts_true : (a b : Bool) → (a && b) ≡ true → (a ≡ true) × (b ≡ true)
parts_true true b e = (refl, e)
parts_true false b e = cc

both_fit : (a b c d : Bool) → a ≡ true → b ≡ true → ((a && (c && true)) && (b && not d)) ≡ (c && not d)
both_fit true true true d e f = refl
both_fit true true false d e f = refl
both_fit true false c d e f = cc
both_fit false b c d e f = cc

-- where those before are fit
pub fit_more : (variables : ℕ) (before : List Literal) (l : Literal) → are_fit variables before ≡ true
    → are_fit variables (before ++ l ∷ []) ≡ (is_of variables l && not (list_any (is_of_variable l.variable) before))
fit_more variables before l fit =
    let parts = parts_true (list_all (is_of variables) before) (are_apart before) fit in
    ap (λ b. b && are_apart (before ++ l ∷ [])) (list_all-append (is_of variables) before (l ∷ []))
    ∙ ap (λ b. (list_all (is_of variables) before && (is_of variables l && true)) && b) (apart_more before l)
    ∙ both_fit (list_all (is_of variables) before) (are_apart before) (is_of variables l) (list_any (is_of_variable l.variable) before) parts.0 parts.1

pub unfit_by_variable : (variables : ℕ) (before : List Literal) (l : Literal) → are_fit variables before ≡ true → is_of variables l ≡ false
    → are_fit variables (before ++ l ∷ []) ≡ false
unfit_by_variable variables before l fit e =
    fit_more variables before l fit ∙ ap (λ b. b && not (list_any (is_of_variable l.variable) before)) e

pub fit_by_sign : (signs : List (Option Bool)) (before : List Literal) (l : Literal) (b : Bool) → are_fit (length signs) before ≡ true
    → Reports signs (map negation before) → is_of (length signs) l ≡ true → is_some (sign_of signs l) ≡ b
    → are_fit (length signs) (before ++ l ∷ []) ≡ not b
fit_by_sign signs before l b fit reports named sign =
    fit_more (length signs) before l fit
    ∙ ap (λ n. n && not (list_any (is_of_variable l.variable) before)) named
    ∙ ap not (denied_before signs before l reports named ∙ sign)

-- ---- literals of which a prefix is not fit

not_all : (a b : Bool) → a ≡ false → (a && b) ≡ false
not_all true b e = cc
not_all false b e = refl

prefix_cases : (a b c d : Bool) → (a && b) ≡ false → (a ≡ false → c ≡ false) → (b ≡ false → d ≡ false) → (c && d) ≡ false
prefix_cases true true c d e f g = cc
prefix_cases true false c d e f g = and_false c d (g refl)
  where
    and_false : (a b : Bool) → b ≡ false → (a && b) ≡ false
    and_false true b e = e
    and_false false b e = refl
prefix_cases false b c d e f g = not_all c d (f refl)

any_prefix : (v : ℕ) (xs ys : List Literal) → not (list_any (is_of_variable v) xs) ≡ false → not (list_any (is_of_variable v) (xs ++ ys)) ≡ false
any_prefix v xs ys e = ap not (list_any-append (is_of_variable v) xs ys) ∙ prefix (list_any (is_of_variable v) xs) (list_any (is_of_variable v) ys) e
  where
    prefix : (a b : Bool) → not a ≡ false → not (a || b) ≡ false
    prefix true b e = refl
    prefix false b e = cc

apart_prefix : (xs ys : List Literal) → are_apart xs ≡ false → are_apart (xs ++ ys) ≡ false
apart_prefix [] ys e = cc
apart_prefix (x ∷ xs) ys e =
    prefix_cases (not (list_any (is_of_variable x.variable) xs)) (are_apart xs)
    (not (list_any (is_of_variable x.variable) (xs ++ ys))) (are_apart (xs ++ ys)) e (any_prefix x.variable xs ys) (apart_prefix xs ys)

pub unfit_prefix : (variables : ℕ) (xs ys : List Literal) → are_fit variables xs ≡ false → are_fit variables (xs ++ ys) ≡ false
unfit_prefix variables xs ys e =
    prefix_cases (list_all (is_of variables) xs) (are_apart xs) (list_all (is_of variables) (xs ++ ys)) (are_apart (xs ++ ys)) e
    (λ f. list_all-append (is_of variables) xs ys ∙ not_all (list_all (is_of variables) xs) (list_all (is_of variables) ys) f) (apart_prefix xs ys)

pub unmarked : (o : Option Bool) → is_some o ≡ false → o ≡ None
unmarked None e = refl
unmarked (Some b) e = cc

-- all of them by those up to one
pub unfit_at : (variables : ℕ) (literals : List Literal) (i : ℕ) (d : Literal) → i < length literals
    → are_fit variables (take i literals ++ get_or literals i d ∷ []) ≡ false → are_fit variables literals ≡ false
unfit_at variables literals i d below e =
    let prefix : are_fit variables (take (i + 1) literals) ≡ false = ap (are_fit variables) (take_more literals i d below) ∙ e in
    ap (are_fit variables) (sym (take-append-drop (i + 1) literals)) ∙ unfit_prefix variables (take (i + 1) literals) (drop (i + 1) literals) prefix
