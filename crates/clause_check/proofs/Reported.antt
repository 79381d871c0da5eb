-- Signs that report which literals are true.
use Rattle.std.proofs.Common.{◌≡◌, Bool, true, false, List, [], ◌∷◌, ◌++◌, length, Option, Some, None, refl, ap, sym, ◌∙◌, filter}
use Rattle.std.specs.Prelude.{◌||◌, not, is_some, if◌then◌else◌}
use Rattle.std.specs.List.{list_any}
use Rattle.std.proofs.lemmas.List.Folds.{list_any-append}
use Rattle.std.proofs.lemmas.List.{append-nil}
use Rattle.std.proofs.lemmas.List.Elements.{filter-append}
use Rattle.clause_check_spec.specs.declared.Literal.{Literal}
use Rattle.clause_check_spec.specs.Clause.{Clause, is_of, negation}
use Rattle.clause_check_spec.specs.Step.{is_true, is_false, Finding, Holds, found_among, finding}
use Rattle.clause_check.specs.Signs.{is_sign, sign_of, Reports}

abbrev pub not_false : List Literal → Literal → Bool
not_false truths literal = not (is_false truths literal)

-- ---- one literal

-- whether it is true, and whether it is false
pub true_by_sign : (signs : List (Option Bool)) (truths : List Literal) (l : Literal) (b : Bool) → Reports signs truths → is_of (length signs) l ≡ true
    → is_sign (sign_of signs l) l.is_negated ≡ b → is_true truths l ≡ b
true_by_sign signs truths l b reports named sign = reports l named ∙ sign

pub not_false_by_sign : (signs : List (Option Bool)) (truths : List Literal) (l : Literal) (b : Bool) → Reports signs truths → is_of (length signs) l ≡ true
    → is_sign (sign_of signs l) (not l.is_negated) ≡ b → not_false truths l ≡ not b
not_false_by_sign signs truths l b reports named sign = ap not (reports (negation l) named ∙ sign)

-- not both
pub not_true_by_false : (sign : Option Bool) (b : Bool) → is_sign sign (not b) ≡ true → is_sign sign b ≡ false
not_true_by_false None b e = cc
not_true_by_false (Some true) true e = cc
not_true_by_false (Some true) false e = refl
not_true_by_false (Some false) true e = refl
not_true_by_false (Some false) false e = cc

-- neither
pub no_sign : (sign : Option Bool) (b : Bool) → is_sign sign (not b) ≡ false → is_sign sign b ≡ false → sign ≡ None
no_sign None b e f = refl
no_sign (Some true) true e f = cc
no_sign (Some true) false e f = cc
no_sign (Some false) true e f = cc
no_sign (Some false) false e f = cc

-- one of them
pub either_sign : (sign : Option Bool) (b : Bool) → (is_sign sign (not b) || is_sign sign b) ≡ is_some sign
either_sign None b = refl
either_sign (Some true) true = refl
either_sign (Some true) false = refl
either_sign (Some false) true = refl
either_sign (Some false) false = refl

-- ---- one more literal of a clause

or_both : (a b : Bool) → a ≡ false → b ≡ false → (a || (b || false)) ≡ false
or_both true b e f = cc
or_both false true e f = cc
or_both false false e f = refl

or_left : (a b : Bool) → a ≡ true → (a || b) ≡ true
or_left true b e = refl
or_left false b e = cc

or_right : (a b : Bool) → b ≡ true → (a || (b || false)) ≡ true
or_right true b e = refl
or_right false true e = refl
or_right false false e = cc

-- a clause with a true literal, and one with none
held : (truths : List Literal) (clause : Clause) → list_any (is_true truths) clause ≡ true → finding truths clause ≡ Holds
unfolding finding
held truths clause e = ap (λ b. if b then Holds else found_among (filter (not_false truths) clause)) e

not_held : (truths : List Literal) (clause : Clause) → list_any (is_true truths) clause ≡ false
    → finding truths clause ≡ found_among (filter (not_false truths) clause)
unfolding finding
not_held truths clause e = ap (λ b. if b then Holds else found_among (filter (not_false truths) clause)) e

pub held_at : (truths clause before after : List Literal) (l : Literal) → clause ≡ (before ++ l ∷ []) ++ after → is_true truths l ≡ true
    → finding truths clause ≡ Holds
held_at truths clause before after l same e =
    let first : list_any (is_true truths) (before ++ l ∷ []) ≡ true =
    list_any-append (is_true truths) before (l ∷ []) ∙ or_right (list_any (is_true truths) before) (is_true truths l) e
    in
    held truths clause
    (ap (list_any (is_true truths)) same ∙ list_any-append (is_true truths) (before ++ l ∷ []) after
    ∙ or_left (list_any (is_true truths) (before ++ l ∷ [])) (list_any (is_true truths) after) first)

still_held : (truths before : List Literal) (l : Literal) → list_any (is_true truths) before ≡ true → finding truths (before ++ l ∷ []) ≡ Holds
still_held truths before l e =
    held truths (before ++ l ∷ [])
    (list_any-append (is_true truths) before (l ∷ []) ∙ or_left (list_any (is_true truths) before) (is_true truths l || false) e)

none_held : (truths before : List Literal) (l : Literal) → list_any (is_true truths) before ≡ false → is_true truths l ≡ false
    → list_any (is_true truths) (before ++ l ∷ []) ≡ false
none_held truths before l e f =
    list_any-append (is_true truths) before (l ∷ []) ∙ or_both (list_any (is_true truths) before) (is_true truths l) e f

kept : (truths before : List Literal) (l : Literal) (b : Bool) → not_false truths l ≡ b
    → filter (not_false truths) (before ++ l ∷ []) ≡ filter (not_false truths) before ++ (if b then l ∷ [] else [])
kept truths before l b e =
    filter-append (not_false truths) before (l ∷ [])
    ∙ ap (λ b. filter (not_false truths) before ++ (if b then l ∷ [] else [])) e

pub more_false : (truths before : List Literal) (l : Literal) → is_true truths l ≡ false → not_false truths l ≡ false
    → finding truths (before ++ l ∷ []) ≡ finding truths before
more_false truths before l e f = by_any (list_any (is_true truths) before) refl
  where
    by_any : (b : Bool) → list_any (is_true truths) before ≡ b → finding truths (before ++ l ∷ []) ≡ finding truths before
    by_any true h = still_held truths before l h ∙ sym (held truths before h)
    by_any false h =
        not_held truths (before ++ l ∷ []) (none_held truths before l h e)
        ∙ ap found_among (kept truths before l false f ∙ append-nil (filter (not_false truths) before))
        ∙ sym (not_held truths before h)

-- `more` is what `with_open` makes of `seen`
pub more_open : (truths before : List Literal) (l : Literal) (seen more : Finding) → is_true truths l ≡ false → not_false truths l ≡ true
    → seen ≡ finding truths before
    → ((open_literals : List Literal) → seen ≡ found_among open_literals → more ≡ found_among (open_literals ++ l ∷ []))
    → (seen ≡ Holds → more ≡ Holds)
    → more ≡ finding truths (before ++ l ∷ [])
more_open truths before l seen more e f same among when_held = by_any (list_any (is_true truths) before) refl
  where
    by_any : (b : Bool) → list_any (is_true truths) before ≡ b → more ≡ finding truths (before ++ l ∷ [])
    by_any true h = when_held (same ∙ held truths before h) ∙ sym (still_held truths before l h)
    by_any false h =
        among (filter (not_false truths) before) (same ∙ not_held truths before h)
        ∙ sym (not_held truths (before ++ l ∷ []) (none_held truths before l h e) ∙ ap found_among (kept truths before l true f))
