-- The status of a clause, by its literals.
use Rattle.std.proofs.Common.{◌≡◌, ◌⊎◌, inl, inr, ℕ, ◌-◌, ◌<◌, Bool, true, false, List, [], ◌∷◌, Some, refl, ap, sym, ◌∙◌, subst, arith}
use Rattle.std.specs.Prelude.{◌==◌, ◌||◌, ◌&&◌, not, filter, slice_get, cond, if◌then◌else◌}
use Rattle.std.specs.List.{list_any, list_all}
use Rattle.clause_check_spec.specs.declared.Literal.{Literal}
use Rattle.clause_check_spec.specs.Clause.{Clause, negation, same_literal}
use Rattle.clause_check_spec.specs.Step.{is_true, is_false, Finding, Missing, Holds, Several, Forces, Fails, found_among, finding, finding_of, finding_at}
use Rattle.sat_search_spec.specs.Clauses.{Has, Numbered, IsLive}
use Rattle.sat_search_spec.proofs.Members.{or_left, or_right, or_neither, and_both, and_left, and_right, true_or_false, not_false_is, same_is, same_refl, has_nothing, has_head, has_tail, has_cases}

abbrev pub not_false : List Literal → Literal → Bool
not_false made l = not (is_false made l)

-- ---- tests of all literals

pub any_none : (p : Literal → Bool) (c : List Literal) → ((l : Literal) → Has c l → p l ≡ false) → list_any p c ≡ false
any_none p [] none = refl
any_none p (x ∷ c) none =
    or_neither (p x) (list_any p c) (none x (has_head x c)) (any_none p c (λ l h. none l (has_tail x c l h)))

pub any_some : (p : Literal → Bool) (c : List Literal) (l : Literal) → Has c l → p l ≡ true → list_any p c ≡ true
any_some p [] l h e = absurd (has_nothing l h)
any_some p (x ∷ c) l h e =
    elim (has_cases x c l h) [
      | inl same ↦ or_left (p x) (list_any p c) (subst (λ m. p m ≡ true) same e)
      | inr there ↦ or_right (p x) (list_any p c) (any_some p c l there e)
    ]

pub some_of_any : (p : Literal → Bool) (c : List Literal) → list_any p c ≡ true → (l : Literal) × Has c l × (p l ≡ true)
some_of_any p [] e = cc
some_of_any p (x ∷ c) e =
    elim (true_or_false (p x)) [
      | inl passes ↦ (x, has_head x c, passes)
      | inr fails ↦
          let rest = some_of_any p c (sym (ap (λ b. b || list_any p c) fails) ∙ e) in
          (rest.0, has_tail x c rest.0 rest.1, rest.2)
    ]

all_same : (x : Literal) (c : List Literal) → ((l : Literal) → Has c l → l ≡ x) → list_all (same_literal x) c ≡ true
all_same x [] same = refl
all_same x (y ∷ c) same =
    and_both (same_literal x y) (list_all (same_literal x) c)
    (subst (λ m. same_literal x m ≡ true) (sym (same y (has_head y c))) (same_refl x))
    (all_same x c (λ l h. same l (has_tail y c l h)))

same_all : (x : Literal) (c : List Literal) (l : Literal) → list_all (same_literal x) c ≡ true → Has c l → x ≡ l
same_all x [] l e h = absurd (has_nothing l h)
same_all x (y ∷ c) l e h =
    elim (has_cases y c l h) [
      | inl same ↦ same_is x y (and_left (same_literal x y) (list_all (same_literal x) c) e) ∙ sym same
      | inr there ↦ same_all x c l (and_right (same_literal x y) (list_all (same_literal x) c) e) there
    ]

-- ---- the literals that a filter keeps

has_filter : (p : Literal → Bool) (c : List Literal) (l : Literal) → Has c l → p l ≡ true → Has (filter p c) l
has_filter p [] l h e = absurd (has_nothing l h)
has_filter p (x ∷ c) l h e = by_head (p x) refl (λ there. has_filter p c l there e)
  where
    by_head : (b : Bool) → p x ≡ b → (Has c l → Has (filter p c) l) → Has (cond b (x ∷ filter p c) (filter p c)) l
    by_head true f rest =
        elim (has_cases x c l h) [
          | inl same ↦ subst (λ m. Has (x ∷ filter p c) m) (sym same) (has_head x (filter p c))
          | inr there ↦ has_tail x (filter p c) l (rest there)
        ]
    by_head false f rest =
        elim (has_cases x c l h) [
          | inl same ↦ let gone = subst (λ m. p m ≡ true) same e in cc
          | inr there ↦ rest there
        ]

filter_has : (p : Literal → Bool) (c : List Literal) (l : Literal) → Has (filter p c) l → Has c l × (p l ≡ true)
filter_has p [] l h = absurd (has_nothing l h)
filter_has p (x ∷ c) l h = by_head (p x) refl h (filter_has p c l)
  where
    by_head : (b : Bool) → p x ≡ b → Has (cond b (x ∷ filter p c) (filter p c)) l → (Has (filter p c) l → Has c l × (p l ≡ true)) → Has (x ∷ c) l × (p l ≡ true)
    by_head true f here more =
        elim (has_cases x (filter p c) l here) [
          | inl same ↦ (subst (λ m. Has (x ∷ c) m) (sym same) (has_head x c), subst (λ m. p m ≡ true) (sym same) f)
          | inr there ↦ let rest = more there in (has_tail x c l rest.0, rest.1)
        ]
    by_head false f there more = let rest = more there in (has_tail x c l rest.0, rest.1)

filter_nothing : (p : Literal → Bool) (c : List Literal) → ((l : Literal) → Has c l → p l ≡ false) → filter p c ≡ []
filter_nothing p [] none = refl
filter_nothing p (x ∷ c) none =
    ap (λ b. cond b (x ∷ filter p c) (filter p c)) (none x (has_head x c)) ∙ filter_nothing p c (λ l h. none l (has_tail x c l h))

-- ---- what they show

among_forces : (c : List Literal) (l : Literal) → Has c l → ((m : Literal) → Has c m → m ≡ l) → found_among c ≡ Forces l
among_forces [] l h only = absurd (has_nothing l h)
among_forces (x ∷ c) l h only =
    let first : x ≡ l = only x (has_head x c) in
    let all : list_all (same_literal x) c ≡ true = all_same x c (λ m there. only m (has_tail x c m there) ∙ sym first) in
    ap (λ b. if b then Forces x else Several) all ∙ ap Forces first

among_several : (c : List Literal) (a b : Literal) → Has c a → Has c b → (a ≡ b → ⊥) → found_among c ≡ Several
among_several [] a b h k other = absurd (has_nothing a h)
among_several (x ∷ c) a b h k other = by_all (list_all (same_literal x) c) refl
  where
    is_first : (m : Literal) → list_all (same_literal x) c ≡ true → Has (x ∷ c) m → m ≡ x
    is_first m all there =
        elim (has_cases x c m there) [
          | inl same ↦ same
          | inr later ↦ sym (same_all x c m all later)
        ]

    by_all : (t : Bool) → list_all (same_literal x) c ≡ t → (if t then Forces x else Several) ≡ Several
    by_all true all = absurd (other (is_first a all h ∙ sym (is_first b all k)))
    by_all false all = refl

finding_open : (made : List Literal) (c : Clause) → list_any (is_true made) c ≡ false → finding made c ≡ found_among (filter (not_false made) c)
unfolding finding
finding_open made c e = ap (λ b. if b then Holds else found_among (filter (not_false made) c)) e

-- a literal is true
pub finding_holds : (made : List Literal) (c : Clause) (l : Literal) → Has c l → Has made l → finding made c ≡ Holds
unfolding finding
finding_holds made c l h t = ap (λ b. if b then Holds else found_among (filter (not_false made) c)) (any_some (is_true made) c l h t)

-- all literals are false
pub finding_fails : (made : List Literal) (c : Clause) → ((l : Literal) → Has c l → is_true made l ≡ false)
    → ((l : Literal) → Has c l → Has made (negation l)) → finding made c ≡ Fails
finding_fails made c none all =
    finding_open made c (any_none (is_true made) c none)
    ∙ ap found_among (filter_nothing (not_false made) c (λ l h. ap not (all l h)))

-- all but one are false
pub finding_forces : (made : List Literal) (c : Clause) (l : Literal) → Has c l → ((m : Literal) → Has c m → is_true made m ≡ false)
    → is_true made (negation l) ≡ false → ((m : Literal) → Has c m → (m ≡ l) ⊎ Has made (negation m)) → finding made c ≡ Forces l
finding_forces made c l h none unset others =
    finding_open made c (any_none (is_true made) c none)
    ∙ among_forces (filter (not_false made) c) l (has_filter (not_false made) c l h (ap not unset)) only
  where
    only : (m : Literal) → Has (filter (not_false made) c) m → m ≡ l
    only m there =
        let kept = filter_has (not_false made) c m there in
        elim (others m kept.0) [
          | inl same ↦ same
          | inr gone ↦ let unkept = ap not gone in cc
        ]

-- two literals are not false
pub live_by_two : (made : List Literal) (c : Clause) (a b : Literal) → Has c a → Has c b → (a ≡ b → ⊥)
    → is_true made (negation a) ≡ false → is_true made (negation b) ≡ false → IsLive made c
live_by_two made c a b h k other unset_a unset_b = by_any (list_any (is_true made) c) refl
  where
    by_any : (t : Bool) → list_any (is_true made) c ≡ t → IsLive made c
    by_any true e = let some = some_of_any (is_true made) c e in inl (finding_holds made c some.0 some.1 some.2)
    by_any false e =
        inr (finding_open made c e
        ∙ among_several (filter (not_false made) c) a b (has_filter (not_false made) c a h (ap not unset_a)) (has_filter (not_false made) c b k (ap not unset_b)) other)

-- a live clause is not false
pub live_not_fails : (made : List Literal) (c : Clause) → IsLive made c → finding made c ≡ Fails → ⊥
live_not_fails made c live e =
    elim live [
      | inl holds ↦ cc
      | inr several ↦ cc
    ]

-- a live clause has a true literal, or one without value
pub live_has : (made : List Literal) (c : Clause) → IsLive made c
    → ((l : Literal) × Has c l × Has made l) ⊎ ((l : Literal) × Has c l × (is_true made (negation l) ≡ false))
live_has made c live = by_any (list_any (is_true made) c) refl
  where
    by_any : (t : Bool) → list_any (is_true made) c ≡ t → ((l : Literal) × Has c l × Has made l) ⊎ ((l : Literal) × Has c l × (is_true made (negation l) ≡ false))
    by_any true e = inl (some_of_any (is_true made) c e)
    by_any false e = by_open (list_any (not_false made) c) refl
      where
        by_open : (t : Bool) → list_any (not_false made) c ≡ t → ((l : Literal) × Has c l × Has made l) ⊎ ((l : Literal) × Has c l × (is_true made (negation l) ≡ false))
        by_open true f = let some = some_of_any (not_false made) c f in inr (some.0, some.1, not_true (is_false made some.0) some.2)
          where
            not_true : (b : Bool) → not b ≡ true → b ≡ false
            not_true true g = cc
            not_true false g = refl
        by_open false f =
            absurd (live_not_fails made c live (finding_fails made c (λ l h. absent (is_true made) l h e) (λ l h. not_false_is (is_false made l) (absent (not_false made) l h f))))
          where
            absent : (p : Literal → Bool) (l : Literal) → Has c l → list_any p c ≡ false → p l ≡ false
            absent p l h none =
                elim (true_or_false (p l)) [
                  | inl passes ↦ let gone = any_some p c l h passes in cc
                  | inr fails ↦ fails
                ]

-- ---- the clause of a number

pub finding_numbered : (clauses : List Clause) (made : List Literal) (number : ℕ) (clause : Clause) → Numbered clauses number clause
    → finding_at clauses made number ≡ finding made clause
finding_numbered clauses made number clause numbered =
    ap (λ b. if b then Missing else finding_of made (slice_get clauses (number - 1))) (not_zero number numbered.positive)
    ∙ ap (finding_of made) numbered.there
  where
    not_zero : (n : ℕ) → 0 < n → (n == 0) ≡ false
    not_zero n below = grind arith
