-- Trails: one more entry, and the entries before a place.
use Rattle.std.proofs.Common.{◌≡◌, ◌⊎◌, inl, inr, ℕ, zero, suc, ◌+◌, ◌-◌, ◌<◌, ◌≤◌, Bool, true, false, List, [], ◌∷◌, ◌++◌, Some, None, length, map, take, get_or, eqb, refl, ap, sym, ◌∙◌, subst, arith}
use Rattle.std.specs.Prelude.{slice_get}
use Rattle.std.specs.List.{list_any}
use Rattle.std.proofs.lemmas.Option.{slice_get_within, slice_get-get_or}
use Rattle.std.proofs.lemmas.List.{get_or_default, length-map}
use Rattle.std.proofs.lemmas.List.Folds.{Any-from_list_any}
use Rattle.std.proofs.lemmas.Map.Keys.{IsDistinct-from_apart}
use Rattle.std.proofs.lemmas.Map.Steps.{length-le_from_distinct_below}
use Rattle.std.proofs.lemmas.Bool.Decides.{nat_tests, Decides-eqb}
use Rattle.clause_check_spec.specs.declared.Literal.{Literal}
use Rattle.clause_check_spec.specs.Clause.{Clause, negation, is_of}
use Rattle.sat_search_spec.specs.declared.Entry.{Entry}
use Rattle.sat_search_spec.specs.Clauses.{Has, Numbered, AreApart}
use Rattle.sat_search_spec.specs.Trail.{truths, IsTrueBefore, IsForced, IsDecided, IsTrail, IsCut, IsConflict}
use Rattle.sat_search_spec.proofs.Members.{not_negation, has_at, place_of}

-- ---- lists

pub get_left : {X : Type 0} (xs : List X) (y : X) (i : ℕ) (x : X) → slice_get xs i ≡ Some x → slice_get (xs ++ y ∷ []) i ≡ Some x
get_left [] y i x h = cc
get_left (z ∷ xs) y zero x h = h
get_left (z ∷ xs) y (suc i) x h = get_left xs y i x h

pub get_last : {X : Type 0} (xs : List X) (y : X) → slice_get (xs ++ y ∷ []) (length xs) ≡ Some y
get_last [] y = refl
get_last (z ∷ xs) y = get_last xs y

pub get_cases : {X : Type 0} (xs : List X) (y : X) (i : ℕ) (x : X) → slice_get (xs ++ y ∷ []) i ≡ Some x → (slice_get xs i ≡ Some x) ⊎ ((i ≡ length xs) × (x ≡ y))
get_cases [] y zero x h = inr (refl, cc)
get_cases [] y (suc i) x h = cc
get_cases (z ∷ xs) y zero x h = inl h
get_cases (z ∷ xs) y (suc i) x h =
    elim (get_cases xs y i x h) [
      | inl there ↦ inl there
      | inr here ↦ inr (ap (λ n. suc n) here.0, here.1)
    ]

pub get_taken : {X : Type 0} (m : ℕ) (xs : List X) (i : ℕ) (x : X) → slice_get (take m xs) i ≡ Some x → (i < m) × (slice_get xs i ≡ Some x)
get_taken zero xs i x h = cc
get_taken (suc m) [] i x h = cc
get_taken (suc m) (z ∷ xs) zero x h = (omega arith, h)
get_taken (suc m) (z ∷ xs) (suc i) x h = let rest = get_taken m xs i x h in (omega (arith, rest.0), rest.1)

pub taken_get : {X : Type 0} (m : ℕ) (xs : List X) (i : ℕ) (x : X) → i < m → slice_get xs i ≡ Some x → slice_get (take m xs) i ≡ Some x
taken_get zero xs i x below h = absurd (omega arith)
taken_get (suc m) [] i x below h = cc
taken_get (suc m) (z ∷ xs) zero x below h = h
taken_get (suc m) (z ∷ xs) (suc i) x below h = taken_get m xs i x (omega arith) h

pub get_mapped : {X Y : Type 0} (f : X → Y) (xs : List X) (i : ℕ) (y : Y) → slice_get (map f xs) i ≡ Some y → (x : X) × (slice_get xs i ≡ Some x) × (f x ≡ y)
get_mapped f [] i y h = cc
get_mapped f (x ∷ xs) zero y h = (x, refl, cc)
get_mapped f (x ∷ xs) (suc i) y h = get_mapped f xs i y h

pub mapped_get : {X Y : Type 0} (f : X → Y) (xs : List X) (i : ℕ) (x : X) → slice_get xs i ≡ Some x → slice_get (map f xs) i ≡ Some (f x)
mapped_get f [] i x h = cc
mapped_get f (z ∷ xs) zero x h = let e : z ≡ x = cc in ap (λ w. Some (f w)) e
mapped_get f (z ∷ xs) (suc i) x h = mapped_get f xs i x h

pub some_same : {X : Type 0} (xs : List X) (i j : ℕ) (x y : X) → i ≡ j → slice_get xs i ≡ Some x → slice_get xs j ≡ Some y → x ≡ y
some_same xs i j x y e h k = let same : Some x ≡ Some y = sym h ∙ ap (slice_get xs) e ∙ k in cc

pub numbered_more : (clauses : List Clause) (more : Clause) (number : ℕ) (clause : Clause) → Numbered clauses number clause → Numbered (clauses ++ more ∷ []) number clause
numbered_more clauses more number clause numbered = record {
  positive = numbered.positive;
  there = get_left clauses more (number - 1) clause numbered.there;
}

-- ---- true literals

pub before_has : (trail : List Entry) (end : ℕ) (l : Literal) → IsTrueBefore trail end l → Has (truths (take end trail)) l
before_has trail end l before =
    has_at (truths (take end trail)) before.place l
    (mapped_get (λ e. e.literal) (take end trail) before.place before.entry (taken_get end trail before.place before.entry before.earlier before.there)
    ∙ ap Some before.same)

pub has_before : (trail : List Entry) (end : ℕ) (l : Literal) → Has (truths (take end trail)) l → IsTrueBefore trail end l
has_before trail end l h =
    let at = place_of (truths (take end trail)) l h in
    let entry = get_mapped (λ (e : Entry). e.literal) (take end trail) at.0 l at.1 in
    let there = get_taken end trail at.0 entry.0 entry.1 in
    record { place = at.0; entry = entry.0; earlier = there.0; there = there.1; same = entry.2 }

pub before_later : (trail : List Entry) (end later : ℕ) (l : Literal) → end ≤ later → IsTrueBefore trail end l → IsTrueBefore trail later l
before_later trail end later l h before = record {
  place = before.place;
  entry = before.entry;
  earlier = omega (arith, before.earlier, h);
  there = before.there;
  same = before.same;
}

pub before_more : (trail : List Entry) (more : Entry) (end : ℕ) (l : Literal) → IsTrueBefore trail end l → IsTrueBefore (trail ++ more ∷ []) end l
before_more trail more end l before = record {
  place = before.place;
  entry = before.entry;
  earlier = before.earlier;
  there = get_left trail more before.place before.entry before.there;
  same = before.same;
}

pub before_taken : (trail : List Entry) (m end : ℕ) (l : Literal) → end ≤ m → IsTrueBefore trail end l → IsTrueBefore (take m trail) end l
before_taken trail m end l h before = record {
  place = before.place;
  entry = before.entry;
  earlier = before.earlier;
  there = taken_get m trail before.place before.entry (omega (arith, before.earlier, h)) before.there;
  same = before.same;
}

-- no literal is both true and false
pub not_both : (variables : ℕ) (clauses : List Clause) (trail : List Entry) → IsTrail variables clauses trail
    → (i j : ℕ) (a b : Entry) → slice_get trail i ≡ Some a → slice_get trail j ≡ Some b → a.literal ≡ negation b.literal → ⊥
not_both variables clauses trail is_trail i j a b h k e =
    let same = is_trail.apart i j a b h k (ap (λ l. l.variable) e) in
    let entry = some_same trail i j a b same h k in
    not_negation b.literal (ap (λ x. x.literal) (sym entry) ∙ e)

pub not_both_before : (variables : ℕ) (clauses : List Clause) (trail : List Entry) → IsTrail variables clauses trail
    → (m n : ℕ) (l : Literal) → IsTrueBefore trail m l → IsTrueBefore trail n (negation l) → ⊥
not_both_before variables clauses trail is_trail m n l t f =
    not_both variables clauses trail is_trail f.place t.place f.entry t.entry f.there t.there (f.same ∙ ap negation (sym t.same))

pub truths_apart : (variables : ℕ) (clauses : List Clause) (trail : List Entry) (m : ℕ) → IsTrail variables clauses trail → AreApart (truths (take m trail))
truths_apart variables clauses trail m is_trail i j a b h k e =
    let first = get_mapped (λ (x : Entry). x.literal) (take m trail) i a h in
    let second = get_mapped (λ (x : Entry). x.literal) (take m trail) j b k in
    is_trail.apart i j first.0 second.0 (get_taken m trail i first.0 first.1).1 (get_taken m trail j second.0 second.1).1
    (ap (λ l. l.variable) first.2 ∙ e ∙ ap (λ l. l.variable) (sym second.2))

-- ---- one more clause

pub forced_clauses : (clauses : List Clause) (more : Clause) (trail : List Entry) (place : ℕ) (l : Literal) (number : ℕ)
    → IsForced clauses trail place l number → IsForced (clauses ++ more ∷ []) trail place l number
forced_clauses clauses more trail place l number is_forced = record {
  clause = is_forced.clause;
  numbered = numbered_more clauses more number is_forced.clause is_forced.numbered;
  has = is_forced.has;
  others = is_forced.others;
}

pub trail_clauses : (variables : ℕ) (clauses : List Clause) (more : Clause) (trail : List Entry) → IsTrail variables clauses trail → IsTrail variables (clauses ++ more ∷ []) trail
trail_clauses variables clauses more trail is_trail = record {
  of_variables = is_trail.of_variables;
  apart = is_trail.apart;
  rising = is_trail.rising;
  forced = λ i entry here reason. forced_clauses clauses more trail i entry.literal entry.reason (is_trail.forced i entry here reason);
  decided = is_trail.decided;
}

-- ---- one more entry

forced_more : (clauses : List Clause) (trail : List Entry) (more : Entry) (place : ℕ) (l : Literal) (number : ℕ)
    → IsForced clauses trail place l number → IsForced clauses (trail ++ more ∷ []) place l number
forced_more clauses trail more place l number is_forced = record {
  clause = is_forced.clause;
  numbered = is_forced.numbered;
  has = is_forced.has;
  others = λ other h.
      elim (is_forced.others other h) [
        | inl same ↦ inl same
        | inr before ↦ inr (before_more trail more place (negation other) before)
      ];
}

decided_more : (trail : List Entry) (more : Entry) (place level : ℕ) → place ≤ length trail → IsDecided trail place level → IsDecided (trail ++ more ∷ []) place level
decided_more trail more place level within is_decided = record {
  positive = is_decided.positive;
  first = λ i entry below here.
      elim (get_cases trail more i entry here) [
        | inl there ↦ is_decided.first i entry below there
        | inr last ↦ absurd (omega (arith, last.0, below, within))
      ];
}

pub trail_more : (variables : ℕ) (clauses : List Clause) (trail : List Entry) (more : Entry) → IsTrail variables clauses trail
    → is_of variables more.literal ≡ true
    → ((i : ℕ) (a : Entry) → slice_get trail i ≡ Some a → a.literal.variable ≡ more.literal.variable → ⊥)
    → ((i : ℕ) (a : Entry) → slice_get trail i ≡ Some a → a.level ≤ more.level)
    → (0 < more.reason → IsForced clauses trail (length trail) more.literal more.reason)
    → (more.reason ≡ 0 → IsDecided trail (length trail) more.level)
    → IsTrail variables clauses (trail ++ more ∷ [])
trail_more variables clauses trail more is_trail named fresh rises forces decides = record {
  of_variables = λ i entry here.
      elim (get_cases trail more i entry here) [
        | inl there ↦ is_trail.of_variables i entry there
        | inr last ↦ subst (λ (e : Entry). is_of variables e.literal ≡ true) (sym last.1) named
      ];
  apart = λ i j a b h k e.
      elim (get_cases trail more i a h) [
        | inl h' ↦
            elim (get_cases trail more j b k) [
              | inl k' ↦ is_trail.apart i j a b h' k' e
              | inr last ↦ absurd (fresh i a h' (e ∙ ap (λ (x : Entry). x.literal.variable) last.1))
            ]
        | inr last ↦
            elim (get_cases trail more j b k) [
              | inl k' ↦ absurd (fresh j b k' (sym e ∙ ap (λ (x : Entry). x.literal.variable) last.1))
              | inr last' ↦ last.0 ∙ sym last'.0
            ]
      ];
  rising = λ i j a b le h k.
      elim (get_cases trail more i a h) [
        | inl h' ↦
            elim (get_cases trail more j b k) [
              | inl k' ↦ is_trail.rising i j a b le h' k'
              | inr last ↦ subst (λ (x : Entry). a.level ≤ x.level) (sym last.1) (rises i a h')
            ]
        | inr last ↦
            elim (get_cases trail more j b k) [
              | inl k' ↦ absurd (let below = slice_get_within trail j b k' in omega (arith, below, le, last.0))
              | inr last' ↦ let same = ap (λ (x : Entry). x.level) (last.1 ∙ sym last'.1) in omega (arith, same)
            ]
      ];
  forced = λ i entry here reason.
      elim (get_cases trail more i entry here) [
        | inl there ↦ forced_more clauses trail more i entry.literal entry.reason (is_trail.forced i entry there reason)
        | inr last ↦
            subst (λ (x : Entry). IsForced clauses (trail ++ more ∷ []) i x.literal x.reason) (sym last.1)
            (subst (λ n. IsForced clauses (trail ++ more ∷ []) n more.literal more.reason) (sym last.0)
            (forced_more clauses trail more (length trail) more.literal more.reason
            (forces (subst (λ (x : Entry). 0 < x.reason) last.1 reason))))
      ];
  decided = λ i entry here reason.
      elim (get_cases trail more i entry here) [
        | inl there ↦
            decided_more trail more i entry.level (let below = slice_get_within trail i entry there in omega (arith, below))
            (is_trail.decided i entry there reason)
        | inr last ↦
            subst (λ (x : Entry). IsDecided (trail ++ more ∷ []) i x.level) (sym last.1)
            (subst (λ n. IsDecided (trail ++ more ∷ []) n more.level) (sym last.0)
            (decided_more trail more (length trail) more.level (omega arith)
            (decides (subst (λ (x : Entry). x.reason ≡ 0) last.1 reason))))
      ];
}

-- ---- the entries before a place

pub trail_taken : (variables : ℕ) (clauses : List Clause) (trail : List Entry) (m : ℕ) → IsTrail variables clauses trail → IsTrail variables clauses (take m trail)
trail_taken variables clauses trail m is_trail = record {
  of_variables = λ i entry here. is_trail.of_variables i entry (get_taken m trail i entry here).1;
  apart = λ i j a b h k e. is_trail.apart i j a b (get_taken m trail i a h).1 (get_taken m trail j b k).1 e;
  rising = λ i j a b le h k. is_trail.rising i j a b le (get_taken m trail i a h).1 (get_taken m trail j b k).1;
  forced = λ i entry here reason.
      let there = get_taken m trail i entry here in
      let is_forced = is_trail.forced i entry there.1 reason in
      record {
        clause = is_forced.clause;
        numbered = is_forced.numbered;
        has = is_forced.has;
        others = λ other h.
            elim (is_forced.others other h) [
              | inl same ↦ inl same
              | inr before ↦ inr (before_taken trail m i (negation other) (let below = there.0 in omega (arith, below)) before)
            ];
      };
  decided = λ i entry here reason.
      let there = get_taken m trail i entry here in
      let is_decided = is_trail.decided i entry there.1 reason in
      record {
        positive = is_decided.positive;
        first = λ j a below at. is_decided.first j a below (get_taken m trail j a at).1;
      };
}

-- an entry up to the level of a cut is before it
pub cut_before : (trail : List Entry) (level m i : ℕ) (entry : Entry) → IsCut trail level m → slice_get trail i ≡ Some entry → entry.level ≤ level → i < m
cut_before trail level m i entry cut here within = by_place (le_or_lt m i)
  where
    le_or_lt : (a b : ℕ) → (a ≤ b) ⊎ (b < a)
    le_or_lt a b = grind arith

    by_place : (m ≤ i) ⊎ (i < m) → i < m
    by_place (inl past) = absurd (let later = cut.above i entry past here in omega (arith, later, within))
    by_place (inr before) = before

-- ---- variables have at most one entry each

pub trail_short : (variables : ℕ) (clauses : List Clause) (trail : List Entry) → IsTrail variables clauses trail → length trail ≤ variables
trail_short variables clauses trail is_trail =
    let bound = length-le_from_distinct_below (map index trail) variables (IsDistinct-from_apart eqb (map index trail) apart) below in
    let same = length-map trail index in
    omega (arith, bound, same)
  where
    index : Entry → ℕ
    index entry = entry.literal.variable - 1

    named_low : (l : Literal) → is_of variables l ≡ true → 1 ≤ l.variable
    named_low l e = grind (arith, nat_tests)

    named_high : (l : Literal) → is_of variables l ≡ true → l.variable ≤ variables
    named_high l e = grind (arith, nat_tests)

    entry_at : (i : ℕ) → i < length (map index trail) → (e : Entry) × (slice_get trail i ≡ Some e) × ((d : ℕ) → get_or (map index trail) i d ≡ index e)
    entry_at i h =
        let x = get_mapped index trail i (get_or (map index trail) i 0) (slice_get-get_or (map index trail) i 0 h) in
        (x.0, x.1, λ d. get_or_default (map index trail) i d 0 h ∙ sym x.2)

    apart : (i j d : ℕ) → i < j → j < length (map index trail) → eqb (get_or (map index trail) i d) (get_or (map index trail) j d) ≡ false
    apart i j d lt h =
        let a = entry_at i (omega (arith, lt, h)) in
        let b = entry_at j h in
        by_test (eqb (get_or (map index trail) i d) (get_or (map index trail) j d)) refl a b
      where
        by_test : (t : Bool) → eqb (get_or (map index trail) i d) (get_or (map index trail) j d) ≡ t
            → ((e : Entry) × (slice_get trail i ≡ Some e) × ((d : ℕ) → get_or (map index trail) i d ≡ index e))
            → ((e : Entry) × (slice_get trail j ≡ Some e) × ((d : ℕ) → get_or (map index trail) j d ≡ index e)) → t ≡ false
        by_test false e a b = refl
        by_test true e a b =
            let same : index a.0 ≡ index b.0 = sym (a.2 d) ∙ (Decides-eqb (get_or (map index trail) i d) (get_or (map index trail) j d)).0 e ∙ b.2 d in
            let low_a = named_low a.0.literal (is_trail.of_variables i a.0 a.1) in
            let low_b = named_low b.0.literal (is_trail.of_variables j b.0 b.1) in
            let variable : a.0.literal.variable ≡ b.0.literal.variable = omega (arith, same, low_a, low_b) in
            let place = is_trail.apart i j a.0 b.0 a.1 b.1 variable in
            absurd (omega (arith, place, lt))

    below : (q : ℕ) → list_any (eqb q) (map index trail) ≡ true → q < variables
    below q e =
        let some = Any-from_list_any (eqb q) (map index trail) e in
        let at = entry_at some.0 some.2 in
        let low = named_low at.0.literal (is_trail.of_variables some.0 at.0 at.1) in
        let high = named_high at.0.literal (is_trail.of_variables some.0 at.0 at.1) in
        let same : q ≡ index at.0 = (Decides-eqb q some.1).0 some.4 ∙ sym some.3 ∙ at.2 some.1 in
        omega (arith, same, low, high)
