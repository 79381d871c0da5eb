-- Conflict analysis, an entry of the trail at a time.
use Rattle.std.proofs.Common.{◌≡◌, ◌⊎◌, inl, inr, ℕ, zero, suc, ◌+◌, ◌-◌, ◌<◌, ◌≤◌, Bool, true, false, List, [], ◌∷◌, ◌++◌, Some, None, length, get_or, map, take, refl, ap, sym, ◌∙◌, subst, arith}
use Rattle.std.specs.Prelude.{◌==◌, ◌&&◌, ◌||◌, not, slice_get}
use Rattle.std.specs.List.{list_any, list_all}
use Rattle.std.proofs.lemmas.Option.{slice_get_within}
use Rattle.std.proofs.lemmas.List.{take_all}
use Rattle.std.proofs.lemmas.List.Folds.{list_all-append, list_any-append}
use Rattle.std.proofs.lemmas.Bool.Decides.{Decides-eqb}
use Rattle.clause_check_spec.specs.declared.Literal.{Literal}
use Rattle.clause_check_spec.specs.Clause.{Clause, negation, is_of}
use Rattle.clause_check_spec.specs.Step.{is_true, finding, finding_at, Fails, Forces, are_apart, are_fit}
use Rattle.clause_check_spec.specs.Log.{Step}
use Rattle.sat_search_spec.specs.declared.Entry.{Entry}
use Rattle.sat_search_spec.specs.Clauses.{Has, Numbered, IsLive, AreLive}
use Rattle.sat_search_spec.specs.Chain.{Named, Chain, ends, forces}
use Rattle.sat_search_spec.specs.Logs.{IsNew, IsLearnt}
use Rattle.sat_search_spec.specs.Trail.{truths, IsTrueBefore, IsForced, IsTrail, IsConflict}
use Rattle.sat_search_spec.specs.Analysis.{IsMarked, IsFalseMarked, IsFalseAt, IsMarking, Fits, IsFalseFrom, Explains, IsExplained}
use Rattle.sat_search_spec.proofs.Members.{or_neither, and_left, and_right, and_both, false_by, negation_twice, negations_same, has_nothing, has_head, has_tail, has_cases, has_left, has_last, has_push, has_negation, negation_has}
use Rattle.sat_search_spec.proofs.Findings.{finding_fails, finding_forces, live_not_fails, finding_numbered, any_none}
use Rattle.sat_search_spec.proofs.Trails.{some_same, before_has, has_before, before_later, not_both, not_both_before, truths_apart}

below_or_at : (i n : ℕ) → i < n + 1 → (i ≡ n) ⊎ (i < n)
below_or_at i n h = grind arith

below_or_from : (i n : ℕ) → (i < n) ⊎ (n ≤ i)
below_or_from i n = grind arith

false_later : (trail : List Entry) (start earlier : ℕ) (l : Literal) → earlier ≤ start → IsFalseFrom trail start l → IsFalseFrom trail earlier l
false_later trail start earlier l h from = record {
  place = from.place;
  entry = from.entry;
  later = let k = from.later in omega (arith, h, k);
  there = from.there;
  negated = from.negated;
}

named_more : (clauses : List Clause) (l : Literal) (number : ℕ) (hints : List ℕ) → Named clauses l hints → Named clauses l (number ∷ hints)
named_more clauses l number hints named = record {
  place = suc named.place;
  number = named.number;
  hint = named.hint;
  clause = named.clause;
  numbered = named.numbered;
  has = named.has;
}

-- ---- the conflict

pub explains_conflict : (variables : ℕ) (clauses : List Clause) (trail : List Entry) (old marks : List Bool) (excepted : Literal) (number : ℕ)
    → IsTrail variables clauses trail → (conflict : IsConflict clauses trail number) → ((i : ℕ) → IsMarked old i → ⊥)
    → (Has conflict.clause excepted → ⊥) → IsMarking trail conflict.clause excepted old marks
    → Explains variables clauses trail marks [] (number ∷ []) (length trail)
explains_conflict variables clauses trail old marks excepted number is_trail conflict unmarked foreign marking = record {
  reaches = λ made fits.
      ends made number
      (finding_numbered clauses made number conflict.clause conflict.numbered
      ∙ finding_fails made conflict.clause (λ l h. false_by (is_true made l) (none made fits l h)) (all made fits));
  used = λ i entry below here marked.
      elim (marking.only i marked) [
        | inl before ↦ absurd (unmarked i before)
        | inr at ↦
            record {
              place = 0;
              number = number;
              hint = refl;
              clause = conflict.clause;
              numbered = conflict.numbered;
              has = subst (λ (e : Entry). Has conflict.clause (negation e.literal)) (some_same trail i i at.entry entry refl at.there here) at.has;
            }
      ];
  named = λ l h. absurd (has_nothing l h);
  later = λ l h. absurd (has_nothing l h);
  fit = refl;
}
  where
    none : (made : List Literal) → Fits trail marks [] (length trail) made → (l : Literal) → Has conflict.clause l → is_true made l ≡ true → ⊥
    none made fits l h t =
        elim (fits.only l t) [
          | inl before ↦ not_both_before variables clauses trail is_trail (length trail) (length trail) l before (conflict.negated l h)
          | inr learnt ↦ has_nothing (negation l) learnt
        ]

    all : (made : List Literal) → Fits trail marks [] (length trail) made → (l : Literal) → Has conflict.clause l → Has made (negation l)
    all made fits l h =
        elim (marking.all l h) [
          | inl e ↦ absurd (foreign (subst (λ m. Has conflict.clause m) e h))
          | inr marked ↦
              subst (λ m. Has made m) marked.negated
              (fits.marked marked.place marked.entry (slice_get_within trail marked.place marked.entry marked.there) marked.there marked.marked)
        ]

-- a conflict marks an entry from the last decision on, since the clauses are live before
pub conflict_late : (variables : ℕ) (clauses : List Clause) (trail : List Entry) (old marks : List Bool) (excepted : Literal) (number start : ℕ)
    → IsTrail variables clauses trail → (conflict : IsConflict clauses trail number) → (Has conflict.clause excepted → ⊥)
    → IsMarking trail conflict.clause excepted old marks → AreLive (truths (take start trail)) clauses
    → ((i : ℕ) → start ≤ i → i < length trail → IsMarked marks i → ⊥) → ⊥
conflict_late variables clauses trail old marks excepted number start is_trail conflict foreign marking live none =
    live_not_fails (truths (take start trail)) conflict.clause (live (number - 1) conflict.clause conflict.numbered.there)
    (finding_fails (truths (take start trail)) conflict.clause
    (λ l h. false_by (is_true (truths (take start trail)) l)
    (λ t. not_both_before variables clauses trail is_trail start (length trail) l (has_before trail start l t) (conflict.negated l h)))
    (λ l h. before_has trail start (negation l) (early l h)))
  where
    early : (l : Literal) → Has conflict.clause l → IsTrueBefore trail start (negation l)
    early l h =
        elim (marking.all l h) [
          | inl e ↦ absurd (foreign (subst (λ m. Has conflict.clause m) e h))
          | inr marked ↦
              elim (below_or_from marked.place start) [
                | inl before ↦ record { place = marked.place; entry = marked.entry; earlier = before; there = marked.there; same = marked.negated }
                | inr from ↦ absurd (none marked.place from (slice_get_within trail marked.place marked.entry marked.there) marked.marked)
              ]
        ]

-- ---- entries that aren't marked

pub explains_skip : (variables : ℕ) (clauses : List Clause) (trail : List Entry) (marks : List Bool) (learnt : List Literal) (hints : List ℕ) (end earlier : ℕ)
    → earlier ≤ end → ((i : ℕ) → earlier ≤ i → i < end → IsMarked marks i → ⊥) → Explains variables clauses trail marks learnt hints end
    → Explains variables clauses trail marks learnt hints earlier
explains_skip variables clauses trail marks learnt hints end earlier h none explains = record {
  reaches = λ made fits.
      explains.reaches made (record {
        marked = λ i entry below here marked.
            elim (below_or_from i earlier) [
              | inl before ↦ fits.marked i entry before here marked
              | inr from ↦ absurd (none i from below marked)
            ];
        kept = fits.kept;
        only = λ l t.
            elim (fits.only l t) [
              | inl before ↦ inl (before_later trail earlier end l h before)
              | inr learnt_before ↦ inr learnt_before
            ];
      });
  used = λ i entry below here marked. explains.used i entry (omega (arith, below, h)) here marked;
  named = explains.named;
  later = λ l learnt_before. false_later trail end earlier l h (explains.later l learnt_before);
  fit = explains.fit;
}

-- ---- an entry whose negation is learnt

apart_push : (xs : List Literal) (x : Literal) → are_apart xs ≡ true → ((l : Literal) → Has xs l → l.variable ≡ x.variable → ⊥) → are_apart (xs ++ x ∷ []) ≡ true
apart_push [] x apart other = refl
apart_push (y ∷ xs) x apart other =
    let head = and_left (not (list_any (λ l. l.variable == y.variable) xs)) (are_apart xs) apart in
    let tail = and_right (not (list_any (λ l. l.variable == y.variable) xs)) (are_apart xs) apart in
    and_both (not (list_any (λ l. l.variable == y.variable) (xs ++ x ∷ []))) (are_apart (xs ++ x ∷ []))
    (ap not (list_any-append (λ (l : Literal). l.variable == y.variable) xs (x ∷ [])
    ∙ or_neither (list_any (λ l. l.variable == y.variable) xs) ((x.variable == y.variable) || false) (not_true (list_any (λ l. l.variable == y.variable) xs) head)
    (or_neither (x.variable == y.variable) false (false_by (x.variable == y.variable) (λ e. other y (has_head y xs) (sym ((Decides-eqb x.variable y.variable).0 e)))) refl)))
    (apart_push xs x tail (λ l h. other l (has_tail y xs l h)))
  where
    not_true : (b : Bool) → not b ≡ true → b ≡ false
    not_true true e = cc
    not_true false e = refl

pub fit_push : (variables : ℕ) (xs : List Literal) (x : Literal) → are_fit variables xs ≡ true → is_of variables x ≡ true
    → ((l : Literal) → Has xs l → l.variable ≡ x.variable → ⊥) → are_fit variables (xs ++ x ∷ []) ≡ true
fit_push variables xs x fit named other =
    and_both (list_all (is_of variables) (xs ++ x ∷ [])) (are_apart (xs ++ x ∷ []))
    (list_all-append (is_of variables) xs (x ∷ [])
    ∙ and_both (list_all (is_of variables) xs) (is_of variables x && true) (and_left (list_all (is_of variables) xs) (are_apart xs) fit)
    (and_both (is_of variables x) true named refl))
    (apart_push xs x (and_right (list_all (is_of variables) xs) (are_apart xs) fit) other)

pub explains_keep : (variables : ℕ) (clauses : List Clause) (trail : List Entry) (marks : List Bool) (learnt : List Literal) (hints : List ℕ) (place : ℕ) (entry : Entry)
    → IsTrail variables clauses trail → slice_get trail place ≡ Some entry → IsMarked marks place
    → Explains variables clauses trail marks learnt hints (place + 1)
    → Explains variables clauses trail marks (learnt ++ negation entry.literal ∷ []) hints place
explains_keep variables clauses trail marks learnt hints place entry is_trail here is_marked explains = record {
  reaches = λ made fits.
      explains.reaches made (record {
        marked = λ i e below there marked.
            elim (below_or_at i place below) [
              | inl at ↦
                  subst (λ (x : Entry). Has made x.literal) (sym (some_same trail i place e entry at there here))
                  (subst (λ l. Has made l) (negation_twice entry.literal) (fits.kept (negation entry.literal) (has_last learnt (negation entry.literal))))
              | inr before ↦ fits.marked i e before there marked
            ];
        kept = λ l h. fits.kept l (has_left learnt (negation entry.literal ∷ []) l h);
        only = λ l t.
            elim (fits.only l t) [
              | inl before ↦ inl (before_later trail place (place + 1) l (omega arith) before)
              | inr h ↦
                  elim (has_push learnt (negation entry.literal) (negation l) h) [
                    | inl kept ↦ inr kept
                    | inr e ↦ inl (record { place = place; entry = entry; earlier = omega arith; there = here; same = sym (negations_same l entry.literal e) })
                  ]
            ];
      });
  used = λ i e below there marked. explains.used i e (omega (arith, below)) there marked;
  named = λ l h.
      elim (has_push learnt (negation entry.literal) l h) [
        | inl kept ↦ explains.named l kept
        | inr e ↦ subst (λ m. Named clauses m hints) (sym e) (explains.used place entry (omega arith) here is_marked)
      ];
  later = λ l h.
      elim (has_push learnt (negation entry.literal) l h) [
        | inl kept ↦ false_later trail (place + 1) place l (omega arith) (explains.later l kept)
        | inr e ↦ record { place = place; entry = entry; later = omega arith; there = here; negated = e }
      ];
  fit =
      fit_push variables learnt (negation entry.literal) explains.fit (is_trail.of_variables place entry here)
      (λ l h e.
      let from = explains.later l h in
      let same = is_trail.apart from.place place from.entry entry from.there here (sym (ap (λ (m : Literal). m.variable) from.negated) ∙ e) in
      let past = from.later in absurd (omega (arith, same, past)));
}

-- ---- an entry that is resolved with its reason

pub explains_resolve : (variables : ℕ) (clauses : List Clause) (trail : List Entry) (old marks : List Bool) (learnt : List Literal) (hints : List ℕ) (place : ℕ) (entry : Entry)
    → IsTrail variables clauses trail → slice_get trail place ≡ Some entry → IsMarked old place
    → (reason : IsForced clauses trail place entry.literal entry.reason) → IsMarking trail reason.clause entry.literal old marks
    → Explains variables clauses trail old learnt hints (place + 1)
    → Explains variables clauses trail marks learnt (entry.reason ∷ hints) place
explains_resolve variables clauses trail old marks learnt hints place entry is_trail here marked reason marking explains = record {
  reaches = λ made fits.
      forces made entry.reason entry.literal hints (found made fits) (explains.used place entry (omega arith) here marked)
      (explains.reaches (made ++ entry.literal ∷ []) (fits_more made fits));
  used = λ i e below there is_marked.
      elim (marking.only i is_marked) [
        | inl before ↦ named_more clauses (negation e.literal) entry.reason hints (explains.used i e (omega (arith, below)) there before)
        | inr at ↦
            record {
              place = 0;
              number = entry.reason;
              hint = refl;
              clause = reason.clause;
              numbered = reason.numbered;
              has = subst (λ (x : Entry). Has reason.clause (negation x.literal)) (some_same trail i i at.entry e refl at.there there) at.has;
            }
      ];
  named = λ l h. named_more clauses l entry.reason hints (explains.named l h);
  later = λ l h. false_later trail (place + 1) place l (omega arith) (explains.later l h);
  fit = explains.fit;
}
  where
    -- a literal of the reason that was learnt, or is true before, can't be true
    none : (made : List Literal) → Fits trail marks learnt place made → (m : Literal) → Has reason.clause m → is_true made m ≡ true → ⊥
    none made fits m h t =
        elim (fits.only m t) [
          | inl before ↦
              elim (reason.others m h) [
                | inl e ↦
                    let same = is_trail.apart before.place place before.entry entry before.there here (ap (λ (l : Literal). l.variable) (before.same ∙ e)) in
                    let below = before.earlier in omega (arith, same, below)
                | inr negated ↦ not_both_before variables clauses trail is_trail place place m before negated
              ]
          | inr kept ↦
              let from = explains.later (negation m) kept in
              let is_m : from.entry.literal ≡ m = sym (negations_same m from.entry.literal from.negated) in
              elim (reason.others m h) [
                | inl e ↦
                    let same = is_trail.apart from.place place from.entry entry from.there here (ap (λ (l : Literal). l.variable) (is_m ∙ e)) in
                    let past = from.later in omega (arith, same, past)
                | inr negated ↦
                    not_both variables clauses trail is_trail negated.place from.place negated.entry from.entry negated.there from.there
                    (negated.same ∙ ap negation (sym is_m))
              ]
        ]

    unset : (made : List Literal) → Fits trail marks learnt place made → is_true made (negation entry.literal) ≡ true → ⊥
    unset made fits t =
        elim (fits.only (negation entry.literal) t) [
          | inl before ↦ not_both variables clauses trail is_trail before.place place before.entry entry before.there here before.same
          | inr kept ↦
              let from = explains.later (negation (negation entry.literal)) kept in
              not_both variables clauses trail is_trail from.place place from.entry entry from.there here
              (sym (negations_same (negation entry.literal) from.entry.literal from.negated))
        ]

    others : (made : List Literal) → Fits trail marks learnt place made → (m : Literal) → Has reason.clause m → (m ≡ entry.literal) ⊎ Has made (negation m)
    others made fits m h =
        elim (reason.others m h) [
          | inl e ↦ inl e
          | inr before ↦
              elim (marking.all m h) [
                | inl e ↦ inl e
                | inr at ↦
                    let same = is_trail.apart at.place before.place at.entry before.entry at.there before.there (ap (λ (l : Literal). l.variable) (at.negated ∙ sym before.same)) in
                    inr (subst (λ l. Has made l) before.same
                    (fits.marked before.place before.entry before.earlier before.there (subst (λ n. IsMarked marks n) same at.marked)))
              ]
        ]

    found : (made : List Literal) → Fits trail marks learnt place made → finding_at clauses made entry.reason ≡ Forces entry.literal
    found made fits =
        finding_numbered clauses made entry.reason reason.clause reason.numbered
        ∙ finding_forces made reason.clause entry.literal reason.has (λ m h. false_by (is_true made m) (none made fits m h))
        (false_by (is_true made (negation entry.literal)) (unset made fits)) (others made fits)

    fits_more : (made : List Literal) → Fits trail marks learnt place made → Fits trail old learnt (place + 1) (made ++ entry.literal ∷ [])
    fits_more made fits = record {
      marked = λ i e below there is_marked.
          elim (below_or_at i place below) [
            | inl at ↦
                subst (λ (x : Entry). Has (made ++ entry.literal ∷ []) x.literal) (sym (some_same trail i place e entry at there here)) (has_last made entry.literal)
            | inr before ↦ has_left made (entry.literal ∷ []) e.literal (fits.marked i e before there (marking.kept i is_marked))
          ];
      kept = λ l h. has_left made (entry.literal ∷ []) (negation l) (fits.kept l h);
      only = λ l t.
          elim (has_push made entry.literal l t) [
            | inl was ↦
                elim (fits.only l was) [
                  | inl before ↦ inl (before_later trail place (place + 1) l (omega arith) before)
                  | inr kept ↦ inr kept
                ]
            | inr e ↦ inl (record { place = place; entry = entry; earlier = omega arith; there = here; same = sym e })
          ];
    }

-- ---- the whole trail

pub explains_all : (variables : ℕ) (clauses : List Clause) (trail : List Entry) (marks : List Bool) (learnt : List Literal) (hints : List ℕ)
    → Explains variables clauses trail marks learnt hints 0 → Chain clauses (map negation learnt) hints
explains_all variables clauses trail marks learnt hints explains =
    explains.reaches (map negation learnt) (record {
      marked = λ i entry below here marked. absurd (omega (arith, below));
      kept = λ l h. has_negation learnt l h;
      only = λ l t. inr (negation_has learnt l t);
    })

-- a clause that was learnt is new, by the trail before the last decision
pub explained_new : (variables : ℕ) (clauses : List Clause) (trail : List Entry) (start : ℕ) (learnt : List Literal) (hints : List ℕ)
    → IsTrail variables clauses trail → IsExplained variables clauses trail start learnt hints → AreLive (truths (take start trail)) clauses
    → IsNew clauses learnt
explained_new variables clauses trail start learnt hints is_trail explained live = record {
  assignment = truths (take start trail);
  apart = truths_apart variables clauses trail start is_trail;
  left = explained.asserting;
  forced =
      finding_forces (truths (take start trail)) learnt explained.asserting
      (subst (λ c. Has c explained.asserting) (sym explained.learnt_are) (has_head explained.asserting explained.others))
      (λ m h. false_by (is_true (truths (take start trail)) m) (λ t. none m (subst (λ c. Has c m) explained.learnt_are h) (has_before trail start m t)))
      (false_by (is_true (truths (take start trail)) (negation explained.asserting)) (λ t. unset (has_before trail start (negation explained.asserting) t)))
      (λ m h. others m (subst (λ c. Has c m) explained.learnt_are h));
  live = live;
}
  where
    none : (m : Literal) → Has (explained.asserting ∷ explained.others) m → IsTrueBefore trail start m → ⊥
    none m h before =
        elim (has_cases explained.asserting explained.others m h) [
          | inl e ↦
              not_both variables clauses trail is_trail before.place explained.last.place before.entry explained.last.entry before.there explained.last.there
              (before.same ∙ e ∙ explained.last.negated)
          | inr later ↦ not_both_before variables clauses trail is_trail start start m before (explained.earlier m later)
        ]

    unset : IsTrueBefore trail start (negation explained.asserting) → ⊥
    unset before =
        let same =
        is_trail.apart before.place explained.last.place before.entry explained.last.entry before.there explained.last.there
        (ap (λ (l : Literal). l.variable) (before.same ∙ ap negation explained.last.negated))
        in
        let below = before.earlier in
        let past = explained.last.later in
        omega (arith, same, below, past)

    others : (m : Literal) → Has (explained.asserting ∷ explained.others) m → (m ≡ explained.asserting) ⊎ Has (truths (take start trail)) (negation m)
    others m h =
        elim (has_cases explained.asserting explained.others m h) [
          | inl e ↦ inl e
          | inr later ↦ inr (before_has trail start (negation m) (explained.earlier m later))
        ]

pub explained_learnt : (variables : ℕ) (clauses : List Clause) (trail : List Entry) (start : ℕ) (step : Step)
    → IsTrail variables clauses trail → IsExplained variables clauses trail start step.literals step.hints → AreLive (truths (take start trail)) clauses
    → IsLearnt variables clauses step
explained_learnt variables clauses trail start step is_trail explained live = record {
  fit = explained.fit;
  chain = explained.chain;
  named = explained.named;
  is_new = λ nonempty. explained_new variables clauses trail start step.literals step.hints is_trail explained live;
}
