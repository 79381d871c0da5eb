-- The steps of the analysis, over what the code knows.
use Rattle.std.proofs.Common.{◌≡◌, ◌⊎◌, inl, inr, ℕ, zero, suc, ◌+◌, ◌-◌, ◌<◌, ◌≤◌, Bool, true, false, List, [], ◌∷◌, ◌++◌, Some, None, length, get_or, map, take, reverse, refl, ap, sym, ◌∙◌, subst, arith}
use Rattle.std.specs.Prelude.{slice_get}
use Rattle.std.proofs.lemmas.Option.{slice_get_within}
use Rattle.std.proofs.lemmas.List.{reverse-append, append-nil, append_assoc}
use Rattle.clause_check_spec.specs.declared.Literal.{Literal}
use Rattle.clause_check_spec.specs.Clause.{Clause, negation, are_of}
use Rattle.clause_check_spec.specs.Step.{are_fit}
use Rattle.clause_check_spec.specs.Log.{Step}
use Rattle.sat_search_spec.specs.declared.Entry.{Entry}
use Rattle.sat_search_spec.specs.Clauses.{Has, Numbered, AreLive}
use Rattle.sat_search_spec.specs.Chain.{AreNamed, Chain}
use Rattle.sat_search_spec.specs.Trail.{Trailed, IsTrueBefore, IsForced, IsTrail, IsConflict, IsSound, IsCut, truths}
use Rattle.sat_search_spec.specs.Analysis.{IsMarked, IsMarking, IsFalseFrom, Explains, IsExplained}
use Rattle.sat_search_spec.proofs.Members.{negation_twice, has_nothing, has_head, has_push}
use Rattle.sat_search_spec.proofs.Trails.{some_same, before_later}
use Rattle.sat_search_spec.proofs.Analyses.{explains_conflict, conflict_late, explains_skip, explains_keep, explains_resolve, explains_all}
use Rattle.sat_search_analysis.specs.Marks.{AreUnmarked, IsLastMarked}
use Rattle.sat_search_analysis.specs.Explained.{ExplainsBack, IsUip, IsFalseAbove, AreLearntBelow, IsDone, IsAnalysed, IsEmptyLearnt, IsConflictMarked}
use Rattle.sat_search_analysis.proofs.Markings.{literal_of, clause_of, no_variable}

-- ---- the reason of an entry

pub forced_clause : (clauses : List Clause) (trail : Trailed) (place : ℕ) (entry : Entry) (clause : Clause) → IsSound clauses trail
    → slice_get trail.entries place ≡ Some entry → (positive : 0 < entry.reason) → slice_get clauses (entry.reason - 1) ≡ Some clause
    → (sound : IsForced clauses trail.entries place entry.literal entry.reason) × (sound.clause ≡ clause)
forced_clause clauses trail place entry clause sound here positive there =
    let forced = sound.is_trail.forced place entry here positive in
    let same : Some forced.clause ≡ Some clause = sym forced.numbered.there ∙ there in
    (forced, cc)

-- its other literals are false
pub reason_false : (clauses : List Clause) (trail : Trailed) (place : ℕ) (entry : Entry) (clause : Clause) → IsSound clauses trail
    → slice_get trail.entries place ≡ Some entry → 0 < entry.reason → slice_get clauses (entry.reason - 1) ≡ Some clause
    → (l : Literal) → Has clause l → (l ≡ entry.literal) ⊎ IsTrueBefore trail.entries (length trail.entries) (negation l)
reason_false clauses trail place entry clause sound here positive there l h =
    let forced = forced_clause clauses trail place entry clause sound here positive there in
    let within = slice_get_within trail.entries place entry here in
    elim (forced.0.others l (subst (λ c. Has c l) (sym forced.1) h)) [
      | inl e ↦ inl e
      | inr before ↦ inr (before_later trail.entries place (length trail.entries) (negation l) (omega (arith, within)) before)
    ]

pub resolved : (clauses : List Clause) (trail : Trailed) (place : ℕ) (entry : Entry) (clause : Clause) (old marks : List Bool) (learnt : List Literal) (hints : List ℕ)
    → IsSound clauses trail → slice_get trail.entries place ≡ Some entry → 0 < entry.reason → slice_get clauses (entry.reason - 1) ≡ Some clause
    → IsMarking trail.entries clause entry.literal old marks → IsMarked old place → ExplainsBack clauses trail old learnt hints (place + 1)
    → ExplainsBack clauses trail marks learnt (hints ++ entry.reason ∷ []) place
resolved clauses trail place entry clause old marks learnt hints sound here positive there marking marked explains =
    let forced = forced_clause clauses trail place entry clause sound here positive there in
    subst (λ h. Explains trail.variables clauses trail.entries marks learnt h place) (sym (reverse-append hints (entry.reason ∷ [])))
    (explains_resolve trail.variables clauses trail.entries old marks learnt (reverse hints) place entry sound.is_trail here marked forced.0
    (subst (λ c. IsMarking trail.entries c entry.literal old marks) (sym forced.1) marking) explains)

pub later_forced : (clauses : List Clause) (trail : Trailed) (start i : ℕ) (entry : Entry) → IsSound clauses trail → 0 < trail.level
    → IsCut trail.entries (trail.level - 1) start → start < i → slice_get trail.entries i ≡ Some entry → 0 < entry.reason
later_forced clauses trail start i entry sound decided cut lt here =
    elim (zero_or (entry.reason)) [
      | inl none ↦
          let is_decided = sound.is_trail.decided i entry here none in
          let within = slice_get_within trail.entries i entry here in
          let first = some_entry trail.entries start (omega (arith, lt, within)) in
          let lower = is_decided.first start first.0 lt first.1 in
          let above = cut.above start first.0 (omega arith) first.1 in
          let top = sound.top i entry here in
          absurd (omega (arith, lower, above, top, decided))
      | inr some ↦ some
    ]
  where
    zero_or : (n : ℕ) → (n ≡ 0) ⊎ (0 < n)
    zero_or n = grind arith

    some_entry : (xs : List Entry) (n : ℕ) → n < length xs → (x : Entry) × (slice_get xs n ≡ Some x)
    some_entry [] n h = absurd (omega (arith, h))
    some_entry (x ∷ xs) zero h = (x, refl)
    some_entry (x ∷ xs) (suc n) h = some_entry xs n (omega (arith, h))

-- ---- the conflict

pub conflict_marked : (clauses : List Clause) (trail : Trailed) (number : ℕ) (clause : Clause) (foreign : Literal) (old marks : List Bool) → IsSound clauses trail
    → IsConflict clauses trail.entries number → slice_get clauses (number - 1) ≡ Some clause → foreign.variable ≡ 0 → ((i : ℕ) → IsMarked old i → ⊥)
    → length old ≡ length trail.entries
    → (((l : Literal) → Has clause l → (l ≡ foreign) ⊎ IsTrueBefore trail.entries (length trail.entries) (negation l)) → IsMarking trail.entries clause foreign old marks)
    → IsConflictMarked clauses trail number marks
conflict_marked clauses trail number clause foreign old marks sound conflict there e unmarked count marks_it =
    let same_some : Some conflict.clause ≡ Some clause = sym conflict.numbered.there ∙ there in
    let same : conflict.clause ≡ clause = cc in
    let marking =
    marks_it (λ l h. inr (conflict.negated l (subst (λ c. Has c l) (sym same) h)))
    in
    let marking_there = subst (λ c. IsMarking trail.entries c foreign old marks) (sym same) marking in
    let not_there : Has conflict.clause foreign → ⊥ =
    λ h. no_variable trail.variables foreign e
    (literal_of trail.variables conflict.clause foreign (clause_of trail.variables clauses (number - 1) conflict.clause sound.of_variables conflict.numbered.there) h)
    in
    record {
      count = marking.count ∙ count;
      explains = explains_conflict trail.variables clauses trail.entries old marks foreign number sound.is_trail conflict unmarked not_there marking_there;
      late = λ start live none.
          conflict_late trail.variables clauses trail.entries old marks foreign number start sound.is_trail conflict not_there marking_there live none;
    }

-- ---- skipping to the last mark

pub skipped : (clauses : List Clause) (trail : Trailed) (marks : List Bool) (learnt : List Literal) (hints : List ℕ) (start end place : ℕ) → IsLastMarked marks start end place
    → ExplainsBack clauses trail marks learnt hints end → ExplainsBack clauses trail marks learnt hints (place + 1)
skipped clauses trail marks learnt hints start end place last explains =
    let before = last.before in
    explains_skip trail.variables clauses trail.entries marks learnt (reverse hints) end (place + 1) (omega (arith, before)) last.last explains

pub skipped_all : (clauses : List Clause) (trail : Trailed) (marks : List Bool) (learnt : List Literal) (hints : List ℕ) (start end : ℕ) → start ≤ end → AreUnmarked marks start end
    → ExplainsBack clauses trail marks learnt hints end → ExplainsBack clauses trail marks learnt hints start
skipped_all clauses trail marks learnt hints start end h unmarked explains =
    explains_skip trail.variables clauses trail.entries marks learnt (reverse hints) end start h unmarked explains

-- ---- literals that are learnt

pub kept : (clauses : List Clause) (trail : Trailed) (marks : List Bool) (learnt : List Literal) (hints : List ℕ) (place : ℕ) (entry : Entry) → IsSound clauses trail
    → slice_get trail.entries place ≡ Some entry → IsMarked marks place → ExplainsBack clauses trail marks learnt hints (place + 1)
    → ExplainsBack clauses trail marks (learnt ++ negation entry.literal ∷ []) hints place
kept clauses trail marks learnt hints place entry sound here marked explains =
    explains_keep trail.variables clauses trail.entries marks learnt (reverse hints) place entry sound.is_trail here marked explains

pub learnt_more : (trail : Trailed) (end : ℕ) (before learnt : List Literal) (place : ℕ) (entry : Entry) → slice_get trail.entries place ≡ Some entry → 0 < entry.level → place < end
    → AreLearntBelow trail end before learnt → AreLearntBelow trail end before (learnt ++ negation entry.literal ∷ [])
learnt_more trail end before learnt place entry here positive below learnt_below = record {
  more = learnt_below.more ++ negation entry.literal ∷ [];
  same = ap (λ l. l ++ negation entry.literal ∷ []) learnt_below.same ∙ append_assoc before learnt_below.more (negation entry.literal ∷ []);
  earlier = λ l h.
      elim (has_push learnt_below.more (negation entry.literal) l h) [
        | inl there ↦ learnt_below.earlier l there
        | inr same ↦
            record {
              place = place;
              entry = entry;
              earlier = below;
              there = here;
              same = sym (ap negation same ∙ negation_twice entry.literal);
              positive = positive;
            }
      ];
}

-- the negation of the unique implication point is learnt first
pub uip_kept : (clauses : List Clause) (trail : Trailed) (start uip : ℕ) (entry : Entry) (marks : List Bool) (hints : List ℕ) → IsSound clauses trail
    → IsUip clauses trail start marks hints uip → slice_get trail.entries uip ≡ Some entry
    → ExplainsBack clauses trail marks (negation entry.literal ∷ []) hints start
uip_kept clauses trail start uip entry marks hints sound is_uip here =
    skipped_all clauses trail marks (negation entry.literal ∷ []) hints start uip is_uip.from is_uip.alone
    (kept clauses trail marks [] hints uip entry sound here is_uip.marked is_uip.explains)

-- ---- what comes out

before_of : (trail : Trailed) (end : ℕ) (l : Literal) → IsFalseAbove trail end l → IsTrueBefore trail.entries end (negation l)
before_of trail end l above = record { place = above.place; entry = above.entry; earlier = above.earlier; there = above.there; same = above.same }

pub analysed : (clauses : List Clause) (trail : Trailed) (start uip : ℕ) (entry : Entry) (marks : List Bool) (first learnt : List Literal) (hints collected : List ℕ) (step : Step)
    → IsCut trail.entries (trail.level - 1) start → IsUip clauses trail start marks hints uip → slice_get trail.entries uip ≡ Some entry
    → first ≡ negation entry.literal ∷ [] → IsDone clauses trail start first learnt collected → step.literals ≡ learnt → step.hints ≡ reverse collected
    → IsAnalysed clauses trail step
analysed clauses trail start uip entry marks first learnt hints collected step cut is_uip here e done g f =
    let same : step.literals ≡ negation entry.literal ∷ done.learnt_below.more = g ∙ done.learnt_below.same ∙ ap (λ l. l ++ done.learnt_below.more) e in
    record {
      start = start;
      cut = cut;
      explained = record {
        fit = subst (λ l. are_fit trail.variables l ≡ true) (sym g) done.explains.fit;
        chain =
            subst (λ h. Chain clauses (map negation step.literals) h) (sym f)
            (subst (λ l. Chain clauses (map negation l) (reverse collected)) (sym g)
            (explains_all trail.variables clauses trail.entries done.marks learnt (reverse collected) done.explains));
        named =
            subst (λ h. AreNamed clauses step.literals h) (sym f)
            (subst (λ l. AreNamed clauses l (reverse collected)) (sym g) done.explains.named);
        asserting = negation entry.literal;
        others = done.learnt_below.more;
        learnt_are = same;
        last = record { place = uip; entry = entry; later = is_uip.from; there = here; negated = refl };
        earlier = λ l h. before_of trail start l (done.learnt_below.earlier l h);
      };
    }

pub closed : (clauses : List Clause) (trail : Trailed) (end : ℕ) (learnt : List Literal) (collected : List ℕ) (step : Step) → IsSound clauses trail → trail.level ≡ 0
    → IsDone clauses trail end [] learnt collected → step.literals ≡ learnt → step.hints ≡ reverse collected → IsEmptyLearnt clauses step
closed clauses trail end learnt collected step sound level done g f =
    let none = nothing done.learnt_below.more done.learnt_below.earlier in
    let empty : learnt ≡ [] = done.learnt_below.same ∙ none in
    record {
      nothing = g ∙ empty;
      chain =
          subst (λ h. Chain clauses [] h) (sym f)
          (subst (λ l. Chain clauses (map negation l) (reverse collected)) empty
          (explains_all trail.variables clauses trail.entries done.marks learnt (reverse collected) done.explains));
    }
  where
    nothing : (more : List Literal) → ((l : Literal) → Has more l → IsFalseAbove trail end l) → more ≡ []
    nothing [] earlier = refl
    nothing (l ∷ more) earlier =
        let above = earlier l (has_head l more) in
        let top = sound.top above.place above.entry above.there in
        let positive = above.positive in
        absurd (omega (arith, top, positive, level))

-- ---- indices

pub reason_within : (clauses : List Clause) (trail : Trailed) (place : ℕ) (entry : Entry) → IsSound clauses trail → slice_get trail.entries place ≡ Some entry
    → 0 < entry.reason → entry.reason - 1 < length clauses
reason_within clauses trail place entry sound here positive =
    let forced = sound.is_trail.forced place entry here positive in
    slice_get_within clauses (entry.reason - 1) forced.clause forced.numbered.there

pub reason_marking : (clauses : List Clause) (trail : Trailed) (place : ℕ) (entry : Entry) (clause : Clause) (old marks : List Bool) → IsSound clauses trail
    → slice_get trail.entries place ≡ Some entry → 0 < entry.reason → slice_get clauses (entry.reason - 1) ≡ Some clause
    → (((l : Literal) → Has clause l → (l ≡ entry.literal) ⊎ IsTrueBefore trail.entries (length trail.entries) (negation l)) → IsMarking trail.entries clause entry.literal old marks)
    → IsMarking trail.entries clause entry.literal old marks
reason_marking clauses trail place entry clause old marks sound here positive there marks_it =
    marks_it (reason_false clauses trail place entry clause sound here positive there)
