-- A learnt clause, back at the level at which its first literal is forced.
use Rattle.std.proofs.Common.{◌≡◌, ◌⊎◌, inl, inr, ℕ, zero, suc, ◌+◌, ◌-◌, ◌*◌, ◌<◌, ◌≤◌, Bool, true, false, List, [], ◌∷◌, ◌++◌, Some, None, length, get_or, map, take, drop, refl, ap, sym, ◌∙◌, subst, arith}
use Rattle.std.specs.Prelude.{slice_get, ◌&&◌}
use Rattle.std.specs.List.{list_all}
use Rattle.std.proofs.lemmas.Option.{slice_get_within}
use Rattle.std.proofs.lemmas.List.{length_push, length-take-le}
use Rattle.std.proofs.lemmas.List.Folds.{list_all-append}
use Rattle.clause_check_spec.specs.declared.Literal.{Literal}
use Rattle.clause_check_spec.specs.Clause.{Clause, Cnf, negation, is_of, are_of}
use Rattle.clause_check_spec.specs.Step.{are_fit, are_apart}
use Rattle.clause_check_spec.specs.Log.{Step}
use Rattle.sat_search_spec.specs.declared.Entry.{Entry}
use Rattle.sat_search_spec.specs.declared.Watch.{Watch}
use Rattle.sat_search_spec.specs.Clauses.{Has, Numbered, AreLive}
use Rattle.sat_search_spec.specs.Chain.{Chain}
use Rattle.sat_search_spec.specs.Logs.{IsLearnt, IsLog, IsClosing}
use Rattle.sat_search_spec.specs.Trail.{Trailed, truths, IsTrueBefore, IsAbsent, IsForced, IsTrail, IsCut, IsSound}
use Rattle.sat_search_spec.specs.Watches.{IsGuarded, AreGuarded, Watched, IsRunning}
use Rattle.sat_search_spec.specs.Analysis.{IsFalseFrom, IsExplained}
use Rattle.sat_search_spec.proofs.Members.{and_left, and_both, negation_twice, negations_same, has_nothing, has_head, has_tail, has_cases, has_left, has_last, has_push}
use Rattle.sat_search_spec.proofs.Trails.{get_last, get_cases, get_taken, some_same, before_taken, cut_before, trail_more, trail_clauses, not_both}
use Rattle.sat_search_spec.proofs.Guards.{guarded_fixed, guarded_asserting, all_more, all_with}
use Rattle.sat_search_spec.proofs.Analyses.{explained_learnt}
use Rattle.sat_search_spec.proofs.Logs.{log_more, log_closing}
use Rattle.sat_search_state.specs.Lists.{IsAttached}
use Rattle.sat_search_analysis.specs.Explained.{IsAnalysed, IsEmptyLearnt}
use Rattle.sat_search_learning.specs.Search.{IsSearching, IsHighest, IsOther, IsRewound, AreOnce}
use Rattle.cnf_core.specs.Codes.{code_of, code_within}
use Rattle.sat_search_learning.proofs.Levels.{fresh, rewound, live_at}
use Rattle.sat_search_learning.proofs.Values.{literal_of}

lt_or_le : (a b : ℕ) → (a < b) ⊎ (b ≤ a)
lt_or_le a b = grind arith

-- the level to go back to is below that of the conflict
pub level_below : (clauses : List Clause) (trail : Trailed) (step : Step) (asserting second : Literal) (others : List Literal) (level : ℕ) → 0 < trail.level
    → IsAnalysed clauses trail step → step.literals ≡ asserting ∷ others → IsTrail trail.variables clauses trail.entries → IsHighest trail asserting others second level → level < trail.level
level_below clauses trail step asserting second others level decided analysed e is_trail highest =
    elim highest.side [
      | inl none ↦ let z = none.1 in omega (arith, z, decided)
      | inr other ↦
          let parts : analysed.explained.asserting ∷ analysed.explained.others ≡ asserting ∷ others = sym analysed.explained.learnt_are ∙ e in
          let same : analysed.explained.others ≡ others = cc in
          let before = analysed.explained.earlier second (subst (λ o. Has o second) (sym same) other.has) in
          let place = is_trail.apart before.place other.place before.entry other.entry before.there other.there
          (ap (λ (l : Literal). l.variable) (before.same ∙ sym other.negated))
          in
          let entry = some_same trail.entries before.place other.place before.entry other.entry place before.there other.there in
          let below = analysed.cut.below before.place before.entry before.earlier before.there in
          let l = ap (λ (x : Entry). x.level) entry in
          let k = other.same in
          omega (arith, below, l, k, decided)
    ]

-- back there, the asserting literal has no value
pub asserting_gone : (clauses : List Clause) (old : Trailed) (step : Step) (asserting second : Literal) (others : List Literal) (level place : ℕ)
    → IsTrail old.variables clauses old.entries → 0 < old.level → IsAnalysed clauses old step → step.literals ≡ asserting ∷ others → IsHighest old asserting others second level
    → IsCut old.entries level place → IsAbsent (take place old.entries) asserting × IsAbsent (take place old.entries) (negation asserting)
asserting_gone clauses old step asserting second others level place is_trail decided analysed e highest cut = (not_true, not_false)
  where
    lower : level < old.level
    lower = level_below clauses old step asserting second others level decided analysed e is_trail highest

    same : analysed.explained.asserting ≡ asserting
    same = let both : analysed.explained.asserting ∷ analysed.explained.others ≡ asserting ∷ others = sym analysed.explained.learnt_are ∙ e in cc

    last : IsFalseFrom old.entries analysed.start asserting
    last = subst (λ l. IsFalseFrom old.entries analysed.start l) same analysed.explained.last

    gone : place ≤ last.place
    gone =
        elim (lt_or_le last.place place) [
          | inl inside ↦
              let below = cut.below last.place last.entry inside last.there in
              let above = analysed.cut.above last.place last.entry last.later last.there in
              absurd (omega (arith, below, above, lower))
          | inr past ↦ past
        ]

    not_true : IsAbsent (take place old.entries) asserting
    not_true i a at is_it =
        let there = get_taken place old.entries i a at in
        not_both old.variables clauses old.entries is_trail i last.place a last.entry there.1 last.there (is_it ∙ last.negated)

    not_false : IsAbsent (take place old.entries) (negation asserting)
    not_false i a at is_it =
        let there = get_taken place old.entries i a at in
        let index = is_trail.apart i last.place a last.entry there.1 last.there (ap (λ (l : Literal). l.variable) (is_it ∙ ap negation last.negated)) in
        let below = there.0 in
        let past = gone in
        omega (arith, index, below, past)

abbrev pub asserted : List Clause → Literal → ℕ → Entry
asserted clauses asserting level = record { literal = asserting; reason = length clauses + 1; level = level }

abbrev pub back_to : Trailed → ℕ → ℕ → Trailed
back_to old place level = record { variables = old.variables; entries = take place old.entries; level = level }

abbrev pub with_asserted : List Clause → Trailed → ℕ → ℕ → Literal → Trailed
with_asserted clauses old place level asserting =
    record { variables = old.variables; entries = take place old.entries ++ asserted clauses asserting level ∷ []; level = level }

pub learnt_running : (clauses : List Clause) (old : Trailed) (old_watched new_watched : Watched) (step : Step) (asserting second : Literal) (others : List Literal) (level place : ℕ)
    → IsRunning clauses old old_watched → 0 < old.level → IsAnalysed clauses old step → step.literals ≡ asserting ∷ others → IsHighest old asserting others second level
    → IsCut old.entries level place → IsAttached (record old_watched { head = place }) new_watched (record { first = asserting; second = second })
    → IsRunning (clauses ++ step.literals ∷ []) (with_asserted clauses old place level asserting) new_watched
learnt_running clauses old old_watched new_watched step asserting second others level place running decided analysed e highest cut attached = record {
  sound = record { of_variables = named; is_trail = is_trail; top = top };
  guarded =
      subst (λ n. AreGuarded (clauses ++ step.literals ∷ []) entries n new_watched.watches) (sym attached.head)
      (subst (λ ws. AreGuarded (clauses ++ step.literals ∷ []) entries place ws) (sym attached.watches)
      (all_with clauses entries place old_watched.watches step.literals watch
      (all_more clauses (take place old.entries) entry place old_watched.watches (omega (arith, size)) before.guarded) (one highest.side)));
  lists = attached.lists running.lists;
  blockers =
      attached.blockers clauses step.literals (let n = running.guarded.count in sym n) has_asserting (has_second highest.side) running.blockers;
  room = attached.room ∙ running.room;
  within = let h = attached.head in let n = length_push (take place old.entries) entry in omega (arith, h, n, size);
  pending = λ i a h at.
      elim (get_cases (take place old.entries) entry i a at) [
        | inl there ↦ let k = attached.head in let below = (get_taken place old.entries i a there).0 in absurd (omega (arith, below, h, k))
        | inr last ↦ ap (λ (x : Entry). x.level) last.1
      ];
}
  where
    watch : Watch
    watch = record { first = asserting; second = second }

    entry : Entry
    entry = asserted clauses asserting level

    entries : List Entry
    entries = take place old.entries ++ entry ∷ []

    lower : level < old.level
    lower = level_below clauses old step asserting second others level decided analysed e running.sound.is_trail highest

    before : IsRunning clauses (back_to old place level) (record old_watched { head = place })
    before =
        rewound clauses old (back_to old place level) old_watched (record old_watched { head = place }) level running lower
        (record { place = place; cut = cut; trail = refl; watched = refl })

    size : length (take place old.entries) ≡ place
    size = length-take-le place old.entries cut.within

    parts : (analysed.explained.asserting ≡ asserting) × (analysed.explained.others ≡ others)
    parts = let both : analysed.explained.asserting ∷ analysed.explained.others ≡ asserting ∷ others = sym analysed.explained.learnt_are ∙ e in (cc, cc)

    -- the asserting literal is false by an entry that is gone
    last : IsFalseFrom old.entries analysed.start asserting
    last = subst (λ l. IsFalseFrom old.entries analysed.start l) parts.0 analysed.explained.last

    gone : place ≤ last.place
    gone =
        elim (lt_or_le last.place place) [
          | inl inside ↦
              let below = cut.below last.place last.entry inside last.there in
              let above = analysed.cut.above last.place last.entry last.later last.there in
              absurd (omega (arith, below, above, lower))
          | inr past ↦ past
        ]

    not_true : IsAbsent (take place old.entries) asserting
    not_true i a at same =
        let there = get_taken place old.entries i a at in
        not_both old.variables clauses old.entries running.sound.is_trail i last.place a last.entry there.1 last.there (same ∙ last.negated)

    not_false : IsAbsent (take place old.entries) (negation asserting)
    not_false i a at same =
        let there = get_taken place old.entries i a at in
        let index = running.sound.is_trail.apart i last.place a last.entry there.1 last.there (ap (λ (l : Literal). l.variable) (same ∙ ap negation last.negated)) in
        let below = there.0 in
        let past = gone in
        omega (arith, index, below, past)

    has_asserting : Has step.literals asserting
    has_asserting = subst (λ c. Has c asserting) (sym e) (has_head asserting others)

    has_second : ((second ≡ asserting) × (level ≡ 0)) ⊎ IsOther old others second level → Has step.literals second
    has_second (inl none) = subst (λ l. Has step.literals l) (sym none.0) has_asserting
    has_second (inr other) = subst (λ c. Has c second) (sym e) (has_tail asserting others second other.has)

    false_now : (m : Literal) → Has others m → IsTrueBefore (take place old.entries) (length (take place old.entries)) (negation m)
    false_now m h =
        let early = analysed.explained.earlier m (subst (λ o. Has o m) (sym parts.1) h) in
        let low = highest.low m early.place early.entry h early.there early.same in
        let inside = cut_before old.entries level place early.place early.entry cut early.there low in
        subst (λ n. IsTrueBefore (take place old.entries) n (negation m)) (sym size)
        (before_taken old.entries place place (negation m) (omega arith)
        (record { place = early.place; entry = early.entry; earlier = inside; there = early.there; same = early.same }))

    named : are_of old.variables (clauses ++ step.literals ∷ []) ≡ true
    named =
        list_all-append (list_all (is_of old.variables)) clauses (step.literals ∷ [])
        ∙ and_both (are_of old.variables clauses) (list_all (is_of old.variables) step.literals && true) running.sound.of_variables
        (and_both (list_all (is_of old.variables) step.literals) true
        (and_left (list_all (is_of old.variables) step.literals) (are_apart step.literals) analysed.explained.fit) refl)

    asserting_named : is_of old.variables asserting ≡ true
    asserting_named = subst (λ l. is_of old.variables l ≡ true) (sym last.negated) (running.sound.is_trail.of_variables last.place last.entry last.there)

    is_forced : IsForced (clauses ++ step.literals ∷ []) (take place old.entries) (length (take place old.entries)) asserting (length clauses + 1)
    is_forced = record {
      clause = step.literals;
      numbered = record {
        positive = omega arith;
        there = ap (slice_get (clauses ++ step.literals ∷ [])) (let n : length clauses + 1 - 1 ≡ length clauses = omega arith in n) ∙ get_last clauses step.literals;
      };
      has = has_asserting;
      others = λ m h.
          elim (has_cases asserting others m (subst (λ c. Has c m) e h)) [
            | inl same ↦ inl same
            | inr there ↦ inr (false_now m there)
          ];
    }

    is_trail : IsTrail old.variables (clauses ++ step.literals ∷ []) entries
    is_trail =
        trail_more old.variables (clauses ++ step.literals ∷ []) (take place old.entries) entry
        (trail_clauses old.variables clauses step.literals (take place old.entries) before.sound.is_trail) asserting_named
        (fresh (back_to old place level) asserting not_true not_false) before.sound.top (λ positive. is_forced) (λ none. absurd (omega (arith, none)))

    top : (i : ℕ) (a : Entry) → slice_get entries i ≡ Some a → a.level ≤ level
    top i a at =
        elim (get_cases (take place old.entries) entry i a at) [
          | inl there ↦ before.sound.top i a there
          | inr end ↦ let same = ap (λ (x : Entry). x.level) end.1 in omega (arith, same)
        ]

    one : ((second ≡ asserting) × (level ≡ 0)) ⊎ IsOther old others second level → IsGuarded step.literals entries place watch
    one (inl none) =
        let zero_level = none.1 in
        guarded_fixed step.literals entries place watch (length (take place old.entries)) entry (get_last (take place old.entries) entry) has_asserting
        (has_second (inl none)) has_asserting (omega (arith, zero_level))
    one (inr other) =
        guarded_asserting old.variables (clauses ++ step.literals ∷ []) step.literals entries place watch (length (take place old.entries)) entry is_trail
        (get_last (take place old.entries) entry) refl has_asserting (has_second (inr other)) apart later
      where
        apart : asserting ≡ second → ⊥
        apart same =
            let index = running.sound.is_trail.apart other.place last.place other.entry last.entry other.there last.there
            (ap (λ (l : Literal). l.variable) (other.negated ∙ ap negation (sym same) ∙ ap negation last.negated))
            in
            let above = analysed.cut.above other.place other.entry (let from = last.later in omega (arith, from, index)) other.there in
            let k = other.same in
            omega (arith, above, k, lower)

        later : (i : ℕ) (a : Entry) → slice_get entries i ≡ Some a → a.literal ≡ negation second → level ≤ a.level
        later i a at negated =
            elim (get_cases (take place old.entries) entry i a at) [
              | inl there ↦
                  let was = (get_taken place old.entries i a there).1 in
                  let index = running.sound.is_trail.apart i other.place a other.entry was other.there (ap (λ (l : Literal). l.variable) (negated ∙ sym other.negated)) in
                  let entry_is = some_same old.entries i other.place a other.entry index was other.there in
                  let k = ap (λ (x : Entry). x.level) entry_is in
                  let m = other.same in
                  omega (arith, k, m)
              | inr end ↦ let same = ap (λ (x : Entry). x.level) end.1 in omega (arith, same)
            ]

-- the log with the learnt clause
pub learnt_log : (cnf : Cnf) (clauses : List Clause) (trail : Trailed) (watched : Watched) (log : List Step) (step : Step) → IsSearching cnf clauses trail watched log
    → 0 < trail.level → IsAnalysed clauses trail step → IsLog cnf (clauses ++ step.literals ∷ []) (log ++ step ∷ [])
learnt_log cnf clauses trail watched log step searching decided analysed =
    log_more cnf clauses log step searching.is_log
    (subst (λ n. IsLearnt n clauses step) searching.variables
    (explained_learnt trail.variables clauses trail.entries analysed.start step searching.running.sound.is_trail analysed.explained
    (live_at clauses trail watched (trail.level - 1) analysed.start searching.running analysed.cut (omega (arith, decided)))))
    (λ none. nonempty (sym analysed.explained.learnt_are ∙ none))
  where
    nonempty : analysed.explained.asserting ∷ analysed.explained.others ≡ [] → ⊥
    nonempty e = cc

-- the closed log
pub closing_log : (cnf : Cnf) (clauses : List Clause) (log : List Step) (step : Step) → IsLog cnf clauses log → IsEmptyLearnt clauses step → IsClosing cnf (log ++ step ∷ [])
closing_log cnf clauses log step is_log learnt =
    log_closing cnf clauses log step is_log
    (record {
      fit = ap (λ l. are_fit cnf.variables l) learnt.nothing;
      chain = subst (λ l. Chain clauses (map negation l) step.hints) (sym learnt.nothing) learnt.chain;
      named = λ l h. absurd (has_nothing l (subst (λ literals. Has literals l) learnt.nothing h));
      is_new = λ nonempty. absurd (nonempty learnt.nothing);
    })
    learnt.nothing

-- ---- the highest of false literals

pub highest_higher : (trail : Trailed) (asserting best l : Literal) (others : List Literal) (level place : ℕ) (entry : Entry) → AreOnce trail.entries
    → IsHighest trail asserting others best level → slice_get trail.entries place ≡ Some entry → entry.literal ≡ negation l → level < entry.level
    → IsHighest trail asserting (others ++ l ∷ []) l entry.level
highest_higher trail asserting best l others level place entry once highest here negated higher = record {
  low = λ m i a h at same.
      elim (has_push others l m h) [
        | inl there ↦ let low = highest.low m i a there at same in omega (arith, low, higher)
        | inr e ↦
            let index = once i place a entry at here (same ∙ ap negation e ∙ sym negated) in
            let is_entry = ap (λ (x : Entry). x.level) (some_same trail.entries i place a entry index at here) in
            omega (arith, is_entry)
      ];
  side = inr (record { has = has_last others l; place = place; entry = entry; there = here; negated = negated; same = refl });
}

more_side : (trail : Trailed) (asserting best l : Literal) (others : List Literal) (level : ℕ) → ((best ≡ asserting) × (level ≡ 0)) ⊎ IsOther trail others best level
    → ((best ≡ asserting) × (level ≡ 0)) ⊎ IsOther trail (others ++ l ∷ []) best level
more_side trail asserting best l others level (inl none) = inl none
more_side trail asserting best l others level (inr other) =
    inr (record { has = has_left others (l ∷ []) best other.has; place = other.place; entry = other.entry; there = other.there; negated = other.negated; same = other.same })

pub highest_same : (trail : Trailed) (asserting best l : Literal) (others : List Literal) (level place : ℕ) (entry : Entry) → AreOnce trail.entries
    → IsHighest trail asserting others best level → slice_get trail.entries place ≡ Some entry → entry.literal ≡ negation l → entry.level ≤ level
    → IsHighest trail asserting (others ++ l ∷ []) best level
highest_same trail asserting best l others level place entry once highest here negated lower = record {
  low = λ m i a h at same.
      elim (has_push others l m h) [
        | inl there ↦ highest.low m i a there at same
        | inr e ↦
            let index = once i place a entry at here (same ∙ ap negation e ∙ sym negated) in
            let is_entry = ap (λ (x : Entry). x.level) (some_same trail.entries i place a entry index at here) in
            omega (arith, is_entry, lower)
      ];
  side = more_side trail asserting best l others level highest.side;
}

pub highest_none : (trail : Trailed) (asserting best l : Literal) (others : List Literal) (level : ℕ) → IsHighest trail asserting others best level
    → IsAbsent trail.entries (negation l) → IsHighest trail asserting (others ++ l ∷ []) best level
highest_none trail asserting best l others level highest absent = record {
  low = λ m i a h at same.
      elim (has_push others l m h) [
        | inl there ↦ highest.low m i a there at same
        | inr e ↦ absurd (absent i a at (same ∙ ap negation e))
      ];
  side = more_side trail asserting best l others level highest.side;
}

-- ---- what the code has

pub first_and_rest : (xs : List Literal) (a : Literal) (rest : List Literal) (x : Literal) → xs ≡ a ∷ rest → x ≡ get_or xs 0 x → xs ≡ x ∷ drop 1 xs
first_and_rest xs a rest x e here =
    let first : a ≡ x = sym (here ∙ ap (λ l. get_or l 0 x) e) in
    e ∙ ap (λ y. y ∷ rest) first ∙ ap (λ r. x ∷ r) (sym (ap (drop 1) e))

pub second_code : (clauses : List Clause) (old : Trailed) (old_watched back_watched : Watched) (step : Step) (asserting second : Literal) (others : List Literal) (level place : ℕ)
    → IsRunning clauses old old_watched → are_fit old.variables step.literals ≡ true → step.literals ≡ asserting ∷ others → IsHighest old asserting others second level
    → back_watched ≡ record old_watched { head = place } → code_of second < length back_watched.lists
second_code clauses old old_watched back_watched step asserting second others level place running fit e highest same =
    let named = literal_of old.variables step.literals second (and_left (list_all (is_of old.variables) step.literals) (are_apart step.literals) fit) (has_second highest.side) in
    let below = (code_within old.variables second named).1 in
    let room = running.room in
    let lists = ap (λ (w : Watched). length w.lists) same in
    omega (arith, below, room, lists)
  where
    has_second : ((second ≡ asserting) × (level ≡ 0)) ⊎ IsOther old others second level → Has step.literals second
    has_second (inl none) = subst (λ c. Has c second) (sym e) (subst (λ l. Has (asserting ∷ others) l) (sym none.0) (has_head asserting others))
    has_second (inr other) = subst (λ c. Has c second) (sym e) (has_tail asserting others second other.has)

pub learnt_searching : (cnf : Cnf) (clauses new_clauses : List Clause) (old back new_trail : Trailed) (old_watched back_watched new_watched : Watched) (log new_log : List Step) (step : Step)
    (asserting second : Literal) (others : List Literal) (level number : ℕ)
    → IsSearching cnf clauses old old_watched log → 0 < old.level → IsAnalysed clauses old step → step.literals ≡ asserting ∷ others → IsHighest old asserting others second level
    → IsRewound old back old_watched back_watched level → IsAttached back_watched new_watched (record { first = asserting; second = second })
    → new_clauses ≡ clauses ++ step.literals ∷ [] → number ≡ length new_clauses
    → new_trail ≡ record back { entries = back.entries ++ (record { literal = asserting; reason = number; level = back.level }) ∷ [] }
    → new_log ≡ log ++ step ∷ [] → IsSearching cnf new_clauses new_trail new_watched new_log
learnt_searching cnf clauses new_clauses old back new_trail old_watched back_watched new_watched log new_log step asserting second others level number
    searching decided analysed e highest back_there attached f g h k =
    let count : number ≡ length clauses + 1 = g ∙ ap length f ∙ length_push clauses step.literals in
    let trail : new_trail ≡ with_asserted clauses old back_there.place level asserting =
    h
    ∙ ap (λ (b : Trailed). let t : Trailed = record b { entries = b.entries ++ (record { literal = asserting; reason = number; level = b.level }) ∷ [] } in t) back_there.trail
    ∙ ap (λ n. let t : Trailed = record { variables = old.variables; entries = take back_there.place old.entries ++ (record { literal = asserting; reason = n; level = level }) ∷ []; level = level } in t) count
    in
    record {
      running =
          subst (λ cs. IsRunning cs new_trail new_watched) (sym f)
          (subst (λ t. IsRunning (clauses ++ step.literals ∷ []) t new_watched) (sym trail)
          (learnt_running clauses old old_watched new_watched step asserting second others level back_there.place searching.running decided analysed e highest back_there.cut
          (subst (λ w. IsAttached w new_watched (record { first = asserting; second = second })) back_there.watched attached)));
      is_log =
          subst (λ cs. IsLog cnf cs new_log) (sym f)
          (subst (λ l. IsLog cnf (clauses ++ step.literals ∷ []) l) (sym k) (learnt_log cnf clauses old old_watched log step searching decided analysed));
      variables = ap (λ (t : Trailed). t.variables) trail ∙ searching.variables;
    }

pub once : (variables : ℕ) (clauses : List Clause) (entries : List Entry) → IsTrail variables clauses entries → AreOnce entries
once variables clauses entries is_trail i j a b h k e = is_trail.apart i j a b h k (ap (λ (l : Literal). l.variable) e)
