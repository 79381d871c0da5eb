-- Laws of one side: what a passage from one node to another leaves of the marks, and when a run stops.
use Rattle.std.proofs.Common.{◌≡◌, ◌≢◌, ◌∙◌, ◌⊎◌, ℕ, ◌+◌, ◌-◌, ◌<◌, ◌≤◌, zero, suc, Bool, true, false, nat_le, List, [], ◌∷◌, ◌++◌, All, refl, sym, ap, ap₂, subst, inl, inr, arith, ◌||◌, slice_index_or}
use Rattle.std.proofs.lemmas.List.Elements.{All-nil, All-cons, All-head, All-tail}
use Rattle.std.proofs.lemmas.Bool.{or_parts, or_from, or_cases, or_left, or_right, both_ways, leb-true, leb-false, lt-leb, false_from_ne_true, cases_lt, cases_eq, cases_Bool}
use Rattle.graph_core_spec.specs.TransitionSystem.{TransitionSystem, IsTransitionSystem, AreCounted, after, arrivals, tick, reached, stopped, marks_left, StopsAt}
use Rattle.graph_core_spec.specs.declared.Mark.{Mark}
use Rattle.graph_core_spec.proofs.Runs.{after-add, arrivals-add, stopped-add, still, not_stopped_at_once}
use Rattle.proof_tree_spec.specs.Cuts.{Passes}

-- ---- arrivals

module _ {S : Type 0} (w : TransitionSystem S) where
  -- the last step of so many
  arrivals-suc : (n k : ℕ) (s : S) → arrivals w n (suc k) s ≡ tick w (w.at n (after w (suc k) s)) (arrivals w n k s)
  unfolding after arrivals
  arrivals-suc n zero s = refl
  arrivals-suc n (suc k) s =
      ap (λ (rest : ℕ). tick w (w.at n (w.step s)) rest) (arrivals-suc n k (w.step s))
      ∙ swapped (w.at n (w.step s)) (w.at n (after w (suc k) (w.step s))) (arrivals w n k (w.step s))
    where
      swapped : (a b : Bool) (rest : ℕ) → tick w a (tick w b rest) ≡ tick w b (tick w a rest)
      swapped true true rest = refl
      swapped true false rest = refl
      swapped false true rest = refl
      swapped false false rest = refl

  never_there : (n t : ℕ) (s : S) → ((j : ℕ) → j < t → w.at n (after w (suc j) s) ≡ false) → arrivals w n t s ≡ 0
  unfolding after arrivals
  never_there n zero s none = refl
  never_there n (suc t) s none =
      ap₂ (λ (test : Bool) (rest : ℕ). tick w test rest) (none 0 (omega arith))
      (never_there n t (w.step s) (λ j less. none (suc j) (omega arith)))

  there_counts : (n j : ℕ) (s : S) → w.at n (after w (suc j) s) ≡ true → 1 ≤ arrivals w n (suc j) s
  there_counts n j s here =
      let e : arrivals w n (suc j) s ≡ suc (arrivals w n j s) = arrivals-suc n j s ∙ ap (λ (test : Bool). tick w test (arrivals w n j s)) here in
      omega arith

  arrivals_grow : (n j t : ℕ) (s : S) → j ≤ t → arrivals w n j s ≤ arrivals w n t s
  arrivals_grow n j t s less =
      let sum = arrivals-add w n j (t - j) s in
      let e : j + (t - j) ≡ t = omega arith in
      let whole : arrivals w n (j + (t - j)) s ≡ arrivals w n t s = ap (λ (k : ℕ). arrivals w n k s) e in
      omega arith

  -- ---- marks that are not reached

  not_reached : (ms : List Mark) (k : ℕ) (s : S) → reached w ms k s ≡ false → All (λ (m : Mark). arrivals w m.node k s < m.count) ms
  unfolding reached
  not_reached [] k s none = All-nil (λ (m : Mark). arrivals w m.node k s < m.count)
  not_reached (m ∷ ms) k s none =
      let parts = or_parts (nat_le m.count (arrivals w m.node k s)) (reached w ms k s) none in
      All-cons (λ (x : Mark). arrivals w x.node k s < x.count) m ms (leb-false m.count (arrivals w m.node k s) parts.0) (not_reached ms k s parts.1)

  reached_not : (ms : List Mark) (k : ℕ) (s : S) → All (λ (m : Mark). arrivals w m.node k s < m.count) ms → reached w ms k s ≡ false
  unfolding reached
  reached_not [] k s below = refl
  reached_not (m ∷ ms) k s below =
      or_from (nat_le m.count (arrivals w m.node k s)) (reached w ms k s)
      (lt-leb m.count (arrivals w m.node k s) (All-head (λ (x : Mark). arrivals w x.node k s < x.count) m ms below))
      (reached_not ms k s (All-tail (λ (x : Mark). arrivals w x.node k s < x.count) m ms below))

  pub not_stopped : (ms : List Mark) (k : ℕ) (s : S) → stopped w ms k s ≡ false → (w.returned (after w k s) ≡ false) × (reached w ms k s ≡ false)
  not_stopped ms k s runs = or_parts (w.returned (after w k s)) (reached w ms k s) runs

  -- a run that doesn't stop at the first arrival at a node has not arrived there
  not_met : (n k : ℕ) (s : S) → stopped w (record { node = n; count = 1 } ∷ []) k s ≡ false → arrivals w n k s < 1
  not_met n k s runs =
      let below : (m : Mark) → All (λ (x : Mark). arrivals w x.node k s < x.count) (m ∷ []) → arrivals w m.node k s < m.count =
      λ m all. All-head (λ (x : Mark). arrivals w x.node k s < x.count) m [] all in
      below (record { node = n; count = 1 }) (not_reached (record { node = n; count = 1 } ∷ []) k s (not_stopped (record { node = n; count = 1 } ∷ []) k s runs).1)

  -- one more mark
  reached-push : (ms : List Mark) (m : Mark) (k : ℕ) (s : S) → reached w (ms ++ m ∷ []) k s ≡ (reached w ms k s || nat_le m.count (arrivals w m.node k s))
  unfolding reached
  reached-push [] m k s = or_false (nat_le m.count (arrivals w m.node k s))
    where
      or_false : (b : Bool) → (b || false) ≡ b
      or_false true = refl
      or_false false = refl
  reached-push (x ∷ ms) m k s =
      ap (λ (b : Bool). nat_le x.count (arrivals w x.node k s) || b) (reached-push ms m k s)
      ∙ grouped (nat_le x.count (arrivals w x.node k s)) (reached w ms k s) (nat_le m.count (arrivals w m.node k s))
    where
      grouped : (a b c : Bool) → (a || (b || c)) ≡ ((a || b) || c)
      grouped true b c = refl
      grouped false b c = refl

  -- with one more mark a run stops no later
  pub stops_earlier : (ms : List Mark) (m : Mark) (k : ℕ) (s : S) → stopped w (ms ++ m ∷ []) k s ≡ false → stopped w ms k s ≡ false
  stops_earlier ms m k s runs =
      let parts = not_stopped (ms ++ m ∷ []) k s runs in
      let none = or_parts (reached w ms k s) (nat_le m.count (arrivals w m.node k s)) (sym (reached-push ms m k s) ∙ parts.1) in
      or_from (w.returned (after w k s)) (reached w ms k s) parts.0 none.0

  -- where it stops away from that mark's node, it has stopped without it
  pub stops_apart : (ms : List Mark) (m : Mark) (t : ℕ) (s : S) → 1 ≤ m.count → StopsAt w (ms ++ m ∷ []) t s → w.at m.node (after w t s) ≡ false
      → stopped w ms t s ≡ true
  unfolding arrivals
  stops_apart ms m zero s counts stops away = elim (or_cases (w.returned (after w zero s)) (reached w (ms ++ m ∷ []) zero s) stops.now) [
    | inl returned ↦ or_left (w.returned (after w zero s)) (reached w ms zero s) returned
    | inr met ↦ elim (or_cases (reached w ms zero s) (nat_le m.count (arrivals w m.node zero s)) (sym (reached-push ms m zero s) ∙ met)) [
      | inl old ↦ or_right (w.returned (after w zero s)) (reached w ms zero s) old
      | inr new ↦ let few : m.count ≤ 0 = leb-true m.count 0 new in absurd (omega arith)
    ]
  ]
  stops_apart ms m (suc t) s counts stops away = elim (or_cases (w.returned (after w (suc t) s)) (reached w (ms ++ m ∷ []) (suc t) s) stops.now) [
    | inl returned ↦ or_left (w.returned (after w (suc t) s)) (reached w ms (suc t) s) returned
    | inr met ↦ elim (or_cases (reached w ms (suc t) s) (nat_le m.count (arrivals w m.node (suc t) s)) (sym (reached-push ms m (suc t) s) ∙ met)) [
      | inl old ↦ or_right (w.returned (after w (suc t) s)) (reached w ms (suc t) s) old
      | inr new ↦
          let enough : m.count ≤ arrivals w m.node (suc t) s = leb-true m.count (arrivals w m.node (suc t) s) new in
          let same : arrivals w m.node (suc t) s ≡ arrivals w m.node t s = arrivals-suc m.node t s ∙ ap (λ (test : Bool). tick w test (arrivals w m.node t s)) away in
          let before = not_stopped (ms ++ m ∷ []) t s (stops.before t (omega arith)) in
          let none = or_parts (reached w ms t s) (nat_le m.count (arrivals w m.node t s)) (sym (reached-push ms m t s) ∙ before.1) in
          let few : arrivals w m.node t s < m.count = leb-false m.count (arrivals w m.node t s) none.1 in
          absurd (omega arith)
    ]
  ]

  -- a run that stops at marks that count an arrival has taken a step
  pub stops_later : (ms : List Mark) (m : Mark) (t : ℕ) (s : S) → AreCounted ms → 1 ≤ m.count → w.returned s ≡ false → StopsAt w (ms ++ m ∷ []) t s → 0 < t
  unfolding after arrivals
  stops_later ms m zero s counted counts runs stops = elim (or_cases (w.returned s) (reached w (ms ++ m ∷ []) zero s) stops.now) [
    | inl returned ↦ absurd (both_ways _ runs returned)
    | inr met ↦ elim (or_cases (reached w ms zero s) (nat_le m.count (arrivals w m.node zero s)) (sym (reached-push ms m zero s) ∙ met)) [
      | inl old ↦ let not_yet = not_stopped ms zero s (not_stopped_at_once w ms s counted runs) in absurd (both_ways _ not_yet.1 old)
      | inr new ↦ let few : m.count ≤ 0 = leb-true m.count 0 new in absurd (omega arith)
    ]
  ]
  stops_later ms m (suc t) s counted counts runs stops = omega arith

  -- the first stop of so many steps, if there is one
  pub first_stop : (ms : List Mark) (n : ℕ) (s : S) → ((k : ℕ) → k ≤ n → stopped w ms k s ≡ false) ⊎ ((t : ℕ) × (t ≤ n) × StopsAt w ms t s)
  first_stop ms zero s = elim (cases_Bool (stopped w ms zero s)) [
    | inl now ↦ inr (zero, omega arith, record { now = now; before = λ k less. absurd (omega arith) })
    | inr runs ↦ inl (λ k within. let e : zero ≡ k = omega arith in subst (λ (j : ℕ). stopped w ms j s ≡ false) e runs)
  ]
  first_stop ms (suc n) s = elim (first_stop ms n s) [
    | inr (t, within, stops) ↦ inr (t, omega arith, stops)
    | inl runs ↦ elim (cases_Bool (stopped w ms (suc n) s)) [
      | inl now ↦ inr (suc n, omega arith, record { now = now; before = λ k less. runs k (omega arith) })
      | inr on ↦ inl (λ k within. elim (cases_lt k (suc n)) [
        | inl less ↦ runs k (omega arith)
        | inr last ↦ let e : suc n ≡ k = omega arith in subst (λ (j : ℕ). stopped w ms j s ≡ false) e on
      ])
    ]
  ]

  -- ---- passages: a run that has gone so far without a stop, and without an arrival that a mark counts

  pub record Passed (ms : List Mark) (t : ℕ) (s : S) : Type 0 where
    pub runs : (k : ℕ) → k ≤ t → stopped w ms k s ≡ false
    pub alive : (k : ℕ) → k ≤ t → w.failed (after w k s) ≡ false
    pub rest : (j : ℕ) → stopped w ms (t + j) s ≡ stopped w ms j (after w t s)

  -- what is left of marks at which the run has not arrived
  same_marks : (ms : List Mark) (t : ℕ) (s : S) → All (λ (m : Mark). arrivals w m.node t s ≡ 0) ms → marks_left w ms t s ≡ ms
  same_marks [] t s none = refl
  same_marks (m ∷ ms) t s none =
      let here = All-head (λ (x : Mark). arrivals w x.node t s ≡ 0) m ms none in
      let e : m.count - arrivals w m.node t s ≡ m.count = omega arith in
      ap₂ (λ (x : Mark) (xs : List Mark). x ∷ xs) (ap (λ (count : ℕ). record m { count = count }) e)
      (same_marks ms t s (All-tail (λ (x : Mark). arrivals w x.node t s ≡ 0) m ms none))

  module _ {leads lands : ℕ → ℕ → Type 0} {fine : S → Type 0} {count : ℕ} (laws : IsTransitionSystem w leads lands fine count) where
    -- a run that is at a node has not failed before
    alive_before : (n k t : ℕ) (s : S) → k ≤ t → w.at n (after w t s) ≡ true → w.failed (after w k s) ≡ false
    alive_before n k t s less there = false_from_ne_true _ (λ failed.
        let e : k + (t - k) ≡ t = omega arith in
        let stays : after w t s ≡ after w k s = ap (λ (j : ℕ). after w j s) (sym e) ∙ after-add w k (t - k) s ∙ still w (after w k s) (laws.failed_stays _ failed) (t - k) in
        both_ways _ (laws.no_end n _ there).1 (ap w.failed stays ∙ failed))

    passed : (ms : List Mark) (n t : ℕ) (s : S) → AreCounted ms → w.at n (after w t s) ≡ true → ((k : ℕ) → k < t → stopped w ms k s ≡ false)
        → All (λ (m : Mark). arrivals w m.node t s ≡ 0) ms → Passed ms t s
    passed ms n t s counted there before none = record {
      runs = λ k within. elim (cases_lt k t) [
        | inl less ↦ before k less
        | inr last ↦ let e : t ≡ k = omega arith in subst (λ (j : ℕ). stopped w ms j s ≡ false) e stop_not_here
      ];
      alive = λ k within. alive_before n k t s within there;
      rest = λ j. stopped-add w ms t j s ∙ ap (λ (left : List Mark). stopped w left j (after w t s)) (same_marks ms t s none);
    }
      where
        stop_not_here : stopped w ms t s ≡ false
        stop_not_here =
            or_from (w.returned (after w t s)) (reached w ms t s) (laws.no_end n _ there).0
            (reached_not ms t s (λ i d within. let zero_there = none i d within in let some = counted i d within in omega arith))

    -- on the way from a node to a cut that each mark lets pass
    pub passes : (ms : List Mark) (p h t : ℕ) (s : S) → AreCounted ms → w.at p s ≡ true → w.at h (after w t s) ≡ true → All (Passes leads p h) ms
        → ((k : ℕ) → k < t → stopped w ms k s ≡ false) → Passed ms t s
    passes ms p h t s counted here there allowed before = passed ms h t s counted there before (λ i d within.
        one_mark (slice_index_or ms i d) (allowed i d within) (λ k less. not_reached ms k s (not_stopped ms k s (before k less)).1 i d within))
      where
        onward : (j : ℕ) → suc j < t → w.at h (after w (suc (t - suc j - 1)) (after w (suc j) s)) ≡ true
        onward j less =
            let e : suc j + suc (t - suc j - 1) ≡ t = omega arith in
            ap (w.at h) (sym (after-add w (suc j) (suc (t - suc j - 1)) s) ∙ ap (λ (k : ℕ). after w k s) e) ∙ there

        one_mark : (m : Mark) → Passes leads p h m → ((k : ℕ) → k < t → arrivals w m.node k s < m.count) → arrivals w m.node t s ≡ 0
        one_mark m pass below = never_there m.node t s (λ j less. false_from_ne_true _ (λ met. elim (cases_eq (suc j) t) [
          | inl last ↦ pass.apart (laws.one_node m.node h (after w t s) (subst (λ (k : ℕ). w.at m.node (after w k s) ≡ true) last met) there)
          | inr earlier ↦ elim pass.ahead [
            | inl single ↦ let one = there_counts m.node j s met in let few = below (suc j) (omega arith) in absurd (omega arith)
            | inr no_walk ↦ no_walk (laws.led p m.node j s here met) (laws.led m.node h (t - suc j - 1) (after w (suc j) s) met (onward j (omega arith)))
          ]
        ]))

    -- until it lands, a call's run arrives nowhere
    pub inside : (c l k : ℕ) (s : S) → lands c l → w.at c s ≡ true → arrivals w l k s ≡ 0 → (n : ℕ) → arrivals w n k s ≡ 0
    inside c l k s lands_there here none n = never_there n k s (λ j less. false_from_ne_true _ (λ met.
        let there : n ≡ l = laws.landed c l n j s lands_there here met (λ i more. away i (omega arith)) in
        both_ways _ (away j less) (subst (λ (m : ℕ). w.at m (after w (suc j) s) ≡ true) there met)))
      where
        away : (j : ℕ) → j < k → w.at l (after w (suc j) s) ≡ false
        away j less = false_from_ne_true _ (λ met. let one = there_counts l j s met in let more = arrivals_grow l (suc j) k s (omega arith) in absurd (omega arith))

    -- until it lands, it doesn't stop at other marks
    pub runs_inside : (ms : List Mark) (c l k : ℕ) (s : S) → AreCounted ms → lands c l → w.at c s ≡ true
        → stopped w (record { node = l; count = 1 } ∷ []) k s ≡ false → stopped w ms k s ≡ false
    runs_inside ms c l k s counted lands_there here runs =
        let parts = not_stopped (record { node = l; count = 1 } ∷ []) k s runs in
        let few = not_met l k s runs in
        let none : arrivals w l k s ≡ 0 = omega arith in
        or_from (w.returned (after w k s)) (reached w ms k s) parts.0
        (reached_not ms k s (λ i d within. let nowhere = inside c l k s lands_there here none (slice_index_or ms i d).node in let some = counted i d within in omega arith))

    -- from a call to its landing node
    pub lands_passed : (ms : List Mark) (c l t : ℕ) (s : S) → AreCounted ms → lands c l → w.at c s ≡ true → w.at l (after w t s) ≡ true
        → StopsAt w (record { node = l; count = 1 } ∷ []) t s → All (λ (m : Mark). m.node ≢ l) ms → Passed ms t s
    unfolding arrivals
    lands_passed ms c l zero s counted lands_there here there stops clear = passed ms l zero s counted there (λ k less. absurd (omega arith)) (λ i d within. refl)
    lands_passed ms c l (suc t) s counted lands_there here there stops clear =
        passed ms l (suc t) s counted there (λ k less. runs_inside ms c l k s counted lands_there here (stops.before k less))
        (λ i d within. one_mark (slice_index_or ms i d) (clear i d within))
      where
        none_before : arrivals w l t s ≡ 0
        none_before = let few = not_met l t s (stops.before t (omega arith)) in omega arith

        one_mark : (m : Mark) → m.node ≢ l → arrivals w m.node (suc t) s ≡ 0
        one_mark m apart =
            let nowhere = inside c l t s lands_there here none_before m.node in
            let away : w.at m.node (after w (suc t) s) ≡ false = false_from_ne_true _ (λ met. apart (laws.one_node m.node l _ met there)) in
            arrivals-suc m.node t s ∙ ap₂ (λ (test : Bool) (rest : ℕ). tick w test rest) away nowhere

    -- a later place of a run is one that its node leads to
    pub leads_there : (p h t : ℕ) (s : S) → 0 < t → w.at p s ≡ true → w.at h (after w t s) ≡ true → leads p h
    leads_there p h zero s some here there = absurd (omega arith)
    leads_there p h (suc t) s some here there = laws.led p h t s here there

  -- ---- what comes after a passage

  module _ (ms : List Mark) (t : ℕ) (s : S) (way : Passed ms t s) where
    pub stops_on : (j : ℕ) → StopsAt w ms j (after w t s) → StopsAt w ms (t + j) s
    stops_on j stops = record {
      now = way.rest j ∙ stops.now;
      before = λ k less. elim (cases_lt t k) [
        | inl past ↦
            let e : t + (k - t) ≡ k = omega arith in
            subst (λ (i : ℕ). stopped w ms i s ≡ false) e (way.rest (k - t) ∙ stops.before (k - t) (omega arith))
        | inr within ↦ way.runs k within
      ];
    }

    pub stops_back : (k : ℕ) → StopsAt w ms k s → (j : ℕ) × (t + j ≡ k) × (0 < j) × StopsAt w ms j (after w t s)
    stops_back k stops = elim (cases_lt t k) [
      | inr within ↦ absurd (both_ways _ (way.runs k within) stops.now)
      | inl past ↦
          let e : t + (k - t) ≡ k = omega arith in (
            k - t,
            e,
            omega arith,
            record {
              now = sym (way.rest (k - t)) ∙ ap (λ (i : ℕ). stopped w ms i s) e ∙ stops.now;
              before = λ i less. sym (way.rest i) ∙ stops.before (t + i) (omega arith);
            },
          )
    ]
