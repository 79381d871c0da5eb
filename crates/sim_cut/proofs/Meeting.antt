-- Laws of two sides: what agreement of one frame gives for another, and what a passage on both sides leaves to show.
use Rattle.std.proofs.Common.{◌≡◌, ◌∙◌, ◌⊎◌, ℕ, ◌+◌, ◌-◌, ◌<◌, ◌≤◌, Bool, true, false, List, [], ◌∷◌, ◌++◌, map, All, Contains, sym, ap, subst, inl, inr, arith}
use Rattle.std.proofs.lemmas.List.Elements.{All-head, All-tail, All-nil, All-cons, All-contains, Contains-push_cases}
use Rattle.std.proofs.lemmas.List.{map-append}
use Rattle.std.proofs.lemmas.Bool.{both_ways, or_left, cases_lt, false_from_ne_true}
use Rattle.graph_core_spec.specs.TransitionSystem.{IsTransitionSystem, after, stopped, StopsAt, IsSafe}
use Rattle.graph_core_spec.specs.declared.Mark.{Mark}
use Rattle.graph_core_spec.specs.Simulation.{Frame, Goal, Hold, IsRelated, binary_marks, source_marks, HasCountedGoals, EndsAlike, both_return, both_arrive, Agree, IsHeld, held}
use Rattle.graph_core_spec.proofs.Runs.{after-add, stopped_on, stops_once}
use Rattle.proof_tree_spec.specs.declared.Counts.{Counts}
use Rattle.proof_tree_spec.specs.Cuts.{AreCounts, Passes, goal_at, with_goal}
use Rattle.sim_cut.proofs.Passing.{Passed, passes, stops_on, stops_back, stops_earlier, stops_apart, stops_later, first_stop}

-- ---- lists of goals

all_before_map : {X Y : Type 0} (P : X → Type 0) (f : Y → X) (ys : List Y) → All P (map f ys) → All (λ y. P (f y)) ys
all_before_map P f [] all = All-nil (λ y. P (f y))
all_before_map P f (y ∷ ys) all = All-cons (λ z. P (f z)) y ys (All-head P (f y) (map f ys) all) (all_before_map P f ys (All-tail P (f y) (map f ys) all))

module _ {A C : Type 0} where
  -- what each mark of the goals satisfies, each goal's does
  pub binary_each : (P : Mark → Type 0) (gs : List (Goal A C)) (g : Goal A C) → All P (map (λ (x : Goal A C). x.binary) gs) → Contains gs g → P g.binary
  binary_each P gs g all among = All-contains (λ (x : Goal A C). P x.binary) gs g (all_before_map P (λ (x : Goal A C). x.binary) gs all) among

  pub source_each : (P : Mark → Type 0) (gs : List (Goal A C)) (g : Goal A C) → All P (map (λ (x : Goal A C). x.source) gs) → Contains gs g → P g.source
  source_each P gs g all among = All-contains (λ (x : Goal A C). P x.source) gs g (all_before_map P (λ (x : Goal A C). x.source) gs all) among

  pub more_binary : (f : Frame A C) (g : Goal A C) → binary_marks (with_goal f g) ≡ binary_marks f ++ g.binary ∷ []
  more_binary f g = map-append (λ (x : Goal A C). x.binary) f.goals (g ∷ [])

  pub more_source : (f : Frame A C) (g : Goal A C) → source_marks (with_goal f g) ≡ source_marks f ++ g.source ∷ []
  more_source f g = map-append (λ (x : Goal A C). x.source) f.goals (g ∷ [])

  -- ---- agreement doesn't look at starts, premises, bounds or holds

  module _ (f : Frame A C) (b s : ℕ) (premise : ℕ → A → C → Bool) (bb sb : List Mark) (holds : List (Hold A C)) where
    abbrev restarted : Frame A C
    restarted = record f { binary_start = b; source_start = s; premise = premise; binary_bounds = bb; source_bounds = sb; holds = holds }

    ends_alike : (x : A) (y : C) → EndsAlike restarted x y → EndsAlike f x y
    ends_alike x y (both_return rx ry related) = both_return rx ry related
    ends_alike x y (both_arrive g among ax ay related) = both_arrive g among ax ay related

    pub agree : (n : ℕ) (x : A) (y : C) → Agree restarted n x y → Agree f n x y
    agree n x y ag = record {
      safe = ag.safe;
      forth = λ t within stops. let met = ag.forth t within stops in (met.0, met.1, ends_alike _ _ met.2);
      back = λ u within stops. let met = ag.back u within stops in (met.0, met.1, ends_alike _ _ met.2);
    }

  -- a frame with the same systems, goals and holds has the same holds met
  pub hold_met : (f : Frame A C) (b s : ℕ) (premise : ℕ → A → C → Bool) (bb sb : List Mark) (x : A) (y : C)
      → IsHeld (restarted f b s premise bb sb f.holds) x y → IsHeld f x y
  hold_met f b s premise bb sb x y (held h among t u some going_x going_y at_x at_y related) = held h among t u some going_x going_y at_x at_y related

  -- with one more goal both sides stop no later, so a hold that is met stays met
  pub hold_met_before : (f : Frame A C) (g : Goal A C) (x : A) (y : C) → IsHeld (with_goal f g) x y → IsHeld f x y
  hold_met_before f g x y (held h among t u some going_x going_y at_x at_y related) =
      held h among t u some
      (λ k less. stops_earlier f.binary (binary_marks f) g.binary k x (subst (λ (ms : List Mark). stopped f.binary ms k x ≡ false) (more_binary f g) (going_x k less)))
      (λ k less. stops_earlier f.source (source_marks f) g.source k y (subst (λ (ms : List Mark). stopped f.source ms k y ≡ false) (more_source f g) (going_y k less)))
      at_x at_y related

  -- ---- what becomes of two runs within a number of steps

  -- neither side stops; or both do, and end alike
  pub data Outcome (f : Frame A C) (n : ℕ) (x : A) (y : C) : Type 0 where
    both_run : ((k : ℕ) → k ≤ n → stopped f.binary (binary_marks f) k x ≡ false) → ((k : ℕ) → k ≤ n → stopped f.source (source_marks f) k y ≡ false) → Outcome f n x y
    both_end : (t u : ℕ) → StopsAt f.binary (binary_marks f) t x → StopsAt f.source (source_marks f) u y
        → EndsAlike f (after f.binary t x) (after f.source u y) → Outcome f n x y

  pub outcome : (f : Frame A C) (n : ℕ) (x : A) (y : C) → Agree f n x y → Outcome f n x y
  outcome f n x y ag = elim (first_stop f.binary (binary_marks f) n x) [
    | inr (t, within, stops) ↦ let met = ag.forth t within stops in both_end t met.0 stops met.1 met.2
    | inl binary_runs ↦ elim (first_stop f.source (source_marks f) n y) [
      | inr (u, within, stops) ↦ let met = ag.back u within stops in both_end met.0 u met.1 stops met.2
      | inl source_runs ↦ both_run binary_runs source_runs
    ]
  ]

  -- ---- from here the frame is fixed

  module _ (f : Frame A C) where
    -- neither side stops
    pub agree_running : (n : ℕ) (x : A) (y : C) → ((k : ℕ) → k ≤ n → stopped f.binary (binary_marks f) k x ≡ false)
        → ((k : ℕ) → k ≤ n → stopped f.source (source_marks f) k y ≡ false) → ((k : ℕ) → k ≤ n → f.binary.failed (after f.binary k x) ≡ false) → Agree f n x y
    agree_running n x y binary_runs source_runs alive = record {
      safe = λ k within runs. alive k within;
      forth = λ t within stops. absurd (both_ways _ (binary_runs t within) stops.now);
      back = λ u within stops. absurd (both_ways _ (source_runs u within) stops.now);
    }

    -- both have gone on, and agree from there
    module _ (n m t u : ℕ) (x : A) (y : C) (way_x : Passed f.binary (binary_marks f) t x) (way_y : Passed f.source (source_marks f) u y) where
      later_agree : m ≤ t + n → m ≤ u + n → Agree f n (after f.binary t x) (after f.source u y) → Agree f m x y
      later_agree enough_x enough_y ag = record { safe = safe; forth = forth; back = back }
        where
          safe : IsSafe f.binary (binary_marks f) m x
          safe k within runs = elim (cases_lt t k) [
            | inr before ↦ way_x.alive k before
            | inl past ↦
                let e : t + (k - t) ≡ k = omega arith in
                let there : after f.binary (k - t) (after f.binary t x) ≡ after f.binary k x = sym (after-add f.binary t (k - t) x) ∙ ap (λ (i : ℕ). after f.binary i x) e in
                let runs_on : stopped f.binary (binary_marks f) (k - t) (after f.binary t x) ≡ false =
                sym (way_x.rest (k - t)) ∙ ap (λ (i : ℕ). stopped f.binary (binary_marks f) i x) e ∙ runs in
                sym (ap f.binary.failed there) ∙ ag.safe (k - t) (omega arith) runs_on
          ]

          moved : (t' u' : ℕ) → EndsAlike f (after f.binary t' (after f.binary t x)) (after f.source u' (after f.source u y))
              → EndsAlike f (after f.binary (t + t') x) (after f.source (u + u') y)
          moved t' u' ends =
              subst (λ (z : A). EndsAlike f z (after f.source (u + u') y)) (sym (after-add f.binary t t' x))
              (subst (λ (z : C). EndsAlike f (after f.binary t' (after f.binary t x)) z) (sym (after-add f.source u u' y)) ends)

          forth : (k : ℕ) → k ≤ m → StopsAt f.binary (binary_marks f) k x
              → (i : ℕ) × StopsAt f.source (source_marks f) i y × EndsAlike f (after f.binary k x) (after f.source i y)
          forth k within stops =
              let left = stops_back f.binary (binary_marks f) t x way_x k stops in
              let met = ag.forth left.0 (omega (arith, left.1)) left.3 in (
                u + met.0,
                stops_on f.source (source_marks f) u y way_y met.0 met.1,
                subst (λ (i : ℕ). EndsAlike f (after f.binary i x) (after f.source (u + met.0) y)) left.1 (moved left.0 met.0 met.2),
              )

          back : (k : ℕ) → k ≤ m → StopsAt f.source (source_marks f) k y
              → (i : ℕ) × StopsAt f.binary (binary_marks f) i x × EndsAlike f (after f.binary i x) (after f.source k y)
          back k within stops =
              let left = stops_back f.source (source_marks f) u y way_y k stops in
              let met = ag.back left.0 (omega (arith, left.1)) left.3 in (
                t + met.0,
                stops_on f.binary (binary_marks f) t x way_x met.0 met.1,
                subst (λ (i : ℕ). EndsAlike f (after f.binary (t + met.0) x) (after f.source i y)) left.1 (moved met.0 left.0 met.2),
              )

      later_held : IsHeld f (after f.binary t x) (after f.source u y) → IsHeld f x y
      later_held (held h among t' u' some going_x going_y at_x at_y related) =
          held h among (t + t') (u + u') (omega arith) binary_going source_going
          (subst (λ (z : A). f.binary.at h.binary z ≡ true) (sym (after-add f.binary t t' x)) at_x)
          (subst (λ (z : C). f.source.at h.source z ≡ true) (sym (after-add f.source u u' y)) at_y)
          (subst (λ (z : A). IsRelated h.relation z (after f.source (u + u') y)) (sym (after-add f.binary t t' x))
          (subst (λ (z : C). IsRelated h.relation (after f.binary t' (after f.binary t x)) z) (sym (after-add f.source u u' y)) related))
        where
          binary_going : (k : ℕ) → k < t + t' → stopped f.binary (binary_marks f) k x ≡ false
          binary_going k less = elim (cases_lt t k) [
            | inr within ↦ way_x.runs k within
            | inl past ↦
                let e : t + (k - t) ≡ k = omega arith in
                subst (λ (i : ℕ). stopped f.binary (binary_marks f) i x ≡ false) e (way_x.rest (k - t) ∙ going_x (k - t) (omega arith))
          ]

          source_going : (k : ℕ) → k < u + u' → stopped f.source (source_marks f) k y ≡ false
          source_going k less = elim (cases_lt u k) [
            | inr within ↦ way_y.runs k within
            | inl past ↦
                let e : u + (k - u) ≡ k = omega arith in
                subst (λ (i : ℕ). stopped f.source (source_marks f) i y ≡ false) e (way_y.rest (k - u) ∙ going_y (k - u) (omega arith))
          ]

      pub later : m ≤ t + n → m ≤ u + n → Agree f n (after f.binary t x) (after f.source u y) ⊎ IsHeld f (after f.binary t x) (after f.source u y) → Agree f m x y ⊎ IsHeld f x y
      later enough_x enough_y (inl ag) = inl (later_agree enough_x enough_y ag)
      later enough_x enough_y (inr met) = inr (later_held met)

    module _ {binary_leads binary_lands : ℕ → ℕ → Type 0} {binary_kept : A → Type 0} {binary_count : ℕ}
        (binary_laws : IsTransitionSystem f.binary binary_leads binary_lands binary_kept binary_count)
        {source_leads source_lands : ℕ → ℕ → Type 0} {source_kept : C → Type 0} {source_count : ℕ}
        (source_laws : IsTransitionSystem f.source source_leads source_lands source_kept source_count) where
      -- both stop, and end alike
      pub agree_ending : (n t u : ℕ) (x : A) (y : C) → StopsAt f.binary (binary_marks f) t x → StopsAt f.source (source_marks f) u y
          → EndsAlike f (after f.binary t x) (after f.source u y) → ((k : ℕ) → k ≤ n → k < t → f.binary.failed (after f.binary k x) ≡ false) → Agree f n x y
      agree_ending n t u x y stops_x stops_y ends alive = record {
        safe = λ k within runs. elim (cases_lt k t) [
          | inl less ↦ alive k within less
          | inr past ↦
              let e : t + (k - t) ≡ k = omega arith in
              let stays = stopped_on f.binary binary_laws.returned_stays (binary_marks f) t (k - t) x stops_x.now in
              absurd (both_ways _ runs (sym (ap (λ (i : ℕ). stopped f.binary (binary_marks f) i x) e) ∙ stays))
        ];
        forth = λ i within stops. (
          u,
          stops_y,
          subst (λ (j : ℕ). EndsAlike f (after f.binary j x) (after f.source u y)) (stops_once f.binary (binary_marks f) t i x stops_x stops) ends,
        );
        back = λ i within stops. (
          t,
          stops_x,
          subst (λ (j : ℕ). EndsAlike f (after f.binary t x) (after f.source j y)) (stops_once f.source (source_marks f) u i y stops_y stops) ends,
        );
      }

      module _ (counted : HasCountedGoals f) (cut : Hold A C) (counts : Counts) (positive : AreCounts counts) (p q : ℕ)
          (allowed_x : All (Passes binary_leads p cut.binary) (binary_marks f)) (allowed_y : All (Passes source_leads q cut.source) (source_marks f)) where
        -- both come to the cut by a passage, and what is left is to show that they agree from there; or they agree as
        -- they do with the cut as one more goal
        pub passage : (n : ℕ) (x : A) (y : C) → f.binary.at p x ≡ true → f.source.at q y ≡ true → Agree (with_goal f (goal_at cut counts)) n x y
            → ((t u : ℕ) → 0 < t → 0 < u → Passed f.binary (binary_marks f) t x → Passed f.source (source_marks f) u y
            → f.binary.at cut.binary (after f.binary t x) ≡ true → f.source.at cut.source (after f.source u y) ≡ true
            → IsRelated cut.relation (after f.binary t x) (after f.source u y) → Agree f n x y ⊎ IsHeld f x y)
            → Agree f n x y ⊎ IsHeld f x y
        passage n x y here_x here_y ag onward = elim (outcome (with_goal f (goal_at cut counts)) n x y ag) [
          | both_run binary_runs source_runs ↦ inl (agree_running n x y
              (λ k within. earlier_x k (binary_runs k within)) (λ k within. earlier_y k (source_runs k within))
              (λ k within. ag.safe k within (binary_runs k within)))
          | both_end t u stops_x stops_y ends ↦ ended t u stops_x stops_y ends
        ]
          where
            earlier_x : (k : ℕ) → stopped f.binary (binary_marks (with_goal f (goal_at cut counts))) k x ≡ false → stopped f.binary (binary_marks f) k x ≡ false
            earlier_x k runs = stops_earlier f.binary (binary_marks f) (goal_at cut counts).binary k x
                (subst (λ (ms : List Mark). stopped f.binary ms k x ≡ false) (more_binary f (goal_at cut counts)) runs)

            earlier_y : (k : ℕ) → stopped f.source (source_marks (with_goal f (goal_at cut counts))) k y ≡ false → stopped f.source (source_marks f) k y ≡ false
            earlier_y k runs = stops_earlier f.source (source_marks f) (goal_at cut counts).source k y
                (subst (λ (ms : List Mark). stopped f.source ms k y ≡ false) (more_source f (goal_at cut counts)) runs)

            ended : (t u : ℕ) → StopsAt f.binary (binary_marks (with_goal f (goal_at cut counts))) t x
                → StopsAt f.source (source_marks (with_goal f (goal_at cut counts))) u y
                → EndsAlike (with_goal f (goal_at cut counts)) (after f.binary t x) (after f.source u y) → Agree f n x y ⊎ IsHeld f x y
            ended t u stops_x stops_y (both_return rx ry related) = inl (agree_ending n t u x y
                (record { now = or_left (f.binary.returned (after f.binary t x)) _ rx; before = λ k less. earlier_x k (stops_x.before k less) })
                (record { now = or_left (f.source.returned (after f.source u y)) _ ry; before = λ k less. earlier_y k (stops_y.before k less) })
                (both_return rx ry related) (λ k within less. ag.safe k within (stops_x.before k less)))
            ended t u stops_x stops_y (both_arrive g among at_x at_y related) = elim (Contains-push_cases f.goals (goal_at cut counts) g among) [
              | inl old ↦
                  let apart_x = (binary_each (Passes binary_leads p cut.binary) f.goals g allowed_x old).apart in
                  let apart_y = (source_each (Passes source_leads q cut.source) f.goals g allowed_y old).apart in
                  inl (agree_ending n t u x y
                  (record {
                    now = stops_apart f.binary (binary_marks f) (goal_at cut counts).binary t x positive.binary more_x
                        (false_from_ne_true _ (λ met. apart_x (binary_laws.one_node _ _ _ at_x met)));
                    before = λ k less. earlier_x k (stops_x.before k less);
                  })
                  (record {
                    now = stops_apart f.source (source_marks f) (goal_at cut counts).source u y positive.source more_y
                        (false_from_ne_true _ (λ met. apart_y (source_laws.one_node _ _ _ at_y met)));
                    before = λ k less. earlier_y k (stops_y.before k less);
                  })
                  (both_arrive g old at_x at_y related) (λ k within less. ag.safe k within (stops_x.before k less)))
              | inr new ↦
                  let there_x : f.binary.at cut.binary (after f.binary t x) ≡ true = subst (λ (z : Goal A C). f.binary.at z.binary.node (after f.binary t x) ≡ true) (sym new) at_x in
                  let there_y : f.source.at cut.source (after f.source u y) ≡ true = subst (λ (z : Goal A C). f.source.at z.source.node (after f.source u y) ≡ true) (sym new) at_y in
                  onward t u
                  (stops_later f.binary (binary_marks f) (goal_at cut counts).binary t x counted.binary positive.binary (binary_laws.no_end p x here_x).0 more_x)
                  (stops_later f.source (source_marks f) (goal_at cut counts).source u y counted.source positive.source (source_laws.no_end q y here_y).0 more_y)
                  (passes f.binary binary_laws (binary_marks f) p cut.binary t x counted.binary here_x there_x allowed_x (λ k less. earlier_x k (stops_x.before k less)))
                  (passes f.source source_laws (source_marks f) q cut.source u y counted.source here_y there_y allowed_y (λ k less. earlier_y k (stops_y.before k less)))
                  there_x there_y
                  (subst (λ (z : Goal A C). IsRelated z.relation (after f.binary t x) (after f.source u y)) (sym new) related)
            ]
              where
                more_x : StopsAt f.binary (binary_marks f ++ (goal_at cut counts).binary ∷ []) t x
                more_x = subst (λ (ms : List Mark). StopsAt f.binary ms t x) (more_binary f (goal_at cut counts)) stops_x

                more_y : StopsAt f.source (source_marks f ++ (goal_at cut counts).source ∷ []) u y
                more_y = subst (λ (ms : List Mark). StopsAt f.source ms u y) (more_source f (goal_at cut counts)) stops_y
