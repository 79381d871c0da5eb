-- The rules that cut runs in two are sound.
use Rattle.std.proofs.Common.{◌≡◌, ◌∙◌, ◌⊎◌, ℕ, ◌+◌, ◌<◌, zero, suc, Bool, true, false, List, [], ◌∷◌, ◌++◌, All, refl, sym, ap, subst, inl, inr, arith}
use Rattle.std.proofs.lemmas.List.Elements.{Contains-push_cases}
use Rattle.std.proofs.lemmas.Bool.{both_ways, and_from}
use Rattle.graph_core_spec.specs.TransitionSystem.{TransitionSystem, IsTransitionSystem, after, stopped, StopsAt, IsSafe, KeepsBounds}
use Rattle.graph_core_spec.specs.declared.Mark.{Mark}
use Rattle.graph_core_spec.specs.Simulation.{Frame, Goal, Hold, IsRelated, binary_marks, source_marks, HasCountedGoals, EndsAlike, both_return, both_arrive, Agree, IsHeld, held, IsStart, Simulates}
use Rattle.graph_core_spec.proofs.Runs.{after-add, always_kept}
use Rattle.proof_tree_spec.specs.declared.Counts.{Counts}
use Rattle.proof_tree_spec.specs.Cuts.{AreCounts, once, Passes, IsAllowed, IsClear, goal_at, both, with_goal, with_hold, from_cut, across, IsKept, Splits, Calls, Holds, Waits, IsFine}
use Rattle.sim_cut.proofs.Passing.{Passed, passes, runs_inside, lands_passed, leads_there, stops_earlier}
use Rattle.sim_cut.proofs.Meeting.{more_binary, more_source, agree, hold_met, hold_met_before, both_run, both_end, outcome, agree_running, later, passage}

module _ {A C : Type 0} (f : Frame A C) {fine_binary : A → Type 0} {fine_source : C → Type 0} (entry : ℕ → A → C → Bool)
    {binary_leads binary_lands : ℕ → ℕ → Type 0} {binary_kept : A → Type 0} {binary_count : ℕ}
    (binary_laws : IsTransitionSystem f.binary binary_leads binary_lands binary_kept binary_count)
    {source_leads source_lands : ℕ → ℕ → Type 0} {source_kept : C → Type 0} {source_count : ℕ}
    (source_laws : IsTransitionSystem f.source source_leads source_lands source_kept source_count)
    (counted : HasCountedGoals f)
    (binary_stays : (x : A) → fine_binary x → fine_binary (f.binary.step x)) (source_stays : (y : C) → fine_source y → fine_source (f.source.step y))
    (kept : IsKept f fine_binary fine_source entry) where
  -- ---- states that a run of the frame may reach: they are fine, the entry premises hold, and the source is safe

  record Reached (x : A) (y : C) : Type 0 where
    pub binary_fine : fine_binary x
    pub source_fine : fine_source y
    pub entered : IsRelated entry x y
    pub safe : (n : ℕ) → IsSafe f.source (source_marks f) n y

  started : (x : A) (y : C) → IsStart f fine_binary fine_source x y → Reached x y
  started x y start = record { binary_fine = start.binary_fine; source_fine = start.source_fine; entered = kept.start x y start.premise; safe = start.source_safe }

  binary_on : (t : ℕ) (x : A) (y : C) → fine_binary x → fine_source y → IsRelated entry x y → fine_binary (after f.binary t x) × IsRelated entry (after f.binary t x) y
  unfolding after
  binary_on zero x y fx fy e = (fx, e)
  binary_on (suc t) x y fx fy e = binary_on t (f.binary.step x) y (binary_stays x fx) fy (kept.binary x y fx fy e)

  source_on : (u : ℕ) (x : A) (y : C) → fine_binary x → fine_source y → IsRelated entry x y → fine_source (after f.source u y) × IsRelated entry x (after f.source u y)
  unfolding after
  source_on zero x y fx fy e = (fy, e)
  source_on (suc u) x y fx fy e = source_on u x (f.source.step y) fx (source_stays y fy) (kept.source x y fx fy e)

  reached_later : (t u : ℕ) (x : A) (y : C) → Passed f.source (source_marks f) u y → Reached x y → Reached (after f.binary t x) (after f.source u y)
  reached_later t u x y way r =
      let bx = binary_on t x y r.binary_fine r.source_fine r.entered in
      let by = source_on u (after f.binary t x) y bx.0 r.source_fine bx.1 in
      record {
        binary_fine = bx.0;
        source_fine = by.0;
        entered = by.1;
        safe = λ n k within runs. ap f.source.failed (sym (after-add f.source u k y)) ∙ r.safe (u + k) (u + k) (omega arith) (way.rest k ∙ runs);
      }

  no_bounds_binary : (ms : List Mark) (n : ℕ) (x : A) → KeepsBounds f.binary ms [] n x
  no_bounds_binary ms n x = λ k within runs i d none. absurd (omega arith)

  no_bounds_source : (ms : List Mark) (n : ℕ) (y : C) → KeepsBounds f.source ms [] n y
  no_bounds_source ms n y = λ k within runs i d none. absurd (omega arith)

  both_related : (p q : ℕ → A → C → Bool) (x : A) (y : C) → IsRelated p x y → IsRelated q x y → IsRelated (both p q) x y
  both_related p q x y px qx = λ address. and_from (p address x y) (q address x y) (px address) (qx address)

  -- with one more goal the source stops no later, so it is as safe
  safe_before : (g : Goal A C) (n : ℕ) (y : C) → IsSafe f.source (source_marks f) n y → IsSafe f.source (source_marks (with_goal f g)) n y
  safe_before g n y safe = λ k within runs.
      safe k within (stops_earlier f.source (source_marks f) g.source k y (subst (λ (ms : List Mark). stopped f.source ms k y ≡ false) (more_source f g) runs))

  -- ---- from the cut on

  module _ (cut : Hold A C) (step : Counts) (positive : AreCounts step)
      (allowed_x : All (Passes binary_leads cut.binary cut.binary) (binary_marks f)) (allowed_y : All (Passes source_leads cut.source cut.source) (source_marks f))
      (steps : Simulates (with_goal (from_cut f entry cut) (goal_at cut step)) fine_binary fine_source) where
    at_cut : (x : A) (y : C) → Reached x y → f.binary.at cut.binary x ≡ true → f.source.at cut.source y ≡ true → IsRelated cut.relation x y
        → IsStart (with_goal (from_cut f entry cut) (goal_at cut step)) fine_binary fine_source x y
    at_cut x y r here_x here_y related = record {
      binary_at = here_x;
      source_at = here_y;
      premise = both_related entry cut.relation x y r.entered related;
      binary_fine = r.binary_fine;
      source_fine = r.source_fine;
      binary_kept = λ n. no_bounds_binary (binary_marks (with_goal f (goal_at cut step))) n x;
      source_kept = λ n. no_bounds_source (source_marks (with_goal f (goal_at cut step))) n y;
      source_safe = λ n. safe_before (goal_at cut step) n y (r.safe n);
    }

    turn : (n : ℕ) (x : A) (y : C) → Reached x y → f.binary.at cut.binary x ≡ true → f.source.at cut.source y ≡ true → IsRelated cut.relation x y
        → ((t u : ℕ) → 0 < t → 0 < u → Passed f.binary (binary_marks f) t x → Passed f.source (source_marks f) u y
        → f.binary.at cut.binary (after f.binary t x) ≡ true → f.source.at cut.source (after f.source u y) ≡ true
        → IsRelated cut.relation (after f.binary t x) (after f.source u y) → Agree f n x y ⊎ IsHeld f x y)
        → Agree f n x y ⊎ IsHeld f x y
    turn n x y r here_x here_y related onward = elim (steps x y (at_cut x y r here_x here_y related) n) [
      | inl ag ↦ passage f binary_laws source_laws counted cut step positive cut.binary cut.source allowed_x allowed_y n x y here_x here_y
          (agree (with_goal f (goal_at cut step)) cut.binary cut.source (both entry cut.relation) [] [] f.holds n x y ag) onward
      | inr met ↦ inr (hold_met_before f (goal_at cut step) x y
          (hold_met (with_goal f (goal_at cut step)) cut.binary cut.source (both entry cut.relation) [] [] x y met))
    ]

    loop : (n : ℕ) (x : A) (y : C) → Reached x y → f.binary.at cut.binary x ≡ true → f.source.at cut.source y ≡ true → IsRelated cut.relation x y
        → Agree f n x y ⊎ IsHeld f x y
    loop zero x y r here_x here_y related = turn zero x y r here_x here_y related (λ t u some_t some_u way_x way_y there_x there_y related_there.
        inl (agree_running f zero x y (λ k within. way_x.runs k (omega arith)) (λ k within. way_y.runs k (omega arith)) (λ k within. way_x.alive k (omega arith))))
    loop (suc n) x y r here_x here_y related = turn (suc n) x y r here_x here_y related (λ t u some_t some_u way_x way_y there_x there_y related_there.
        later f n (suc n) t u x y way_x way_y (omega arith) (omega arith)
        (loop n (after f.binary t x) (after f.source u y) (reached_later t u x y way_y r) there_x there_y related_there))

  -- a cut that a goal lets pass from the start is one that it lets pass from the cut, once that is reached
  again : {leads : ℕ → ℕ → Type 0} → ((m n o : ℕ) → leads m n → leads n o → leads m o) → (p h : ℕ) → leads p h → (ms : List Mark)
      → All (Passes leads p h) ms → All (Passes leads h h) ms
  again leads_on p h ahead ms allowed = λ i d within. let pass = allowed i d within in record {
    apart = pass.apart;
    ahead = elim pass.ahead [
      | inl single ↦ inl single
      | inr no_walk ↦ inr (λ there. no_walk (leads_on p h _ ahead there))
    ];
  }

  -- with one more goal a start is one still
  with_goal_start : (g : Goal A C) (x : A) (y : C) → IsStart f fine_binary fine_source x y → IsStart (with_goal f g) fine_binary fine_source x y
  with_goal_start g x y start = record {
    binary_at = start.binary_at;
    source_at = start.source_at;
    premise = start.premise;
    binary_fine = start.binary_fine;
    source_fine = start.source_fine;
    binary_kept = λ n k within runs. start.binary_kept n k within
        (stops_earlier f.binary (binary_marks f) g.binary k x (subst (λ (ms : List Mark). stopped f.binary ms k x ≡ false) (more_binary f g) runs));
    source_kept = λ n k within runs. start.source_kept n k within
        (stops_earlier f.source (source_marks f) g.source k y (subst (λ (ms : List Mark). stopped f.source ms k y ≡ false) (more_source f g) runs));
    source_safe = λ n. safe_before g n y (start.source_safe n);
  }

  -- ---- the rules

  pub split_is_sound : (cut : Hold A C) (enter step : Counts) → AreCounts enter → AreCounts step → IsAllowed f binary_leads source_leads cut
      → Splits f fine_binary fine_source entry cut enter step → Simulates f fine_binary fine_source
  split_is_sound cut enter step some_enter some_step allowed sub x y start n = elim (sub.enters x y (with_goal_start (goal_at cut enter) x y start) n) [
    | inl ag ↦ passage f binary_laws source_laws counted cut enter some_enter f.binary_start f.source_start allowed.binary allowed.source n x y start.binary_at start.source_at ag
        (λ t u some_t some_u way_x way_y there_x there_y related.
        later f n n t u x y way_x way_y (omega arith) (omega arith)
        (loop cut step some_step
        (again binary_laws.leads_on f.binary_start cut.binary (leads_there f.binary binary_laws f.binary_start cut.binary t x some_t start.binary_at there_x) (binary_marks f) allowed.binary)
        (again source_laws.leads_on f.source_start cut.source (leads_there f.source source_laws f.source_start cut.source u y some_u start.source_at there_y) (source_marks f) allowed.source)
        sub.steps n (after f.binary t x) (after f.source u y) (reached_later t u x y way_y (started x y start)) there_x there_y related))
    | inr met ↦ inr (hold_met_before f (goal_at cut enter) x y met)
  ]

  -- from the calls on, through the callees
  cross : (call landing : Hold A C) → binary_lands call.binary landing.binary → source_lands call.source landing.source → IsClear f landing
      → Calls f fine_binary fine_source entry call landing → (n : ℕ) (x : A) (y : C) → Reached x y
      → f.binary.at call.binary x ≡ true → f.source.at call.source y ≡ true → IsRelated call.relation x y → Agree f n x y ⊎ IsHeld f x y
  cross call landing lands_x lands_y clear sub n x y r here_x here_y related = elim (sub.inner x y at_calls n) [
    | inl ag ↦ elim (outcome (across f entry call landing) n x y ag) [
      | both_run binary_runs source_runs ↦ inl (agree_running f n x y
          (λ k within. runs_inside f.binary binary_laws (binary_marks f) call.binary landing.binary k x counted.binary lands_x here_x (binary_runs k within))
          (λ k within. runs_inside f.source source_laws (source_marks f) call.source landing.source k y counted.source lands_y here_y (source_runs k within))
          (λ k within. ag.safe k within (binary_runs k within)))
      | both_end t u stops_x stops_y ends ↦ landed t u stops_x stops_y ends
    ]
    | inr met ↦ no_hold met
  ]
    where
      at_calls : IsStart (across f entry call landing) fine_binary fine_source x y
      at_calls = record {
        binary_at = here_x;
        source_at = here_y;
        premise = both_related entry call.relation x y r.entered related;
        binary_fine = r.binary_fine;
        source_fine = r.source_fine;
        binary_kept = λ m. no_bounds_binary (record { node = landing.binary; count = 1 } ∷ []) m x;
        source_kept = λ m. no_bounds_source (record { node = landing.source; count = 1 } ∷ []) m y;
        source_safe = λ m k within runs. r.safe m k within
            (runs_inside f.source source_laws (source_marks f) call.source landing.source k y counted.source lands_y here_y runs);
      }

      no_hold : IsHeld (across f entry call landing) x y → Agree f n x y ⊎ IsHeld f x y
      no_hold (held h among t u some going_x going_y at_x at_y related_there) = let none = among.1 in absurd (omega arith)

      onward : (x' : A) (y' : C) → Reached x' y' → f.binary.at landing.binary x' ≡ true → f.source.at landing.source y' ≡ true → IsRelated landing.relation x' y'
          → Agree f n x' y' ⊎ IsHeld f x' y'
      onward x' y' r' at_x at_y related' = elim (sub.later x' y' landing_start n) [
        | inl ag ↦ inl (agree f landing.binary landing.source (both entry landing.relation) [] [] f.holds n x' y' ag)
        | inr met ↦ inr (hold_met f landing.binary landing.source (both entry landing.relation) [] [] x' y' met)
      ]
        where
          landing_start : IsStart (from_cut f entry landing) fine_binary fine_source x' y'
          landing_start = record {
            binary_at = at_x;
            source_at = at_y;
            premise = both_related entry landing.relation x' y' r'.entered related';
            binary_fine = r'.binary_fine;
            source_fine = r'.source_fine;
            binary_kept = λ m. no_bounds_binary (binary_marks f) m x';
            source_kept = λ m. no_bounds_source (source_marks f) m y';
            source_safe = r'.safe;
          }

      landed : (t u : ℕ) → StopsAt f.binary (record { node = landing.binary; count = 1 } ∷ []) t x → StopsAt f.source (record { node = landing.source; count = 1 } ∷ []) u y
          → EndsAlike (across f entry call landing) (after f.binary t x) (after f.source u y) → Agree f n x y ⊎ IsHeld f x y
      landed t u stops_x stops_y (both_return rx ry never) = absurd (both_ways false refl (never 0))
      landed t u stops_x stops_y (both_arrive g among at_x at_y ends) = elim (Contains-push_cases [] (goal_at landing once) g among) [
        | inl none ↦ let below = none.1 in absurd (omega arith)
        | inr new ↦
            let there_x : f.binary.at landing.binary (after f.binary t x) ≡ true = subst (λ (z : Goal A C). f.binary.at z.binary.node (after f.binary t x) ≡ true) (sym new) at_x in
            let there_y : f.source.at landing.source (after f.source u y) ≡ true = subst (λ (z : Goal A C). f.source.at z.source.node (after f.source u y) ≡ true) (sym new) at_y in
            let way_x = lands_passed f.binary binary_laws (binary_marks f) call.binary landing.binary t x counted.binary lands_x here_x there_x stops_x clear.binary in
            let way_y = lands_passed f.source source_laws (source_marks f) call.source landing.source u y counted.source lands_y here_y there_y stops_y clear.source in
            later f n n t u x y way_x way_y (omega arith) (omega arith)
            (onward (after f.binary t x) (after f.source u y) (reached_later t u x y way_y r) there_x there_y
            (subst (λ (z : Goal A C). IsRelated z.relation (after f.binary t x) (after f.source u y)) (sym new) ends))
      ]

  pub call_is_sound : (call landing : Hold A C) → binary_lands call.binary landing.binary → source_lands call.source landing.source
      → IsAllowed f binary_leads source_leads call → IsClear f landing → Calls f fine_binary fine_source entry call landing → Simulates f fine_binary fine_source
  call_is_sound call landing lands_x lands_y allowed clear sub x y start n = elim (sub.before x y (with_goal_start (goal_at call once) x y start) n) [
    | inl ag ↦ passage f binary_laws source_laws counted call once (record { binary = omega arith; source = omega arith }) f.binary_start f.source_start
        allowed.binary allowed.source n x y start.binary_at start.source_at ag
        (λ t u some_t some_u way_x way_y there_x there_y related.
        later f n n t u x y way_x way_y (omega arith) (omega arith)
        (cross call landing lands_x lands_y clear sub n (after f.binary t x) (after f.source u y) (reached_later t u x y way_y (started x y start)) there_x there_y related))
    | inr met ↦ inr (hold_met_before f (goal_at call once) x y met)
  ]

  -- with one more hold a start is one still
  with_hold_start : (hold : Hold A C) (x : A) (y : C) → IsStart f fine_binary fine_source x y → IsStart (with_hold f hold) fine_binary fine_source x y
  with_hold_start hold x y start = record {
    binary_at = start.binary_at;
    source_at = start.source_at;
    premise = start.premise;
    binary_fine = start.binary_fine;
    source_fine = start.source_fine;
    binary_kept = start.binary_kept;
    source_kept = start.source_kept;
    source_safe = start.source_safe;
  }

  pub hold_is_sound : (cut : Hold A C) (step : Counts) → AreCounts step → IsAllowed f binary_leads source_leads cut
      → Holds f fine_binary fine_source entry cut step → Simulates f fine_binary fine_source
  unfolding after
  hold_is_sound cut step some_step allowed sub x y start n = elim (sub.starts x y (with_hold_start cut x y start) n) [
    | inl ag ↦ inl (agree f f.binary_start f.source_start f.premise f.binary_bounds f.source_bounds (f.holds ++ cut ∷ []) n x y ag)
    | inr met ↦ at_hold met
  ]
    where
      -- the source may have taken no step: then it starts at the cut
      source_again : (u : ℕ) → f.source.at cut.source (after f.source u y) ≡ true → All (Passes source_leads cut.source cut.source) (source_marks f)
      source_again zero there =
          subst (λ (p : ℕ). All (Passes source_leads p cut.source) (source_marks f)) (source_laws.one_node f.source_start cut.source y start.source_at there) allowed.source
      source_again (suc u) there =
          again source_laws.leads_on f.source_start cut.source (source_laws.led f.source_start cut.source u y start.source_at there) (source_marks f) allowed.source

      at_hold : IsHeld (with_hold f cut) x y → Agree f n x y ⊎ IsHeld f x y
      at_hold (held h among t u some going_x going_y at_x at_y related) = elim (Contains-push_cases f.holds cut h among) [
        | inl old ↦ inr (held h old t u some going_x going_y at_x at_y related)
        | inr new ↦
            let there_x : f.binary.at cut.binary (after f.binary t x) ≡ true = subst (λ (z : Hold A C). f.binary.at z.binary (after f.binary t x) ≡ true) (sym new) at_x in
            let there_y : f.source.at cut.source (after f.source u y) ≡ true = subst (λ (z : Hold A C). f.source.at z.source (after f.source u y) ≡ true) (sym new) at_y in
            let way_x = passes f.binary binary_laws (binary_marks f) f.binary_start cut.binary t x counted.binary start.binary_at there_x allowed.binary going_x in
            let way_y = passes f.source source_laws (source_marks f) f.source_start cut.source u y counted.source start.source_at there_y allowed.source going_y in
            later f n n t u x y way_x way_y (omega arith) (omega arith)
            (loop cut step some_step
            (again binary_laws.leads_on f.binary_start cut.binary (leads_there f.binary binary_laws f.binary_start cut.binary t x some start.binary_at there_x) (binary_marks f) allowed.binary)
            (source_again u there_y) sub.steps n (after f.binary t x) (after f.source u y) (reached_later t u x y way_y (started x y start)) there_x there_y
            (subst (λ (z : Hold A C). IsRelated z.relation (after f.binary t x) (after f.source u y)) (sym new) related))
      ]

module _ {A C : Type 0} (f : Frame A C) (fine_binary : A → Type 0) (fine_source : C → Type 0) where
  pub wait_is_sound : (hold : Hold A C) → Waits f fine_binary fine_source hold → Simulates f fine_binary fine_source
  unfolding after
  wait_is_sound hold waits x y start n =
      let comes = waits.comes x y start in
      let there : f.source.at hold.source y ≡ true = subst (λ (p : ℕ). f.source.at p y ≡ true) (sym waits.source_there) start.source_at in
      inr (held hold waits.is_open comes.0 0 comes.1 comes.2 (λ k less. absurd (omega arith)) comes.3 there comes.4)

-- ---- properties of states

module _ {S : Type 0} (w : TransitionSystem S) where
  pub fine_on : {leads lands : ℕ → ℕ → Type 0} {fine : S → Type 0} {count : ℕ} → IsTransitionSystem w leads lands fine count
      → (always : ℕ → S → Bool) (s : S) → IsFine w fine always s → IsFine w fine always (w.step s)
  fine_on laws always s is = record { kept = laws.fine_stays s is.kept; held = always_kept w always s is.held }
