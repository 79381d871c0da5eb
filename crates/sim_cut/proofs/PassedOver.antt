-- Frames over which no rule may cut.
use Rattle.std.proofs.Common.{◌≡◌, ◌∙◌, ℕ, zero, suc, ◌+◌, ◌-◌, ◌<◌, ◌==◌, ◌&&◌, Bool, true, false, List, [], ◌∷◌, refl, sym, ap, subst, inl, inr, arith}
use Rattle.std.proofs.lemmas.Bool.{eqb-true, and_parts, both_ways, cases_lt}
use Rattle.std.proofs.lemmas.List.Elements.{Contains-push_cases}
use Rattle.graph_core_spec.specs.TransitionSystem.{TransitionSystem, after, arrivals, reached, stopped, StopsAt, IsSafe, KeepsBounds}
use Rattle.graph_core_spec.specs.declared.Mark.{Mark}
use Rattle.graph_core_spec.specs.Simulation.{Frame, Goal, binary_marks, source_marks, EndsAlike, both_return, both_arrive, Agree, IsHeld, held, IsStart, Simulates}
use Rattle.graph_core_spec.proofs.Runs.{stops_once, stopped_on}
use Rattle.proof_tree_spec.specs.Cuts.{once, Passes, IsClear, goal_at, with_goal, from_cut, across, Splits, Calls}
use Rattle.sim_cut.specs.Examples.{always, any_state, both_at, fails_after_a_call, frame_of, mark, there_and_back}

-- ---- in general

-- two runs that stop and end alike agree, where the binary one doesn't fail before
agree_at : (f : Frame ℕ ℕ) (n t u x y : ℕ) → StopsAt f.binary (binary_marks f) t x → StopsAt f.source (source_marks f) u y
    → EndsAlike f (after f.binary t x) (after f.source u y) → IsSafe f.binary (binary_marks f) n x → Agree f n x y
agree_at f n t u x y stops_x stops_y ends safe = record {
  safe = safe;
  forth = λ i within stops. (
    u,
    stops_y,
    subst (λ (j : ℕ). EndsAlike f (after f.binary j x) (after f.source u y)) (stops_once f.binary (binary_marks f) t i x stops_x stops) ends,
  );
  back = λ i within stops. (
    t,
    stops_x,
    subst (λ (j : ℕ). EndsAlike f (after f.binary t x) (after f.source j y)) (stops_once f.source (source_marks f) u i y stops_y stops) ends,
  );
}

-- the states of which a simulation of such a frame speaks are known
known : (P : ℕ → ℕ → Type 0) (a x y : ℕ) → (x == a && y == a) ≡ true → P a a → P x y
known P a x y is p =
    let parts = and_parts (x == a) (y == a) is in
    subst (λ (i : ℕ). P i y) (sym (eqb-true x a parts.0)) (subst (λ (j : ℕ). P a j) (sym (eqb-true y a parts.1)) p)

-- where both stop at the only goal, there is no simulation
no_simulation : (w : TransitionSystem ℕ) (m : Mark) (t : ℕ) → w.at 0 0 ≡ true → IsStart (frame_of w m) any_state any_state 0 0 → StopsAt w (m ∷ []) t 0
    → w.returned (after w t 0) ≡ false → Simulates (frame_of w m) any_state any_state → ⊥
no_simulation w m t here start stops runs sim = elim (sim 0 0 start t) [
  | inl ag ↦ let met = ag.forth t (omega arith) stops in unlike met.0 met.2
  | inr hold ↦ not_held hold
]
  where
    not_held : IsHeld (frame_of w m) 0 0 → ⊥
    not_held (held h among t' u some going_x going_y at_x at_y related) = let none = among.1 in omega arith

    unlike : (u : ℕ) → EndsAlike (frame_of w m) (after w t 0) (after w u 0) → ⊥
    unlike u (both_return rx ry related) = both_ways _ runs rx
    unlike u (both_arrive g among at_x at_y related) =
        elim (Contains-push_cases [] (record { binary = m; source = m; relation = λ address x y. false }) g among) [
          | inl none ↦ let below = none.1 in omega arith
          | inr is ↦ let never = subst (λ (z : Goal ℕ ℕ). (address : ℕ) → z.relation address (after w t 0) (after w u 0) ≡ true) (sym is) related in both_ways false refl (never 0)
        ]

no_bounds : (w : TransitionSystem ℕ) (ms : List Mark) (n x : ℕ) → KeepsBounds w ms [] n x
no_bounds w ms n x = λ k within runs i d none. absurd (omega arith)

-- ---- a goal that counts arrivals before the cut

to_cut : (k : ℕ) → k < 2 → stopped there_and_back (mark 1 2 ∷ mark 2 1 ∷ []) k 0 ≡ false
unfolding after reached arrivals
to_cut zero less = refl
to_cut (suc zero) less = refl
to_cut (suc (suc k)) less = absurd (omega arith)

at_cut : StopsAt there_and_back (mark 1 2 ∷ mark 2 1 ∷ []) 2 0
unfolding after reached arrivals
at_cut = record { now = refl; before = to_cut }

from_there : (k : ℕ) → k < 2 → stopped there_and_back (mark 1 2 ∷ mark 2 1 ∷ []) k 2 ≡ false
unfolding after reached arrivals
from_there zero less = refl
from_there (suc zero) less = refl
from_there (suc (suc k)) less = absurd (omega arith)

at_return : StopsAt there_and_back (mark 1 2 ∷ mark 2 1 ∷ []) 2 2
unfolding after reached arrivals
at_return = record { now = refl; before = from_there }

to_goal : (k : ℕ) → k < 3 → stopped there_and_back (mark 1 2 ∷ []) k 0 ≡ false
unfolding after reached arrivals
to_goal zero less = refl
to_goal (suc zero) less = refl
to_goal (suc (suc zero)) less = refl
to_goal (suc (suc (suc k))) less = absurd (omega arith)

at_goal : StopsAt there_and_back (mark 1 2 ∷ []) 3 0
unfolding after reached arrivals
at_goal = record { now = refl; before = to_goal }

pub splits : Splits (frame_of there_and_back (mark 1 2)) any_state any_state always (both_at 2 2) once once
unfolding after
splits = record {
  enters = λ x y start n. inl (known (λ (i j : ℕ). Agree (with_goal (frame_of there_and_back (mark 1 2)) (goal_at (both_at 2 2) once)) n i j) 0 x y (start.premise 0)
      (agree_at (with_goal (frame_of there_and_back (mark 1 2)) (goal_at (both_at 2 2) once)) n 2 2 0 0 at_cut at_cut
      (both_arrive (goal_at (both_at 2 2) once) (1, omega arith, refl) refl refl (λ address. refl)) (λ k within runs. refl)));
  steps = λ x y start n. inl (known (λ (i j : ℕ). Agree (with_goal (from_cut (frame_of there_and_back (mark 1 2)) always (both_at 2 2)) (goal_at (both_at 2 2) once)) n i j) 2 x y (start.premise 0)
      (agree_at (with_goal (from_cut (frame_of there_and_back (mark 1 2)) always (both_at 2 2)) (goal_at (both_at 2 2) once)) n 2 2 2 2 at_return at_return
      (both_return refl refl (λ address. refl)) (λ k within runs. refl)));
}

pub not_split : Simulates (frame_of there_and_back (mark 1 2)) any_state any_state → ⊥
unfolding after
not_split = no_simulation there_and_back (mark 1 2) 3 refl (record {
  binary_at = refl;
  source_at = refl;
  premise = λ address. refl;
  binary_fine = tt;
  source_fine = tt;
  binary_kept = λ n. no_bounds there_and_back (mark 1 2 ∷ []) n 0;
  source_kept = λ n. no_bounds there_and_back (mark 1 2 ∷ []) n 0;
  source_safe = λ n k within runs. refl;
}) at_goal refl

-- ---- a goal at the landing node

to_call : (k : ℕ) → k < 1 → stopped fails_after_a_call (mark 2 1 ∷ mark 1 1 ∷ []) k 0 ≡ false
unfolding after reached arrivals
to_call zero less = refl
to_call (suc k) less = absurd (omega arith)

at_call : StopsAt fails_after_a_call (mark 2 1 ∷ mark 1 1 ∷ []) 1 0
unfolding after reached arrivals
at_call = record { now = refl; before = to_call }

to_landing : (k : ℕ) → k < 1 → stopped fails_after_a_call (mark 2 1 ∷ []) k 1 ≡ false
unfolding after reached arrivals
to_landing zero less = refl
to_landing (suc k) less = absurd (omega arith)

at_landing : StopsAt fails_after_a_call (mark 2 1 ∷ []) 1 1
unfolding after reached arrivals
at_landing = record { now = refl; before = to_landing }

to_its_goal : (k : ℕ) → k < 2 → stopped fails_after_a_call (mark 2 1 ∷ []) k 0 ≡ false
unfolding after reached arrivals
to_its_goal zero less = refl
to_its_goal (suc zero) less = refl
to_its_goal (suc (suc k)) less = absurd (omega arith)

at_its_goal : StopsAt fails_after_a_call (mark 2 1 ∷ []) 2 0
unfolding after reached arrivals
at_its_goal = record { now = refl; before = to_its_goal }

-- before it stops it is in the states 0 and 1
safe_until : (ms : List Mark) (s t n : ℕ) → StopsAt fails_after_a_call ms t s → ((k : ℕ) → k < t → fails_after_a_call.failed (after fails_after_a_call k s) ≡ false)
    → IsSafe fails_after_a_call ms n s
safe_until ms s t n stops alive k within runs = elim (cases_lt k t) [
  | inl less ↦ alive k less
  | inr past ↦
      let e : t + (k - t) ≡ k = omega arith in
      let on = stopped_on fails_after_a_call (λ z is. absurd (both_ways false refl is)) ms t (k - t) s stops.now in
      absurd (both_ways _ runs (sym (ap (λ (i : ℕ). stopped fails_after_a_call ms i s) e) ∙ on))
]

alive_from : (s k : ℕ) → s + k < 3 → fails_after_a_call.failed (after fails_after_a_call k s) ≡ false
unfolding after
alive_from zero zero less = refl
alive_from zero (suc zero) less = refl
alive_from zero (suc (suc zero)) less = refl
alive_from (suc zero) zero less = refl
alive_from (suc zero) (suc zero) less = refl
alive_from (suc (suc zero)) zero less = refl
alive_from s k less = absurd (omega arith)

-- from its landing node it fails before it stops, so nothing is said of that frame
fails_there : IsSafe fails_after_a_call (mark 2 1 ∷ []) 1 2 → ⊥
unfolding after reached arrivals
fails_there safe = both_ways _ (safe 1 (omega arith) refl) refl

pub calls : Calls (frame_of fails_after_a_call (mark 2 1)) any_state any_state always (both_at 1 1) (both_at 2 2)
unfolding after
calls = record {
  before = λ x y start n. inl (known (λ (i j : ℕ). Agree (with_goal (frame_of fails_after_a_call (mark 2 1)) (goal_at (both_at 1 1) once)) n i j) 0 x y (start.premise 0)
      (agree_at (with_goal (frame_of fails_after_a_call (mark 2 1)) (goal_at (both_at 1 1) once)) n 1 1 0 0 at_call at_call
      (both_arrive (goal_at (both_at 1 1) once) (1, omega arith, refl) refl refl (λ address. refl))
      (safe_until (mark 2 1 ∷ mark 1 1 ∷ []) 0 1 n at_call (λ k less. alive_from 0 k (omega arith)))));
  inner = λ x y start n. inl (known (λ (i j : ℕ). Agree (across (frame_of fails_after_a_call (mark 2 1)) always (both_at 1 1) (both_at 2 2)) n i j) 1 x y (start.premise 0)
      (agree_at (across (frame_of fails_after_a_call (mark 2 1)) always (both_at 1 1) (both_at 2 2)) n 1 1 1 1 at_landing at_landing
      (both_arrive (goal_at (both_at 2 2) once) (0, omega arith, refl) refl refl (λ address. refl))
      (safe_until (mark 2 1 ∷ []) 1 1 n at_landing (λ k less. alive_from 1 k (omega arith)))));
  later = λ x y start n.
      let parts = and_parts (x == 2) (y == 2) (start.premise 0) in
      absurd (fails_there (subst (λ (j : ℕ). IsSafe fails_after_a_call (mark 2 1 ∷ []) 1 j) (eqb-true y 2 parts.1) (start.source_safe 1)));
}

pub not_called : Simulates (frame_of fails_after_a_call (mark 2 1)) any_state any_state → ⊥
unfolding after
not_called = no_simulation fails_after_a_call (mark 2 1) 2 refl (record {
  binary_at = refl;
  source_at = refl;
  premise = λ address. refl;
  binary_fine = tt;
  source_fine = tt;
  binary_kept = λ n. no_bounds fails_after_a_call (mark 2 1 ∷ []) n 0;
  source_kept = λ n. no_bounds fails_after_a_call (mark 2 1 ∷ []) n 0;
  source_safe = λ n. safe_until (mark 2 1 ∷ []) 0 2 n at_its_goal (λ k less. alive_from 0 k (omega arith));
}) at_its_goal refl

-- ---- what is asked refuses both

pub passed_over : (leads : ℕ → ℕ → Bool) → leads 0 1 ≡ true → leads 1 2 ≡ true → Passes (λ m n. leads m n ≡ true) 0 2 (mark 1 2) → ⊥
passed_over leads to on pass = elim pass.ahead [
  | inl single ↦ omega arith
  | inr no_walk ↦ no_walk to on
]

pub not_clear : IsClear (frame_of fails_after_a_call (mark 2 1)) (both_at 2 2) → ⊥
not_clear clear = clear.binary 0 (mark 2 1) (omega arith) refl
