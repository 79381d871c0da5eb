-- A simulation without goals: neither side stops but by its return.
use Rattle.std.proofs.Common.{◌≡◌, ◌∙◌, ℕ, ◌+◌, ◌-◌, ◌<◌, zero, suc, Bool, true, false, [], refl, sym, ap, subst, inl, inr, arith}
use Rattle.std.proofs.lemmas.Bool.{or_cases, or_left, false_from_ne_true}
use Rattle.graph_core_spec.specs.TransitionSystem.{TransitionSystem, after, reached, stopped, StopsAt}
use Rattle.graph_core_spec.specs.Simulation.{Frame, Simulates, IsStart, IsRelated, Agree, EndsAlike, held, both_return, both_arrive}
use Rattle.graph_core_spec.proofs.Runs.{returned_on, still, after-add}
use Rattle.path_cond_spec.proofs.Edges.{contains_none}

module _ {S : Type 0} (w : TransitionSystem S) (stays : (s : S) → w.returned s ≡ true → w.step s ≡ s) where
  -- without marks the run stops where it returns
  pub stops_back : (k : ℕ) (s : S) → stopped w [] k s ≡ true → w.returned (after w k s) ≡ true
  unfolding reached
  stops_back k s h = elim (or_cases (w.returned (after w k s)) false h) [ inl e ↦ e | inr e ↦ absurd (let bad : false ≡ true = e in cc) ]

  pub back_stops : (k : ℕ) (s : S) → w.returned (after w k s) ≡ true → stopped w [] k s ≡ true
  back_stops k s h = or_left (w.returned (after w k s)) (reached w [] k s) h

  pub not_back : (k : ℕ) (s : S) → w.returned (after w k s) ≡ false → stopped w [] k s ≡ false
  not_back k s h = false_from_ne_true (stopped w [] k s) (λ bad. let both : false ≡ true = sym h ∙ stops_back k s bad in cc)

  not_earlier : (t : ℕ) (s : S) → w.returned (after w t s) ≡ false → (k : ℕ) → k < suc t → w.returned (after w k s) ≡ false
  not_earlier t s e k less = false_from_ne_true (w.returned (after w k s)) (λ bad.
      let there : k + (t - k) ≡ t = omega arith in
      let still_back = subst (λ (n : ℕ). w.returned (after w n s) ≡ true) there (returned_on w stays k (t - k) s bad) in
      let both : false ≡ true = sym e ∙ still_back in cc)

  -- a run that has returned stops at some time, and is the same from then on
  pub first_back : (t : ℕ) (s : S) → w.returned (after w t s) ≡ true → (first : ℕ) × StopsAt w [] first s × (after w t s ≡ after w first s)
  first_back zero s h = (zero, record { now = back_stops zero s h; before = λ k less. absurd (omega arith) }, refl)
  first_back (suc t) s h = by (w.returned (after w t s)) refl (first_back t s)
    where
      by : (b : Bool) → w.returned (after w t s) ≡ b
          → (w.returned (after w t s) ≡ true → (first : ℕ) × StopsAt w [] first s × (after w t s ≡ after w first s))
          → (first : ℕ) × StopsAt w [] first s × (after w (suc t) s ≡ after w first s)
      by true e before =
          let earlier = before e in
          let one : suc t ≡ t + 1 = omega arith in
          (earlier.0, earlier.1, ap (λ (n : ℕ). after w n s) one ∙ after-add w t 1 s ∙ still w (after w t s) (stays (after w t s) e) 1 ∙ earlier.2)
      by false e before = (suc t, record { now = back_stops (suc t) s h; before = λ k less. not_back k s (not_earlier t s e k less) }, refl)

module _ {A C : Type 0} (binary : TransitionSystem A) (source : TransitionSystem C) (binary_start source_start : ℕ) (premise returns : ℕ → A → C → Bool) where
  -- from a start to the returns
  abbrev pub whole : Frame A C
  whole = record {
    binary = binary;
    source = source;
    binary_start = binary_start;
    source_start = source_start;
    premise = premise;
    returns = returns;
    goals = [];
    binary_bounds = [];
    source_bounds = [];
    holds = [];
  }

  module _ (stays_a : (x : A) → binary.returned x ≡ true → binary.step x ≡ x) (stays_c : (y : C) → source.returned y ≡ true → source.step y ≡ y)
      (fine_a : A → Type 0) (fine_c : C → Type 0) (simulated : Simulates whole fine_a fine_c) (x : A) (y : C) (start : IsStart whole fine_a fine_c x y) where
    agree : (n : ℕ) → Agree whole n x y
    agree n = elim (simulated x y start n) [
      | inl here ↦ here
      | inr is_held ↦ elim is_held [ held h among t u less a c at_a at_c related ↦ absurd (contains_none h among) ]
    ]

    -- the binary never fails
    pub safe : (one_end : (s : A) → binary.failed s ≡ true → binary.returned s ≡ false) → (t : ℕ) → binary.failed (after binary t x) ≡ false
    safe one_end t = false_from_ne_true (binary.failed (after binary t x)) (λ bad.
        let fine = (agree t).safe t (omega arith) (not_back binary stays_a t x (one_end (after binary t x) bad)) in
        let both : false ≡ true = sym fine ∙ bad in cc)

    ends : (v : A) (z : C) → EndsAlike whole v z → (source.returned z ≡ true) × (binary.returned v ≡ true) × IsRelated returns v z
    ends v z (both_return a c related) = (c, a, related)
    ends v z (both_arrive g among a c related) = absurd (contains_none g among)

    -- where the binary returns, so does the source
    pub forth : (t : ℕ) → binary.returned (after binary t x) ≡ true
        → (u : ℕ) × (source.returned (after source u y) ≡ true) × IsRelated returns (after binary t x) (after source u y)
    forth t h =
        let first = first_back binary stays_a t x h in
        let there = (agree first.0).forth first.0 (omega arith) first.1 in
        let all = ends _ _ there.2 in
        (there.0, all.0, subst (λ (v : A). IsRelated returns v (after source there.0 y)) (sym first.2) all.2)

    -- where the source returns, so does the binary
    pub back : (u : ℕ) → source.returned (after source u y) ≡ true
        → (t : ℕ) × (binary.returned (after binary t x) ≡ true) × IsRelated returns (after binary t x) (after source u y)
    back u h =
        let first = first_back source stays_c u y h in
        let there = (agree first.0).back first.0 (omega arith) first.1 in
        let all = ends _ _ there.2 in
        (there.0, all.1, subst (λ (z : C). IsRelated returns (after binary there.0 x) z) (sym first.2) all.2)
