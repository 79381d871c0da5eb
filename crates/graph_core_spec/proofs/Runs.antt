-- Laws of runs.
use Rattle.std.proofs.Common.{◌≡◌, ◌∙◌, ◌⊎◌, ℕ, ◌+◌, ◌≤◌, zero, suc, Bool, true, false, nat_le, List, [], ◌∷◌, refl, sym, ap, ap₂, inl, inr, arith, ◌-◌, ◌||◌}
use Rattle.std.proofs.lemmas.List.Elements.{All-head, All-tail}
use Rattle.std.proofs.lemmas.Bool.{or_cases, or_left, or_right, leb-true, le-leb, cases_order, false_from_ne_true, cases_lt, lt-leb}
use Rattle.graph_core_spec.specs.TransitionSystem.{TransitionSystem, IsTransitionSystem, AreCounted, Always, after, arrivals, tick, reached, stopped, marks_left, StopsAt}
use Rattle.graph_core_spec.specs.declared.Mark.{Mark}

module _ {S : Type 0} (w : TransitionSystem S) where
  -- a run continues from its state as any run from there
  pub after-add : (j k : ℕ) (s : S) → after w (j + k) s ≡ after w k (after w j s)
  unfolding after
  after-add zero k s = let e : zero + k ≡ k = omega arith in ap (λ (n : ℕ). after w n s) e
  after-add (suc j) k s = let e : suc j + k ≡ suc (j + k) = omega arith in ap (λ (n : ℕ). after w n s) e ∙ after-add j k (w.step s)

  -- one more step, at the end
  pub after-suc : (k : ℕ) (s : S) → after w (suc k) s ≡ w.step (after w k s)
  unfolding after
  after-suc zero s = refl
  after-suc (suc k) s = after-suc k (w.step s)

  -- arrivals of two parts of a run add up
  pub arrivals-add : (n j k : ℕ) (s : S) → arrivals w n (j + k) s ≡ arrivals w n j s + arrivals w n k (after w j s)
  unfolding after arrivals
  arrivals-add n zero k s = let e : zero + k ≡ k = omega arith in ap (λ (m : ℕ). arrivals w n m s) e ∙ (omega arith)
  arrivals-add n (suc j) k s =
      let e : suc j + k ≡ suc (j + k) = omega arith in
      ap (λ (m : ℕ). arrivals w n m s) e ∙ tick_both (w.at n (w.step s)) (arrivals w n (j + k) (w.step s)) (arrivals w n j (w.step s)) (arrivals w n k (after w j (w.step s))) (arrivals-add n j k (w.step s))
    where
      tick_both : (test : Bool) (a b c : ℕ) → a ≡ b + c → tick w test a ≡ tick w test b + c
      tick_both true a b c e = omega arith
      tick_both false a b c e = e

  pub still : (s : S) → w.step s ≡ s → (k : ℕ) → after w k s ≡ s
  unfolding after
  still s e zero = refl
  still s e (suc k) = ap (λ (x : S). after w k x) e ∙ still s e k

  -- ---- what has happened stays so

  pub reached_on : (ms : List Mark) (j k : ℕ) (s : S) → reached w ms j s ≡ true → reached w ms (j + k) s ≡ true
  unfolding reached
  reached_on [] j k s h = let bad : false ≡ true = h in cc
  reached_on (m ∷ ms) j k s h = elim (or_cases (nat_le m.count (arrivals w m.node j s)) (reached w ms j s) h) [
    | inl here ↦
        let before : m.count ≤ arrivals w m.node j s = leb-true _ _ here in
        let sum = arrivals-add m.node j k s in
        or_left _ (reached w ms (j + k) s) (le-leb m.count (arrivals w m.node (j + k) s) (omega arith))
    | inr later ↦ or_right (nat_le m.count (arrivals w m.node (j + k) s)) _ (reached_on ms j k s later)
  ]

  module _ (returned_stays : (s : S) → w.returned s ≡ true → w.step s ≡ s) where
    pub returned_on : (j k : ℕ) (s : S) → w.returned (after w j s) ≡ true → w.returned (after w (j + k) s) ≡ true
    returned_on j k s h = ap w.returned (after-add j k s ∙ still (after w j s) (returned_stays _ h) k) ∙ h

    pub stopped_on : (ms : List Mark) (j k : ℕ) (s : S) → stopped w ms j s ≡ true → stopped w ms (j + k) s ≡ true
    stopped_on ms j k s h = elim (or_cases (w.returned (after w j s)) (reached w ms j s) h) [
      | inl here ↦ or_left _ (reached w ms (j + k) s) (returned_on j k s here)
      | inr there ↦ or_right (w.returned (after w (j + k) s)) _ (reached_on ms j k s there)
    ]

  -- a run stops as its rest does, at what is left of the marks
  pub reached-add : (ms : List Mark) (t j : ℕ) (s : S) → reached w ms (t + j) s ≡ reached w (marks_left w ms t s) j (after w t s)
  unfolding reached
  reached-add [] t j s = refl
  reached-add (m ∷ ms) t j s = ap₂ (λ (a b : Bool). a || b) (one_mark m.count (arrivals w m.node (t + j) s) (arrivals w m.node t s) (arrivals w m.node j (after w t s)) (arrivals-add m.node t j s)) (reached-add ms t j s)
    where
      one_mark : (count all first then : ℕ) → all ≡ first + then → nat_le count all ≡ nat_le (count - first) then
      one_mark count all first then e = elim (cases_lt all count) [
        | inl less ↦ lt-leb count all less ∙ sym (lt-leb (count - first) then (omega arith))
        | inr enough ↦ le-leb count all enough ∙ sym (le-leb (count - first) then (omega arith))
      ]

  pub stopped-add : (ms : List Mark) (t j : ℕ) (s : S) → stopped w ms (t + j) s ≡ stopped w (marks_left w ms t s) j (after w t s)
  stopped-add ms t j s = ap₂ (λ (a b : Bool). a || b) (ap w.returned (after-add t j s)) (reached-add ms t j s)

  -- ---- the start is no stop

  not_reached_at_once : (ms : List Mark) (s : S) → AreCounted ms → reached w ms 0 s ≡ false
  unfolding reached arrivals
  not_reached_at_once [] s counted = refl
  not_reached_at_once (m ∷ ms) s counted =
      ap₂ (λ (a b : Bool). a || b) (lt-leb m.count 0 (omega (arith, All-head (λ (x : Mark). 1 ≤ x.count) m ms counted)))
      (not_reached_at_once ms s (All-tail (λ (x : Mark). 1 ≤ x.count) m ms counted))

  -- where each mark counts at least one arrival, a run that hasn't returned does not stop at its start
  pub not_stopped_at_once : (ms : List Mark) (s : S) → AreCounted ms → w.returned s ≡ false → stopped w ms 0 s ≡ false
  unfolding after
  not_stopped_at_once ms s counted runs = ap₂ (λ (a b : Bool). a || b) runs (not_reached_at_once ms s counted)

  -- ---- what always holds

  pub always_kept : (test : ℕ → S → Bool) (s : S) → Always w test s → Always w test (w.step s)
  unfolding after
  always_kept test s always = λ k address. always (suc k) address

  -- a run stops at one moment
  pub stops_once : (ms : List Mark) (t u : ℕ) (s : S) → StopsAt w ms t s → StopsAt w ms u s → t ≡ u
  stops_once ms t u s a b = elim (cases_order t u) [
    | inl same ↦ same
    | inr apart ↦ elim apart [
      | inl less ↦ let not_yet = b.before t less in absurd (true_is_not_false (sym a.now ∙ not_yet))
      | inr more ↦ let not_yet = a.before u more in absurd (true_is_not_false (sym b.now ∙ not_yet))
    ]
  ]
    where
      true_is_not_false : true ≡ false → ⊥
      true_is_not_false e = cc

  -- ---- where a run has ended

  module _ {leads lands : ℕ → ℕ → Type 0} {fine : S → Type 0} {count : ℕ} (laws : IsTransitionSystem w leads lands fine count) where
    pub not_at_end : (n : ℕ) (s : S) → (w.returned s ≡ true) ⊎ (w.failed s ≡ true) → w.at n s ≡ false
    not_at_end n s (inl end) = false_from_ne_true _ (λ here. let runs = (laws.no_end n s here).0 in absurd (differ end runs))
      where
        differ : {b : Bool} → b ≡ true → b ≡ false → ⊥
        differ x y = cc
    not_at_end n s (inr end) = false_from_ne_true _ (λ here. let runs = (laws.no_end n s here).1 in absurd (differ end runs))
      where
        differ : {b : Bool} → b ≡ true → b ≡ false → ⊥
        differ x y = cc

    pub stays_at_end : (s : S) → (w.returned s ≡ true) ⊎ (w.failed s ≡ true) → (k : ℕ) → after w k s ≡ s
    stays_at_end s (inl end) k = still s (laws.returned_stays s end) k
    stays_at_end s (inr end) k = still s (laws.failed_stays s end) k

    -- an ended run arrives nowhere
    pub no_arrivals : (n k : ℕ) (s : S) → (w.returned s ≡ true) ⊎ (w.failed s ≡ true) → arrivals w n k s ≡ 0
    unfolding arrivals
    no_arrivals n zero s end = refl
    no_arrivals n (suc k) s end =
        let same : w.step s ≡ s = steps_to_itself end in
        let here : w.at n (w.step s) ≡ false = ap (w.at n) same ∙ not_at_end n s end in
        let later : arrivals w n k (w.step s) ≡ 0 = ap (λ (x : S). arrivals w n k x) same ∙ no_arrivals n k s end in
        ap₂ (λ (test : Bool) (rest : ℕ). tick w test rest) here later
      where
        steps_to_itself : (w.returned s ≡ true) ⊎ (w.failed s ≡ true) → w.step s ≡ s
        steps_to_itself (inl e) = laws.returned_stays s e
        steps_to_itself (inr e) = laws.failed_stays s e

    pub stays_fine : (k : ℕ) (s : S) → fine s → fine (after w k s)
    unfolding after
    stays_fine zero s h = h
    stays_fine (suc k) s h = stays_fine k (w.step s) (laws.fine_stays s h)
