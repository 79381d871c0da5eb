-- Transition systems over any type of states, and their runs.
use Rattle.std.specs.Prelude.{◌≡◌, ℕ, ◌<◌, ◌≤◌, ◌||◌, nat_le, Bool, true, false, if◌then◌else◌, zero, suc, List, [], ◌∷◌, ◌-◌, map, All}
use Rattle.graph_core_spec.specs.declared.Mark.{Mark}

-- a deterministic system with numbered nodes. An ended state, which has returned or failed, steps to itself.
-- A state is at a node only between calls: inside a call, and at an end, it is at none
pub record TransitionSystem (S : Type 0) : Type 0 where
  pub step : S → S
  pub returned : S → Bool
  pub failed : S → Bool
  pub at : ℕ → S → Bool

module _ {S : Type 0} (w : TransitionSystem S) where
  -- ---- runs

  -- the state of a run after a number of steps
  unfoldable pub after : ℕ → S → S
  after zero s = s
  after (suc k) s = after k (w.step s)

  -- one more, where the test holds
  abbrev pub tick : Bool → ℕ → ℕ
  tick test count = if test then suc count else count

  -- how often a run arrives at a node in so many steps; where it starts is no arrival
  unfoldable pub arrivals : ℕ → ℕ → S → ℕ
  arrivals n zero s = 0
  arrivals n (suc k) s = tick (w.at n (w.step s)) (arrivals n k (w.step s))

-- each counts at least one arrival
abbrev pub AreCounted : List Mark → Type 0
AreCounted marks = All (λ m. 1 ≤ m.count) marks

module _ {S : Type 0} (w : TransitionSystem S) where
  -- ---- stops: a run stops where it returns, or at the first moment at which it has arrived at the node of some
  -- mark as often as that mark counts

  -- the run has arrived often enough at the node of some mark
  unfoldable pub reached : List Mark → ℕ → S → Bool
  reached [] k s = false
  reached (m ∷ ms) k s = nat_le m.count (arrivals w m.node k s) || reached ms k s

  -- the run has stopped, at the latest after so many steps
  abbrev pub stopped : List Mark → ℕ → S → Bool
  stopped ms k s = w.returned (after w k s) || reached ms k s

  -- the run stops after exactly so many steps
  pub record StopsAt (ms : List Mark) (t : ℕ) (s : S) : Type 0 where
    pub now : stopped ms t s ≡ true
    pub before : (k : ℕ) → k < t → stopped ms k s ≡ false

  -- what is left of the marks after so many steps
  abbrev pub marks_left : List Mark → ℕ → S → List Mark
  marks_left ms t s = map (λ (m : Mark). record m { count = m.count - arrivals w m.node t s }) ms

  -- up to its stop, and within so many steps, the run does not fail
  abbrev pub IsSafe : List Mark → ℕ → S → Type 0
  IsSafe ms n s = (k : ℕ) → k ≤ n → stopped ms k s ≡ false → w.failed (after w k s) ≡ false

  -- before its stop, and within so many steps, the run arrives at the node of each bound less often than the
  -- bound counts. Where one arrival is the stop and would break a bound, the stop comes first
  abbrev pub KeepsBounds : List Mark → List Mark → ℕ → S → Type 0
  KeepsBounds ms bounds n s = (k : ℕ) → k ≤ n → stopped ms k s ≡ false → All (λ b. arrivals w b.node k s < b.count) bounds

-- ---- properties of states

module _ {S : Type 0} (w : TransitionSystem S) where
  -- the tests hold of the state, and of its run after every number of steps: a property that steps keep, whatever
  -- the tests are. A family of tests is indexed by an address, at which it looks at the state's memory
  abbrev pub Always : (ℕ → S → Bool) → S → Type 0
  Always test s = (k address : ℕ) → test address (after w k s) ≡ true

-- ---- what each transition system owes

-- `leads m n` says that a run may come from node m, in one step or more, to node n; `lands m n` that m is the
-- node of a call whose run continues at the landing node n; `fine` is a property of states that steps keep;
-- nodes are numbered below `count`
pub record IsTransitionSystem {S : Type 0} (w : TransitionSystem S) (leads lands : ℕ → ℕ → Type 0) (fine : S → Type 0) (count : ℕ) : Type 0 where
  pub returned_stays : (s : S) → w.returned s ≡ true → w.step s ≡ s
  pub failed_stays : (s : S) → w.failed s ≡ true → w.step s ≡ s
  pub one_end : (s : S) → w.returned s ≡ true → w.failed s ≡ false
  pub no_end : (n : ℕ) (s : S) → w.at n s ≡ true → (w.returned s ≡ false) × (w.failed s ≡ false)
  pub one_node : (m n : ℕ) (s : S) → w.at m s ≡ true → w.at n s ≡ true → m ≡ n
  pub numbered : (n : ℕ) (s : S) → fine s → w.at n s ≡ true → n < count
  pub fine_stays : (s : S) → fine s → fine (w.step s)
  pub leads_on : (m n o : ℕ) → leads m n → leads n o → leads m o
  pub led : (m n k : ℕ) (s : S) → w.at m s ≡ true → w.at n (after w (suc k) s) ≡ true → leads m n
  pub landed : (m l n k : ℕ) (s : S) → lands m l → w.at m s ≡ true → w.at n (after w (suc k) s) ≡ true
      → ((j : ℕ) → j < k → w.at l (after w (suc j) s) ≡ false) → n ≡ l
