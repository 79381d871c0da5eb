-- The first moments at which two runs that end alike return.
use Rattle.std.proofs.Common.{◌≡◌, ◌∙◌, inl, inr, ℕ, ◌+◌, ◌-◌, ◌≤◌, zero, suc, Bool, true, false, refl, sym, ap, arith, []}
use Rattle.std.specs.Prelude.{◌||◌}
use Rattle.std.proofs.lemmas.Bool.{cases_Bool, cases_lt}
use Rattle.term_core_spec.specs.Value.{Assignment}
use Rattle.graph_core_spec.specs.TransitionSystem.{after, reached, stopped, StopsAt, IsSafe}
use Rattle.graph_core_spec.specs.Run.{State, Running, Returned, Failed, step, has_returned, has_failed}
use Rattle.graph_core_spec.proofs.Runs.{after-add, still}
use Rattle.graph_inline_spec.proofs.Naming.{clash}
use Rattle.proof_tree_spec.specs.Frames.{Side}
use Rattle.sim_rules_spec.specs.Systems.{system_at}
use Rattle.sim_inline_laws.specs.Runs.{SameOfFunction, EndAlike}

-- ---- states

pub is_returned : (s : State) → has_returned s ≡ true → (values : Assignment) × (s ≡ Returned values)
is_returned (Running g n values below) e = absurd (let bad : false ≡ true = e in cc)
is_returned (Returned values) e = (values, refl)
is_returned Failed e = absurd (let bad : false ≡ true = e in cc)

pub is_failed : (s : State) → has_failed s ≡ true → s ≡ Failed
is_failed (Running g n values below) e = absurd (let bad : false ≡ true = e in cc)
is_failed (Returned values) e = absurd (let bad : false ≡ true = e in cc)
is_failed Failed e = refl

-- ---- a run without marks stops where it returns

module _ (side : Side) (s : State) where
  abbrev run : ℕ → State
  run k = after (system_at side) k s

  stopped_is : (k : ℕ) → stopped (system_at side) [] k s ≡ has_returned (run k)
  unfolding reached
  stopped_is k = by (has_returned (run k))
    where
      by : (b : Bool) → (b || false) ≡ b
      by true = refl
      by false = refl

  pub not_stopped : (k : ℕ) → run k ≡ Failed → stopped (system_at side) [] k s ≡ false
  not_stopped k e = stopped_is k ∙ ap has_returned e

  -- what has returned stays so
  later : (j k : ℕ) (values : Assignment) → run j ≡ Returned values → run (j + k) ≡ Returned values
  unfolding step
  later j k values e = after-add (system_at side) j k s ∙ (ap (after (system_at side) k) e ∙ still (system_at side) (Returned values) refl k)

  -- two moments at which it has returned are of the same state
  pub one_return : (i j : ℕ) (a b : Assignment) → run i ≡ Returned a → run j ≡ Returned b → Returned a ≡ Returned b
  one_return i j a b x y = elim (cases_lt i j) [
    | inl less ↦ let e : i + (j - i) ≡ j = omega (arith, less) in sym (later i (j - i) a x) ∙ (ap run e ∙ y)
    | inr more ↦ let e : j + (i - j) ≡ i = omega (arith, more) in sym x ∙ (sym (ap run e) ∙ later j (i - j) b y)
  ]

  pub record FirstReturn (values : Assignment) : Type 0 where
    pub moment : ℕ
    pub stops : StopsAt (system_at side) [] moment s
    pub is : run moment ≡ Returned values

  not_before : (j k : ℕ) → has_returned (run j) ≡ false → k ≤ j → has_returned (run k) ≡ false
  not_before j k not_yet within = elim (cases_Bool (has_returned (run k))) [
    | inl returned ↦
        let (values, is) = is_returned (run k) returned in
        let e : k + (j - k) ≡ j = omega (arith, within) in
        absurd (clash (ap has_returned (sym (ap run e) ∙ later k (j - k) values is)) not_yet)
    | inr none ↦ none
  ]

  first_by : (j : ℕ) (values : Assignment) → run j ≡ Returned values → FirstReturn values
  first_by zero values e = record {
    moment = 0;
    stops = record { now = stopped_is 0 ∙ ap has_returned e; before = λ k less. absurd (omega (arith, less)) };
    is = e;
  }
  first_by (suc j) values e = elim (cases_Bool (has_returned (run j))) [
    | inl returned ↦ let (others, is) = is_returned (run j) returned in first_by j values (is ∙ one_return j (suc j) others values is e)
    | inr not_yet ↦ record {
      moment = suc j;
      stops = record { now = stopped_is (suc j) ∙ ap has_returned e; before = λ k less. stopped_is k ∙ not_before j k not_yet (omega (arith, less)) };
      is = e;
    }
  ]

  pub first_return : (j : ℕ) (values : Assignment) → run j ≡ Returned values → FirstReturn values
  first_return j values e = first_by j values e

  -- where it stops it has returned
  pub stop_returns : (t : ℕ) → StopsAt (system_at side) [] t s → (values : Assignment) × (run t ≡ Returned values)
  stop_returns t stops = is_returned (run t) (sym (stopped_is t) ∙ stops.now)

-- ---- two runs

module _ (old new : Side) (x y : State) (ends : EndAlike old new x y) where
  -- where one stops the other does
  pub record Stops (values result : Assignment) : Type 0 where
    pub same : SameOfFunction values result
    pub old_first : FirstReturn old x values
    pub new_first : FirstReturn new y result

  pub old_stops : (t : ℕ) → StopsAt (system_at old) [] t x
      → (values : Assignment) × (after (system_at old) t x ≡ Returned values) × (result : Assignment) × Stops values result
  old_stops t stops =
      let (values, at) = stop_returns old x t stops in
      let (j, result, there, same) = ends.returns t values at in
      (values, at, result, record { same = same; old_first = first_return old x t values at; new_first = first_return new y j result there })

  pub new_stops : (t : ℕ) → StopsAt (system_at new) [] t y
      → (result : Assignment) × (after (system_at new) t y ≡ Returned result) × (values : Assignment) × Stops values result
  new_stops t stops =
      let (result, at) = stop_returns new y t stops in
      let (k, values, there, same) = ends.returns_only t result at in
      (result, at, values, record { same = same; old_first = first_return old x k values there; new_first = first_return new y t result at })

  pub old_safe : ((n : ℕ) → IsSafe (system_at new) [] n y) → (n : ℕ) → IsSafe (system_at old) [] n x
  old_safe safe n k within running = elim (cases_Bool (has_failed (after (system_at old) k x))) [
    | inl failed ↦
        let (j, at) = ends.fails k (is_failed (after (system_at old) k x) failed) in
        absurd (clash (ap has_failed at) (safe j j (omega arith) (not_stopped new y j at)))
    | inr none ↦ none
  ]

  pub new_safe : ((n : ℕ) → IsSafe (system_at old) [] n x) → (n : ℕ) → IsSafe (system_at new) [] n y
  new_safe safe n j within running = elim (cases_Bool (has_failed (after (system_at new) j y))) [
    | inl failed ↦
        let (k, at) = ends.fails_only j (is_failed (after (system_at new) j y) failed) in
        absurd (clash (ap has_failed at) (safe k k (omega arith) (not_stopped old x k at)))
    | inr none ↦ none
  ]
