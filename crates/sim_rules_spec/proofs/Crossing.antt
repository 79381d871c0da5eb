-- Callees that agree give the simulation from their calls to the landing nodes.
use Rattle.std.proofs.Common.{◌≡◌, ◌∙◌, ◌⊎◌, ℕ, ◌+◌, ◌-◌, ◌<◌, ◌&&◌, ◌||◌, zero, suc, Bool, true, false, List, [], ◌∷◌, Option, refl, sym, ap, ap₂, subst, inl, inr, arith, eq-eqb}
use Rattle.std.specs.Prelude.{nat_le, is_some}
use Rattle.std.proofs.lemmas.Bool.{cases_Bool, cases_lt, both_ways, false≢true, or_right}
use Rattle.term_core_spec.specs.Value.{Assignment}
use Rattle.graph_core_spec.specs.TransitionSystem.{TransitionSystem, after, arrivals, tick, stopped, reached, StopsAt}
use Rattle.graph_core_spec.specs.declared.Mark.{Mark}
use Rattle.graph_core_spec.specs.Simulation as systems
use Rattle.graph_core_spec.specs.Simulation.{IsStart, Agree, EndsAlike, both_arrive, IsRelated, Simulates}
use Rattle.graph_core_spec.proofs.Runs.{after-suc, arrivals-add, stopped_on, stops_once}
use Rattle.graph_core_spec.specs.Graph.{Binding, Graph, node_at}
use Rattle.graph_core_spec.specs.Run.{Waiting, State, Running, Returned, Failed, act, enter, entered, resumed, step, is_at, has_returned, has_failed, system_of, with_waiting}
use Rattle.graph_core_spec.proofs.Callees.{after-with_waiting}
use Rattle.path_cond_spec.proofs.Edges.{contains_head}
use Rattle.proof_tree_spec.specs.Cuts.{across, goal_at, once}
use Rattle.proof_tree_spec.specs.Frames.{Side, Frame}
use Rattle.sim_rules_spec.specs.Points.{Convention}
use Rattle.sim_rules_spec.specs.Systems.{Relation, frame_over}
use Rattle.sim_rules_spec.specs.Crossing.{IsCallAt, begins, IsReturn, CalleesAgree}
use Rattle.sim_rules_spec.proofs.Goals.{returned_still}
use Rattle.sim_rules_spec.proofs.Start.{running_at}

-- ---- one side

module _ (side : Side) (n : ℕ) (inputs outputs : List Binding) (landing : ℕ) (is : IsCallAt side n inputs outputs landing) (x : Assignment) where
  abbrev pub w : TransitionSystem State
  w = system_of side.graphs side.outermost

  abbrev pub start : State
  start = Running side.outermost n x []

  abbrev waiting : List Waiting
  waiting = record { graph = side.outermost; call = n; landing = landing; outputs = outputs; values = x } ∷ []

  abbrev pub first : State
  first = begins side n inputs outputs landing is x

  abbrev pub back : Assignment → State
  back r = Running side.outermost landing (resumed outputs r x) []

  abbrev pub marks : List Mark
  marks = record { node = landing; count = 1 } ∷ []

  -- so long the callee has not returned
  abbrev Runs : ℕ → Type 0
  Runs k = (j : ℕ) → j < k → has_returned (after w j first) ≡ false

  first_step : step side.graphs start ≡ with_waiting waiting first
  unfolding step
  first_step =
      ap (act side.graphs side.outermost n x []) is.here
      ∙ ap (λ (g : Option Graph). enter is.callee g (entered inputs x) waiting) is.there

  inside : (k : ℕ) → Runs k → after w (suc k) start ≡ with_waiting waiting (after w k first)
  unfolding after
  inside k runs = ap (λ (s : State). after w k s) first_step ∙ after-with_waiting side.graphs waiting side.outermost k first runs

  nowhere : (s : State) → has_returned s ≡ false → is_at side.graphs side.outermost landing (with_waiting waiting s) ≡ false
  nowhere (Running g k values []) h = refl
  nowhere (Running g k values (f ∷ below)) h = refl
  nowhere (Returned values) h = absurd (false≢true (sym h))
  nowhere Failed h = refl

  not_back : (s : State) → has_returned s ≡ false → has_returned (with_waiting waiting s) ≡ false
  not_back (Running g k values below) h = refl
  not_back (Returned values) h = absurd (false≢true (sym h))
  not_back Failed h = refl

  fails_too : (s : State) → has_returned s ≡ false → has_failed (with_waiting waiting s) ≡ has_failed s
  fails_too (Running g k values below) h = refl
  fails_too (Returned values) h = absurd (false≢true (sym h))
  fails_too Failed h = refl

  one_more : (k : ℕ) → arrivals w landing (suc k) start ≡ arrivals w landing k start + tick w (is_at side.graphs side.outermost landing (after w (suc k) start)) 0
  unfolding arrivals
  one_more k =
      let same : suc k ≡ k + 1 = omega arith in
      ap (λ (t : ℕ). arrivals w landing t start) same ∙ arrivals-add w landing k 1 start
      ∙ ap (λ (s : State). arrivals w landing k start + tick w (is_at side.graphs side.outermost landing s) 0) (sym (after-suc w k start))

  none : (k : ℕ) → Runs k → arrivals w landing k start ≡ 0
  unfolding arrivals
  none zero runs = refl
  none (suc k) runs =
      let before : Runs k = λ j less. runs j (omega arith) in
      let away : is_at side.graphs side.outermost landing (after w (suc k) start) ≡ false =
      ap (λ (s : State). is_at side.graphs side.outermost landing s) (inside k before) ∙ nowhere (after w k first) (runs k (omega arith)) in
      one_more k ∙ ap₂ (λ (i : ℕ) (b : Bool). i + tick w b 0) (none k before) away

  unreached : (k : ℕ) → Runs k → reached w marks k start ≡ false
  unfolding reached
  unreached k runs = ap (λ (i : ℕ). nat_le 1 i || false) (none k runs)

  pub runs_on : (k : ℕ) → Runs k → stopped w marks k start ≡ false
  unfolding after
  runs_on zero runs = unreached zero runs
  runs_on (suc k) runs =
      let before : Runs k = λ j less. runs j (omega arith) in
      ap (λ (b : Bool). b || reached w marks (suc k) start)
      (ap has_returned (inside k before) ∙ not_back (after w k first) (runs k (omega arith)))
      ∙ unreached (suc k) runs

  pub comes_back : (t : ℕ) (r : Assignment) → IsReturn side.graphs side.outermost first t r → after w (suc t) start ≡ back r
  comes_back t r ret = inside t ret.before ∙ ap (with_waiting waiting) ret.now

  pub is_back : (r : Assignment) → is_at side.graphs side.outermost landing (back r) ≡ true
  is_back r = ap₂ (λ (p q : Bool). p && (q && is_some (node_at side.graphs side.outermost landing))) (eq-eqb side.outermost side.outermost refl) (eq-eqb landing landing refl) ∙ is.lands

  pub stops_back : (t : ℕ) (r : Assignment) → IsReturn side.graphs side.outermost first t r → StopsAt w marks (suc t) start
  unfolding reached
  stops_back t r ret =
      let there : is_at side.graphs side.outermost landing (after w (suc t) start) ≡ true =
      ap (λ (s : State). is_at side.graphs side.outermost landing s) (comes_back t r ret) ∙ is_back r in
      let once_there : arrivals w landing (suc t) start ≡ 1 = one_more t ∙ ap₂ (λ (i : ℕ) (b : Bool). i + tick w b 0) (none t ret.before) there in
      record {
        now = or_right (has_returned (after w (suc t) start)) (reached w marks (suc t) start) (ap (λ (i : ℕ). nat_le 1 i || false) once_there);
        before = λ k less. runs_on k (λ j before. ret.before j (omega (arith, less, before)));
      }

  -- ---- whether it returns in so many steps

  abbrev Found : ℕ → Type 0
  Found k = Runs k ⊎ ((t : ℕ) × (t < k) × (r : Assignment) × IsReturn side.graphs side.outermost first t r)

  values_of_return : (s : State) → has_returned s ≡ true → (r : Assignment) × (s ≡ Returned r)
  values_of_return (Running g k values below) h = absurd (false≢true h)
  values_of_return (Returned values) h = (values, refl)
  values_of_return Failed h = absurd (false≢true h)

  pub found : (k : ℕ) → Found k
  found zero = inl (λ j less. absurd (omega (arith, less)))
  found (suc k) = elim (found k) [
    | inr there ↦ inr (there.0, omega (arith, there.1), there.2, there.3)
    | inl runs ↦ elim (cases_Bool (has_returned (after w k first))) [
      | inl returned ↦
          let values = values_of_return (after w k first) returned in
          inr (k, omega arith, values.0, record { before = runs; now = values.1 })
      | inr not_yet ↦ inl (λ j less. elim (cases_lt j k) [
        | inl before ↦ runs j before
        | inr more ↦ let same : k ≡ j = omega (arith, less, more) in subst (λ (i : ℕ). has_returned (after w i first) ≡ false) same not_yet
      ])
    ]
  ]

  -- where it stops the callee has returned
  pub stopped_back : (t : ℕ) → StopsAt w marks t start → (k : ℕ) × (r : Assignment) × IsReturn side.graphs side.outermost first k r × (t ≡ suc k)
  stopped_back t stop = elim (found t) [
    | inl runs ↦ absurd (both_ways (stopped w marks t start) (runs_on t runs) stop.now)
    | inr there ↦ (there.0, there.2, there.3, stops_once w marks t (suc there.0) start stop (stops_back there.0 there.2 there.3))
  ]

  pub stays_safe : ((k : ℕ) → has_failed (after w k first) ≡ false) → (k : ℕ) → stopped w marks k start ≡ false → has_failed (after w k start) ≡ false
  unfolding after
  stays_safe safe zero runs = refl
  stays_safe safe (suc k) runs = elim (found (suc k)) [
    | inl still ↦
        ap has_failed (inside k (λ j less. still j (omega (arith, less)))) ∙ fails_too (after w k first) (still k (omega arith)) ∙ safe k
    | inr there ↦
        let less = there.1 in
        let same : suc there.0 + (suc k - suc there.0) ≡ suc k = omega (arith, less) in
        absurd (both_ways (stopped w marks (suc k) start) runs
        (subst (λ (t : ℕ). stopped w marks t start ≡ true) same
        (stopped_on w (returned_still side.graphs) marks (suc there.0) (suc k - suc there.0) start (stops_back there.0 there.2 there.3).now)))
  ]

-- ---- both sides

module _ (c : Convention) (known entry : Relation) (f : Frame) (call landing : systems.Hold State State) (fine_x fine_y : State → Type 0)
    (binary_inputs binary_outputs source_inputs source_outputs : List Binding)
    (is_x : IsCallAt f.binary call.binary binary_inputs binary_outputs landing.binary)
    (is_y : IsCallAt f.source call.source source_inputs source_outputs landing.source) where
  abbrev here_frame : systems.Frame State State
  here_frame = across (frame_over c known f) entry call landing

  -- what is asked of the values with which callees return
  abbrev pub Related : (x y r s : Assignment) → Type 0
  Related x y r s = IsRelated landing.relation (Running f.binary.outermost landing.binary (resumed binary_outputs r x) [])
      (Running f.source.outermost landing.source (resumed source_outputs s y) [])

  module _ (x y : Assignment)
      (agree : CalleesAgree f.binary f.source (Related x y) (begins f.binary call.binary binary_inputs binary_outputs landing.binary is_x x)
      (begins f.source call.source source_inputs source_outputs landing.source is_y y)) where
    abbrev at_x : State
    at_x = Running f.binary.outermost call.binary x []

    abbrev at_y : State
    at_y = Running f.source.outermost call.source y []

    ends : (k u : ℕ) (r s : Assignment)
        → IsReturn f.binary.graphs f.binary.outermost (begins f.binary call.binary binary_inputs binary_outputs landing.binary is_x x) k r
        → IsReturn f.source.graphs f.source.outermost (begins f.source call.source source_inputs source_outputs landing.source is_y y) u s
        → Related x y r s
        → EndsAlike here_frame (after (system_of f.binary.graphs f.binary.outermost) (suc k) at_x) (after (system_of f.source.graphs f.source.outermost) (suc u) at_y)
    ends k u r s ret_x ret_y related =
        let back_x = comes_back f.binary call.binary binary_inputs binary_outputs landing.binary is_x x k r ret_x in
        let back_y = comes_back f.source call.source source_inputs source_outputs landing.source is_y y u s ret_y in
        subst (λ (p : State). EndsAlike here_frame p (after (system_of f.source.graphs f.source.outermost) (suc u) at_y)) (sym back_x)
        (subst (λ (q : State). EndsAlike here_frame (Running f.binary.outermost landing.binary (resumed binary_outputs r x) []) q) (sym back_y)
        (both_arrive (goal_at landing once) (contains_head (goal_at landing once) [])
        (is_back f.binary call.binary binary_inputs binary_outputs landing.binary is_x x r)
        (is_back f.source call.source source_inputs source_outputs landing.source is_y y s) related))

    agrees : (n : ℕ) → Agree here_frame n at_x at_y
    agrees n = record {
      safe = λ k within runs. stays_safe f.binary call.binary binary_inputs binary_outputs landing.binary is_x x agree.safe k runs;
      forth = λ t within stop.
          let r = stopped_back f.binary call.binary binary_inputs binary_outputs landing.binary is_x x t stop in
          let s = agree.forth r.0 r.1 r.2 in (
            suc s.0,
            stops_back f.source call.source source_inputs source_outputs landing.source is_y y s.0 s.1 s.2,
            subst (λ (k : ℕ). EndsAlike here_frame (after (system_of f.binary.graphs f.binary.outermost) k at_x) (after (system_of f.source.graphs f.source.outermost) (suc s.0) at_y))
                (sym r.3) (ends r.0 s.0 r.1 s.1 r.2 s.2 s.3),
          );
      back = λ u within stop.
          let s = stopped_back f.source call.source source_inputs source_outputs landing.source is_y y u stop in
          let r = agree.back s.0 s.1 s.2 in (
            suc r.0,
            stops_back f.binary call.binary binary_inputs binary_outputs landing.binary is_x x r.0 r.1 r.2,
            subst (λ (k : ℕ). EndsAlike here_frame (after (system_of f.binary.graphs f.binary.outermost) (suc r.0) at_x) (after (system_of f.source.graphs f.source.outermost) k at_y))
                (sym s.3) (ends r.0 s.0 r.1 s.1 r.2 s.2 r.3),
          );
    }

  pub crossed : ((x y : Assignment) → IsStart here_frame fine_x fine_y (Running f.binary.outermost call.binary x []) (Running f.source.outermost call.source y [])
      → CalleesAgree f.binary f.source (Related x y) (begins f.binary call.binary binary_inputs binary_outputs landing.binary is_x x)
      (begins f.source call.source source_inputs source_outputs landing.source is_y y))
      → Simulates here_frame fine_x fine_y
  crossed agree x y start n =
      let at_x = running_at f.binary.graphs f.binary.outermost call.binary x start.binary_at in
      let at_y = running_at f.source.graphs f.source.outermost call.source y start.source_at in
      let there : IsStart here_frame fine_x fine_y (Running f.binary.outermost call.binary at_x.0 []) (Running f.source.outermost call.source at_y.0 []) =
      subst (λ (s : State). IsStart here_frame fine_x fine_y s (Running f.source.outermost call.source at_y.0 [])) at_x.1
      (subst (λ (s : State). IsStart here_frame fine_x fine_y x s) at_y.1 start) in
      inl (subst (λ (s : State). Agree here_frame n s y) (sym at_x.1)
      (subst (λ (s : State). Agree here_frame n (Running f.binary.outermost call.binary at_x.0 []) s) (sym at_y.1)
      (agrees at_x.0 at_y.0 (agree at_x.0 at_y.0 there) n)))
