-- A C run and the run of the graphs break, return and go on together.
use Rattle.std.proofs.Common.{◌≡◌, ◌∙◌, inl, inr, ℕ, suc, ◌+◌, ◌-◌, ◌≤◌, ℤ, refl, sym, ap, subst, arith, List, [], Option}
use Rattle.std.proofs.lemmas.Bool.{cases_lt}
use Rattle.memory_spec.specs.Memory.{Memory, byte_at}
use Rattle.memory_spec.specs.Zones.{Zone}
use Rattle.term_core_spec.specs.Value.{Bytes, Assignment}
use Rattle.graph_core_spec.specs.Run.{State, Running, Returned, Failed, step, system_of}
use Rattle.graph_core_spec.specs.TransitionSystem.{TransitionSystem, after}
use Rattle.graph_core_spec.proofs.Runs.{after-add, still}
use Rattle.c_types_spec.specs.Core.{Body, Typed}
use Rattle.c_run_spec.specs.declared.Guard.{Guard}
use Rattle.c_run_spec.specs.Execution.{Called}
use Rattle.c_run_spec.specs.Calls.{More, Broke, Back, outcome_of, runs, c_run}
use Rattle.pair_setup_spec.specs.SourceReach.{itself}
use Rattle.c_graph_spec.specs.Guards.{Place}
use Rattle.c_graph_spec.specs.SourceGraph.{body_number, graphs_of}
use Rattle.c_graph_laws.specs.Together.{Gives, setting_at, IsStart, IsRunning, running, ReturnsAlike, RunTogether}
use Rattle.c_graph_laws.proofs.Extents.{unit_extents}
use Rattle.c_graph_laws.proofs.Calling.{Ends, unfinished, breaks_off, returned}
use Rattle.c_graph_laws.proofs.Serving.{serves}

module _ (unit : Typed) (p : Place) (zone : Zone) (name : List ℕ) (body : Body) (arguments : List ℤ) (bytes : Memory) (values : Assignment)
    (start : IsStart unit p zone name body arguments bytes values) where
  abbrev w : TransitionSystem State
  w = system_of (graphs_of unit p) (body_number name unit.bodies)

  abbrev x : State
  x = Running (body_number name unit.bodies) 0 values []

  abbrev Ending : ℕ → Called → Type 0
  Ending n called = Ends (graphs_of unit p) (body_number name unit.bodies) [] body.signature.result zone n n x called

  ending : (n : ℕ) → Ending n (runs (setting_at unit p zone) n name arguments bytes n)
  ending n = serves unit p start.placed zone (body_number name unit.bodies) start.typed.bodies_typed (unit_extents unit start.typed start.sizes) name start.bodies n name body itself start.body_is arguments bytes values [] n start.alike

  -- ---- one end at most

  same_end : (j k : ℕ) (y z : State) → w.step y ≡ y → w.step z ≡ z → after w j x ≡ y → after w k x ≡ z → y ≡ z
  same_end j k y z ys zs ey ez = elim (cases_lt j k) [
    | inl less ↦
        let parts : j + (k - j) ≡ k = omega arith in
        sym (still w y ys (k - j)) ∙ sym (ap (after w (k - j)) ey) ∙ sym (after-add w j (k - j) x) ∙ ap (λ (n : ℕ). after w n x) parts ∙ ez
    | inr least ↦
        let parts : k + (j - k) ≡ j = omega arith in
        sym ey ∙ sym (ap (λ (n : ℕ). after w n x) parts) ∙ after-add w k (j - k) x ∙ ap (after w (j - k)) ez ∙ still w z zs (j - k)
  ]

  failed_still : w.step Failed ≡ Failed
  unfolding step
  failed_still = refl

  returned_still : (s : Assignment) → w.step (Returned s) ≡ Returned s
  unfolding step
  returned_still s = refl

  -- a run that has ended is not running later
  not_later : (k j : ℕ) (y : State) → k ≤ j → w.step y ≡ y → after w k x ≡ y → IsRunning (after w j x) → IsRunning y
  not_later k j y least ys ey goes =
      let parts : k + (j - k) ≡ j = omega arith in
      subst IsRunning (sym (ap (λ (n : ℕ). after w n x) parts) ∙ after-add w k (j - k) x ∙ ap (after w (j - k)) ey ∙ still w y ys (j - k)) goes

  not_failed : (y : State) → y ≡ Failed → IsRunning y → ⊥
  not_failed _ e (running g n s below) = cc

  not_returned : (y : State) (s : Assignment) → y ≡ Returned s → IsRunning y → ⊥
  not_returned _ s e (running g n t below) = cc

  -- ---- the claims

  breaks : (n : ℕ) (guard : Guard) (offset : ℕ) (called : Called) → outcome_of called ≡ Broke guard offset → Ending n called → (k : ℕ) × (after w k x ≡ Failed)
  breaks n guard offset _ e (unfinished k enough goes) = absurd (cc)
  breaks n guard offset _ e (breaks_off other place k is) = (k, is)
  breaks n guard offset _ e (returned v after_it left k s enough left_is is) = absurd (cc)

  fails : (k : ℕ) → after w k x ≡ Failed → (called : Called) → Ending (suc k) called → (guard : Guard) × (offset : ℕ) × (outcome_of called ≡ Broke guard offset)
  fails k e _ (unfinished j enough goes) = absurd (not_failed Failed refl (not_later k j Failed (omega arith) failed_still e goes))
  fails k e _ (breaks_off guard offset j is) = (guard, offset, refl)
  fails k e _ (returned v after_it left j s enough left_is is) = let d = same_end k j Failed (Returned s) failed_still (returned_still s) e is in absurd (cc)

  gives_back : (n : ℕ) (value : Option ℤ) (after_it : Memory) (called : Called) → outcome_of called ≡ Back value after_it → Ending n called
      → (k : ℕ) × (final : Assignment) × (after w k x ≡ Returned final) × ReturnsAlike body value after_it final
  gives_back n value after_it _ e (unfinished k enough goes) = absurd (cc)
  gives_back n value after_it _ e (breaks_off guard offset k is) = absurd (cc)
  gives_back n value after_it _ e (returned v bytes left k s enough left_is is) =
      let same_v : v ≡ value = cc in
      let same_b : bytes ≡ after_it = cc in (
        k,
        s,
        is,
        record {
          value_is = subst (λ (o : Option ℤ). Gives s body.signature.result o) same_v left_is.gives;
          memory_is = left_is.memory_is ∙ ap (λ (b : Memory). Bytes (byte_at b)) same_b;
        },
      )

  returns : (k : ℕ) (final : Assignment) → after w k x ≡ Returned final → (called : Called) → Ending (suc k) called
      → (value : Option ℤ) × (after_it : Memory) × (outcome_of called ≡ Back value after_it) × ReturnsAlike body value after_it final
  returns k final e _ (unfinished j enough goes) = absurd (not_returned (Returned final) final refl (not_later k j (Returned final) (omega arith) (returned_still final) e goes))
  returns k final e _ (breaks_off guard offset j is) = let d = same_end k j (Returned final) Failed (returned_still final) failed_still e is in absurd (cc)
  returns k final e _ (returned v bytes left j s enough left_is is) =
      let d = same_end k j (Returned final) (Returned s) (returned_still final) (returned_still s) e is in
      let same_s : s ≡ final = cc in
      (v, bytes, refl, subst (λ (t : Assignment). ReturnsAlike body v bytes t) same_s (record { value_is = left_is.gives; memory_is = left_is.memory_is }))

  goes_on : (k : ℕ) (called : Called) → outcome_of called ≡ More → Ending k called → IsRunning (after w k x)
  goes_on k _ e (unfinished j enough goes) = at (after w k x) refl
    where
      at : (y : State) → after w k x ≡ y → IsRunning y
      at (Running g n s below) is = running g n s below
      at (Returned s) is = not_later k j (Returned s) (omega arith) (returned_still s) is goes
      at Failed is = not_later k j Failed (omega arith) failed_still is goes
  goes_on k _ e (breaks_off guard offset j is) = absurd (cc)
  goes_on k _ e (returned v bytes left j s enough left_is is) = absurd (cc)

  runs_on : ((k : ℕ) → IsRunning (after w k x)) → (n : ℕ) (called : Called) → Ending n called → outcome_of called ≡ More
  runs_on goes n _ (unfinished k enough is) = refl
  runs_on goes n _ (breaks_off guard offset k is) = absurd (not_failed (after w k x) is (goes k))
  runs_on goes n _ (returned v bytes left k s enough left_is is) = absurd (not_returned (after w k x) s is (goes k))

  pub together : RunTogether unit p zone name body arguments bytes values
  unfolding c_run
  together = record {
    breaks = λ n guard offset e. breaks n guard offset (runs (setting_at unit p zone) n name arguments bytes n) e (ending n);
    fails = λ k e. let r = fails k e (runs (setting_at unit p zone) (suc k) name arguments bytes (suc k)) (ending (suc k)) in (suc k, r.0, r.1, r.2);
    gives_back = λ n value after_it e. gives_back n value after_it (runs (setting_at unit p zone) n name arguments bytes n) e (ending n);
    returns = λ k final e. let r = returns k final e (runs (setting_at unit p zone) (suc k) name arguments bytes (suc k)) (ending (suc k)) in (suc k, r.0, r.1, r.2, r.3);
    goes_on = λ all k. goes_on k (runs (setting_at unit p zone) k name arguments bytes k) (all k) (ending k);
    runs_on = λ goes n. runs_on goes n (runs (setting_at unit p zone) n name arguments bytes n) (ending n);
  }
