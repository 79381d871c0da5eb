-- The run of a callee, and that of its caller while it waits.
use Rattle.std.proofs.Common.{◌≡◌, ◌∙◌, ℕ, ◌+◌, ◌-◌, ◌<◌, ◌≤◌, zero, suc, true, false, List, [], ◌∷◌, Option, refl, sym, ap, subst, inl, inr, arith}
use Rattle.std.proofs.lemmas.Bool.{cases_lt, false_from_ne_true}
use Rattle.term_core_spec.specs.Term.{less}
use Rattle.term_core_spec.specs.Value.{Assignment}
use Rattle.graph_core_spec.specs.TransitionSystem.{TransitionSystem, after, stopped}
use Rattle.graph_core_spec.proofs.Runs.{after-add, still}
use Rattle.graph_core_spec.specs.Graph.{Binding, Graph, Graphs}
use Rattle.graph_core_spec.specs.Run.{Waiting, State, Running, Returned, Failed, act, enter, entered, resumed, bound, step, with_waiting, has_returned, has_failed, system_of}
use Rattle.graph_core_spec.specs.Fixed.{has_byte, holds_byte}
use Rattle.graph_core_spec.proofs.Callees.{after-with_waiting}
use Rattle.proof_tree_spec.specs.Frames.{Side}
use Rattle.sim_rules_spec.specs.Points.{binary_memory, bounded, nothing}
use Rattle.sim_rules_spec.specs.Crossing.{IsCallAt, IsReturn, begins}
use Rattle.sim_rules_spec.proofs.Crossing.{runs_on, found}
use Rattle.agreement_laws.proofs.Agreed.{returned_stays}
use Rattle.agreement_laws.proofs.Ends.{back_stops, first_back}

-- a run is the same whichever graph is the outermost
pub same_run : (graphs : Graphs) (one other k : ℕ) (s : State) → after (system_of graphs one) k s ≡ after (system_of graphs other) k s
unfolding after
same_run graphs one other zero s = refl
same_run graphs one other (suc k) s = same_run graphs one other k (step graphs s)

-- a run that has returned stays so
pub stays_returned : (graphs : Graphs) (outermost t k : ℕ) (s : State) (r : Assignment) → after (system_of graphs outermost) t s ≡ Returned r → t ≤ k
    → after (system_of graphs outermost) k s ≡ Returned r
stays_returned graphs outermost t k s r e less =
    let w = system_of graphs outermost in
    let split : t + (k - t) ≡ k = omega arith in
    ap (λ (n : ℕ). after w n s) (sym split) ∙ after-add w t (k - t) s ∙ ap (after w (k - t)) e ∙ still w (Returned r) (returned_stays graphs (Returned r) refl) (k - t)

-- the first time at which a run has returned
pub first_return : (graphs : Graphs) (outermost u : ℕ) (s : State) (r : Assignment) → after (system_of graphs outermost) u s ≡ Returned r
    → (first : ℕ) × IsReturn graphs outermost s first r
first_return graphs outermost u s r e =
    let w = system_of graphs outermost in
    let first = first_back w (returned_stays graphs) u s (ap has_returned e) in (
      first.0,
      record {
        before = λ j less. false_from_ne_true (has_returned (after w j s)) (λ bad.
            let bad_stop : true ≡ false = sym (back_stops w (returned_stays graphs) j s bad) ∙ first.1.before j less in cc);
        now = sym first.2 ∙ e;
      },
    )

-- the run of a callee, and that of its caller while it waits
module _ (side : Side) (n : ℕ) (inputs outputs : List Binding) (landing : ℕ) (is : IsCallAt side n inputs outputs landing) (x : Assignment) where
  abbrev w : TransitionSystem State
  w = system_of side.graphs side.outermost

  abbrev caller : State
  caller = Running side.outermost n x []

  abbrev waiting : List Waiting
  waiting = record { graph = side.outermost; call = n; landing = landing; outputs = outputs; values = x } ∷ []

  abbrev callee : State
  callee = begins side n inputs outputs landing is x

  first_step : step side.graphs caller ≡ with_waiting waiting callee
  unfolding step
  first_step =
      ap (act side.graphs side.outermost n x []) is.here
      ∙ ap (λ (g : Option Graph). enter is.callee g (entered inputs x) waiting) is.there

  inside : (k : ℕ) → ((j : ℕ) → j < k → has_returned (after w j callee) ≡ false) → after w (suc k) caller ≡ with_waiting waiting (after w k callee)
  unfolding after
  inside k runs = ap (λ (s : State). after w k s) first_step ∙ after-with_waiting side.graphs waiting side.outermost k callee runs

  -- where the caller never fails before it is back, the callee doesn't
  pub callee_safe : ((k : ℕ) → stopped w (record { node = landing; count = 1 } ∷ []) k caller ≡ false → has_failed (after w k caller) ≡ false)
      → (k : ℕ) → after w k callee ≡ Failed → ⊥
  callee_safe safe k failed = elim (found side n inputs outputs landing is x k) [
    | inl runs ↦
        let not_back : (j : ℕ) → j < suc k → has_returned (after w j callee) ≡ false = λ j less. elim (cases_lt j k) [
          | inl before ↦ runs j before
          | inr last ↦ let same : k ≡ j = omega arith in subst (λ (i : ℕ). has_returned (after w i callee) ≡ false) same (ap has_returned failed)
        ] in
        let fine = safe (suc k) (runs_on side n inputs outputs landing is x (suc k) not_back) in
        let bad : true ≡ false = sym (ap has_failed (inside k runs ∙ ap (with_waiting waiting) failed)) ∙ fine in
        absurd (cc)
    | inr there ↦
        absurd (let both : Failed ≡ Returned there.2 = sym failed ∙ stays_returned side.graphs side.outermost there.0 k callee there.2 there.3.now (omega (arith, there.1)) in
        let bad : true ≡ false = ap has_failed both in cc)
  ]

  -- what holds of the binary's memory in every state of the caller holds in every state of a callee, where a call binds
  -- nothing at its return
  module _ (nothing_bound : outputs ≡ []) where
    carried : (q : ℕ) (s : State) → holds_byte (bounded nothing) binary_memory q (with_waiting waiting s) ≡ true → holds_byte (bounded nothing) binary_memory q s ≡ true
    unfolding bound
    carried q (Running g k values below) h = h
    carried q Failed h = refl
    carried q (Returned values) h =
        sym (ap (λ (o : List Binding). has_byte (resumed o values x binary_memory) q (bounded nothing q)) nothing_bound ∙ no_outputs) ∙ h
      where
        no_outputs : has_byte (resumed [] values x binary_memory) q (bounded nothing q) ≡ has_byte (values binary_memory) q (bounded nothing q)
        no_outputs = refl

    pub callee_far : ((k q : ℕ) → holds_byte (bounded nothing) binary_memory q (after w k caller) ≡ true) → (k q : ℕ)
        → holds_byte (bounded nothing) binary_memory q (after w k callee) ≡ true
    callee_far far k q = elim (found side n inputs outputs landing is x k) [
      | inl runs ↦ carried q (after w k callee) (subst (λ (s : State). holds_byte (bounded nothing) binary_memory q s ≡ true) (inside k runs) (far (suc k) q))
      | inr there ↦
          let then_there = carried q (after w there.0 callee)
          (subst (λ (s : State). holds_byte (bounded nothing) binary_memory q s ≡ true) (inside there.0 there.3.before) (far (suc there.0) q)) in
          subst (λ (s : State). holds_byte (bounded nothing) binary_memory q s ≡ true)
          (there.3.now ∙ sym (stays_returned side.graphs side.outermost there.0 k callee there.2 there.3.now (omega (arith, there.1)))) then_there
    ]
