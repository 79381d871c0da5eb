-- Agreement, from a simulation of the graphs at a start, and from what both sides' graphs have of machine and C run.
use Rattle.std.proofs.Common.{◌≡◌, ◌∙◌, ℕ, ℤ, Bool, true, false, List, [], Option, Some, refl, sym, ap, subst, inl, inr}
use Rattle.memory_spec.specs.Memory.{Memory}
use Rattle.memory_spec.specs.Zones.{Zone}
use Rattle.rv_machine_spec.specs.Machine.{Machine, read_register}
use Rattle.rv_machine_spec.specs.Step as step
use Rattle.graph_core_spec.specs.TransitionSystem.{after}
use Rattle.graph_core_spec.proofs.Runs.{stops_once}
use Rattle.graph_core_spec.specs.Simulation.{Simulates, IsStart, IsRelated}
use Rattle.term_core_spec.specs.Value.{Assignment}
use Rattle.graph_core_spec.specs.Graph.{Graphs}
use Rattle.graph_core_spec.specs.Run as graph
use Rattle.graph_core_spec.specs.Run.{State, Running, Returned, Failed, has_returned, has_failed, system_of}
use Rattle.decompile_spec.specs.State.{Alike}
use Rattle.decompile_spec.specs.Blocks.{Entrance}
use Rattle.decompile_laws.specs.Together as together
use Rattle.decompile_laws.specs.Together.{ReturnTogether}
use Rattle.c_run_spec.specs.Calls.{Outcome, Back, c_run}
use Rattle.c_graph_laws.specs.Together as c
use Rattle.c_graph_laws.specs.Together.{RunTogether, ReturnsAlike}
use Rattle.c_graph_spec.specs.SourceGraph.{body_number, graphs_of}
use Rattle.validity_spec.specs.Convention.{Gives, result_words}
use Rattle.validity_spec.specs.Claim.{AgreesFrom, ComesBack, RunsBack}
use Rattle.agreement_laws.specs.EntryFrame.{Pair, place_of}
use Rattle.agreement_laws.proofs.Ends.{first_back, whole, safe, forth, back}

-- ---- ends of graphs' runs

pub returned_is : (s : State) → has_returned s ≡ true → (values : Assignment) × (s ≡ Returned values)
returned_is (Running g n values below) h = absurd (let bad : false ≡ true = h in cc)
returned_is (Returned values) h = (values, refl)
returned_is Failed h = absurd (let bad : false ≡ true = h in cc)

pub failed_apart : (s : State) → has_failed s ≡ true → has_returned s ≡ false
failed_apart (Running g n values below) h = refl
failed_apart (Returned values) h = absurd (let bad : false ≡ true = h in cc)
failed_apart Failed h = refl

pub returned_stays : (graphs : Graphs) (s : State) → has_returned s ≡ true → graph.step graphs s ≡ s
unfolding graph.step
returned_stays graphs (Running g n values below) h = absurd (let bad : false ≡ true = h in cc)
returned_stays graphs (Returned values) h = refl
returned_stays graphs Failed h = absurd (let bad : false ≡ true = h in cc)

same_values : (v w : Assignment) → Returned v ≡ Returned w → v ≡ w
same_values v w e = ap values_back e
  where
    values_back : State → Assignment
    values_back (Returned values) = values
    values_back s = v

abbrev together_run : Pair → Assignment → ℕ → State
together_run p a t = together.run p.graphs p.numbering p.entry a t

-- a run returns with the same values whenever it has returned
one_return : (p : Pair) (b : Assignment) (t u : ℕ) (v w : Assignment) → c.run p.unit (place_of p) p.body.name b t ≡ Returned v
    → c.run p.unit (place_of p) p.body.name b u ≡ Returned w → v ≡ w
one_return p b t u v w e f =
    let system = system_of (graphs_of p.unit (place_of p)) (body_number p.body.name p.unit.bodies) in
    let start = Running (body_number p.body.name p.unit.bodies) 0 b [] in
    let first = first_back system (returned_stays (graphs_of p.unit (place_of p))) t start (ap has_returned e) in
    let other = first_back system (returned_stays (graphs_of p.unit (place_of p))) u start (ap has_returned f) in
    let same = stops_once system [] first.0 other.0 start first.1 other.1 in
    same_values v w (sym e ∙ first.2 ∙ ap (λ (n : ℕ). after system n start) same ∙ sym other.2 ∙ f)

module _ (p : Pair) (m : Machine) (zone : Zone) (arguments : List ℤ) (a b : Assignment) (premise returns : ℕ → State → State → Bool) (node : ℕ) where
  abbrev binary_run : ℕ → State
  binary_run t = after (system_of p.graphs (p.numbering.graph_number p.entry)) t (Running (p.numbering.graph_number p.entry) node a [])

  abbrev source_run : ℕ → State
  source_run u = c.run p.unit (place_of p) p.body.name b u

  -- what the machine and C give where both have returned
  abbrev pub ReadsBack : Type 0
  ReadsBack = (final : Machine) (there other : Assignment) (t : ℕ) (value : Option ℤ) (memory : Memory) → binary_run t ≡ Returned there → Alike final there
      → ReturnsAlike p.body value memory other → IsRelated returns (Returned there) (Returned other)
      → Gives m final zone (result_words p.body.signature.result value) memory

  module _ (fine_a fine_c : State → Type 0)
      (simulated : Simulates (whole (system_of p.graphs (p.numbering.graph_number p.entry)) (system_of (graphs_of p.unit (place_of p)) (body_number p.body.name p.unit.bodies)) node 0 premise returns) fine_a fine_c)
      (start : IsStart (whole (system_of p.graphs (p.numbering.graph_number p.entry)) (system_of (graphs_of p.unit (place_of p)) (body_number p.body.name p.unit.bodies)) node 0 premise returns) fine_a fine_c
      (Running (p.numbering.graph_number p.entry) node a []) (Running (body_number p.body.name p.unit.bodies) 0 b []))
      (memory : Memory) (run : ℕ → Outcome)
      (run_is : (n : ℕ) → run n ≡ c_run (c.setting_at p.unit (place_of p) zone) p.body.name arguments memory n)
      (c_runs : RunTogether p.unit (place_of p) zone p.body.name p.body arguments memory b)
      (node_is : node ≡ p.numbering.node_number p.entry Entrance)
      (home : ReturnTogether p.image p.entry p.numbering p.graphs m a)
      (reads : ReadsBack) where
    stays_a : (s : State) → has_returned s ≡ true → graph.step p.graphs s ≡ s
    stays_a = returned_stays p.graphs

    stays_c : (s : State) → has_returned s ≡ true → graph.step (graphs_of p.unit (place_of p)) s ≡ s
    stays_c = returned_stays (graphs_of p.unit (place_of p))

    never : (t : ℕ) → binary_run t ≡ Failed → ⊥
    never t bad =
        let fine = safe (system_of p.graphs (p.numbering.graph_number p.entry)) (system_of (graphs_of p.unit (place_of p)) (body_number p.body.name p.unit.bodies)) node 0 premise returns
        stays_a stays_c fine_a fine_c simulated (Running (p.numbering.graph_number p.entry) node a []) (Running (body_number p.body.name p.unit.bodies) 0 b []) start failed_apart t in
        let both : true ≡ false = sym (ap has_failed bad) ∙ fine in cc

    to_binary : (t : ℕ) → together_run p a t ≡ binary_run t
    unfolding after
    to_binary t = ap (λ (n : ℕ). after (system_of p.graphs (p.numbering.graph_number p.entry)) t (Running (p.numbering.graph_number p.entry) n a [])) (sym node_is)

    over : (t : ℕ) (values : Assignment) → binary_run t ≡ Returned values
        → (u : ℕ) × (other : Assignment) × (source_run u ≡ Returned other) × IsRelated returns (Returned values) (Returned other)
    over t values e =
        let there = forth (system_of p.graphs (p.numbering.graph_number p.entry)) (system_of (graphs_of p.unit (place_of p)) (body_number p.body.name p.unit.bodies)) node 0 premise returns
        stays_a stays_c fine_a fine_c simulated (Running (p.numbering.graph_number p.entry) node a []) (Running (body_number p.body.name p.unit.bodies) 0 b []) start t (ap has_returned e) in
        let is = returned_is (source_run there.0) there.1 in
        (there.0, is.0, is.1, subst (λ (s : State). IsRelated returns s (Returned is.0)) e (subst (λ (s : State). IsRelated returns (binary_run t) s) is.1 there.2))

    under : (u : ℕ) (other : Assignment) → source_run u ≡ Returned other
        → (t : ℕ) × (values : Assignment) × (binary_run t ≡ Returned values) × IsRelated returns (Returned values) (Returned other)
    under u other e =
        let there = back (system_of p.graphs (p.numbering.graph_number p.entry)) (system_of (graphs_of p.unit (place_of p)) (body_number p.body.name p.unit.bodies)) node 0 premise returns
        stays_a stays_c fine_a fine_c simulated (Running (p.numbering.graph_number p.entry) node a []) (Running (body_number p.body.name p.unit.bodies) 0 b []) start u (ap has_returned e) in
        let is = returned_is (binary_run there.0) there.1 in
        (there.0, is.0, is.1, subst (λ (s : State). IsRelated returns (Returned is.0) s) e (subst (λ (s : State). IsRelated returns s (source_run u)) is.1 there.2))

    -- the machine has come back, with the values with which the graphs return
    came : (k : ℕ) (final : Machine) → step.after m (read_register m 1) k ≡ Some final → final.pc ≡ read_register m 1
        → (t : ℕ) × (values : Assignment) × (binary_run t ≡ Returned values) × Alike final values
    came k final e there = elim (home.machine_returns k final e there) [
      | inl found ↦ (found.0, found.1, sym (to_binary found.0) ∙ found.2, found.3)
      | inr bad ↦ absurd (never bad.0 (sym (to_binary bad.0) ∙ bad.1))
    ]

    pub agrees : AgreesFrom p.image p.body.signature.result zone m run
    agrees = record {
      safe = λ k. elim (home.safe k) [
        | inl found ↦ (found.0, found.1, found.2.fixed)
        | inr bad ↦ absurd (never bad.0 (sym (to_binary bad.0) ∙ bad.1))
      ];
      returns = (forwards, backwards);
      gives = gives;
    }
      where
        forwards : ComesBack m → RunsBack run
        forwards (k, final, e, there) =
            let found = came k final e there in
            let other = over found.0 found.1 found.2 in
            let c_back = c_runs.returns other.0 other.1 other.2 in
            (c_back.0, c_back.1, c_back.2, run_is c_back.0 ∙ c_back.3)

        backwards : RunsBack run → ComesBack m
        backwards (n, value, bytes, e) =
            let there = c_runs.gives_back n value bytes (sym (run_is n) ∙ e) in
            let found = under there.0 there.1 there.2 in
            let at_home = home.graphs_return found.0 found.1 (to_binary found.0 ∙ found.2) in
            (at_home.0, at_home.2.final, at_home.2.final_is, at_home.2.home)

        gives : (k n : ℕ) (final : Machine) (value : Option ℤ) (bytes : Memory) → step.after m (read_register m 1) k ≡ Some final
            → final.pc ≡ read_register m 1 → run n ≡ Back value bytes → Gives m final zone (result_words p.body.signature.result value) bytes
        gives k n final value bytes e there back_is =
            let found = came k final e there in
            let c_back = c_runs.gives_back n value bytes (sym (run_is n) ∙ back_is) in
            let other = over found.0 found.1 found.2 in
            let one = one_return p b other.0 c_back.0 other.1 c_back.1 other.2 c_back.2 in
            reads final found.1 c_back.1 found.0 value bytes found.2 found.3 c_back.3
            (subst (λ (v : Assignment). IsRelated returns (Returned found.1) (Returned v)) one other.3)
