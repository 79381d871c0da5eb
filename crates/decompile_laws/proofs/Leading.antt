-- From where a machine corresponds to a run, the run continues until the machine has done its step.
use Rattle.std.proofs.Common.{◌≡◌, ◌∙◌, ◌⊎◌, inl, inr, ℕ, zero, suc, ◌+◌, ◌<◌, ◌≤◌, Bool, true, refl, sym, ap, subst, arith, List, [], ◌∷◌, ◌++◌, length, Some}
use Rattle.std.proofs.lemmas.List.{append-nil, append_assoc}
use Rattle.rv_instr.specs.declared.Instr.{Instr}
use Rattle.rv_machine_spec.specs.Machine.{Machine}
use Rattle.elf_read_spec.specs.Image.{Image, size_at}
use Rattle.code_reach_spec.specs.Code.{Flow, Returns, Switches, TableJump, instr_at, instr_before, flow_at, IsReachable, Reaches}
use Rattle.code_reach_spec.specs.Faults.{ReachesNoFault}
use Rattle.term_core_spec.specs.Term.{Term}
use Rattle.term_core_spec.specs.declared.Width.TheVariants.{W32}
use Rattle.term_core_spec.specs.Value.{Number, Assignment, value}
use Rattle.graph_core_spec.specs.Graph.{Graphs}
use Rattle.graph_core_spec.specs.Run.{Waiting, State, Running, Returned, Failed, leave, step, is_truth, system_of}
use Rattle.graph_core_spec.specs.TransitionSystem.{TransitionSystem, after}
use Rattle.decompile_spec.specs.State.{table_index, Alike}
use Rattle.decompile_spec.specs.Blocks.{Of, tests_of, ending_of}
use Rattle.decompile_spec.specs.CodeGraph.{IsKept}
use Rattle.decompile_laws.specs.RunUps.{IsInRunUps}
use Rattle.decompile_laws.proofs.Switching.{has_flow}
use Rattle.decompile_laws.proofs.KeptBranches.{kept_or_not}
use Rattle.decompile_laws.specs.Together.{Numbering, setting, AreCodeGraphs, is_node, IsFurther, at_kept, in_table, IsAt, at_entrance, at_landing, in_instruction, further_in, IsAfterAuipc, Began, AreWaiting, Corresponds, corresponds, at_tail_landing, at_home, IsSound}
use Rattle.decompile_laws.specs.Evaluation.{all_hold}
use Rattle.decompile_laws.proofs.Stored.{more_holds}
use Rattle.decompile_laws.proofs.Reached.{has_instruction}
use Rattle.decompile_laws.proofs.Paired.{IsPaired, at_entry}
use Rattle.decompile_laws.proofs.Steps.{Acts, Moves, Lasts, has_done, goes_further, fails, waits, clean, tail_lands, next_test, by_kept, table_step, last_moves}
use Rattle.decompile_laws.proofs.Moving.{count_at, any_moves, continues, first_of_one, return_moves, from_entrance, entry_reached, from_landing}
use Rattle.decompile_laws.proofs.Nodes.{begins}

-- what a step of the run is to the machine: one of its own, or none, where it has come home already
pub data Comes (image : Image) (entry : ℕ) (n : Numbering) (home : ℕ) (m : Machine) : State → Type 0 where
  has_acted : (after : State) → Acts image entry n home m after → Comes image entry n home m after
  has_come_home : (values : Assignment) → m.pc ≡ home → Alike m values → Comes image entry n home m (Returned values)

-- the run continues by at least one step, until it has failed or the machine has done its step
pub record Proceeds (image : Image) (entry : ℕ) (n : Numbering) (graphs : Graphs) (home : ℕ) (m : Machine) (s : State) : Type 0 where
  pub count : ℕ
  pub some : 1 ≤ count
  pub comes : Comes image entry n home m (after (system_of graphs (n.graph_number entry)) count s)

module _ (image : Image) (entry : ℕ) (n : Numbering) (graphs : Graphs) (home : ℕ) (no_fault : ReachesNoFault image entry) (whole : AreCodeGraphs image entry n graphs) where
  abbrev w : TransitionSystem State
  w = system_of graphs (n.graph_number entry)

  -- by one step
  one_step : (m : Machine) (s : State) → Acts image entry n home m (step graphs s) → Proceeds image entry n graphs home m s
  unfolding after
  one_step m s moves = record { count = 1; some = omega arith; comes = has_acted (step graphs s) moves }

  -- by one step more
  step_more : (m : Machine) (s t : State) → step graphs s ≡ t → Proceeds image entry n graphs home m t → Proceeds image entry n graphs home m s
  unfolding after
  step_more m s t e leads = record {
    count = suc leads.count;
    some = omega arith;
    comes = subst (λ (x : State). Comes image entry n home m (after w leads.count x)) (sym e) leads.comes;
  }

  module _ (function size : ℕ) (reached : Reaches image entry function) (sized : size_at image function ≡ Some size) (m : Machine) (ok : IsSound image m)
      (back : ℕ) (values : Assignment) (below : List Waiting) (in_run_ups : IsInRunUps image function size m values) (alike : Alike m values) (began : Began values back)
      (waiting : AreWaiting image entry n home below back) where
    abbrev here_at : List Term → State
    here_at passed = Running (n.graph_number function) (n.node_number function (Of m.pc (length passed))) values below

    -- through the tests of an index
    run_table : (fuel test index : ℕ) (jump : TableJump) → IsReachable image function size m.pc → flow_at image function m.pc ≡ Some (Switches jump)
        → values table_index ≡ Number W32 index → test ≤ index → index < test + fuel
        → Proceeds image entry n graphs home m (Running (n.graph_number function) (n.node_number function (Of m.pc test)) values below)
    run_table zero test index jump there flow_is kept_index low near = absurd (omega (arith, low, near))
    run_table (suc fuel) test index jump there flow_is kept_index low near =
        elim (table_step image entry n graphs home no_fault whole function size reached sized m ok back values below in_run_ups alike began waiting jump test index there flow_is kept_index low) [
          | inl acts_now ↦ one_step m _ acts_now
          | inr on ↦ step_more m _ _ on.0 (run_table fuel (test + 1) index jump there flow_is kept_index (omega (arith, on.1)) (omega (arith, near)))
        ]

    further_on : (index : ℕ) → IsFurther image (setting n function size) values m.pc index
        → Proceeds image entry n graphs home m (Running (n.graph_number function) (n.node_number function (Of m.pc index)) values below)
    further_on _ (at_kept target i there is flow_is keeping off) =
        one_step m _ (by_kept image entry n graphs home no_fault whole function size reached sized m ok back values below in_run_ups alike began waiting true keeping i [] there is target flow_is keeping off)
    further_on _ (in_table jump test index there flow_is some within kept_index low) =
        run_table (index + 1) test index jump there flow_is kept_index low (omega arith)

    lasting : (s : State) → Lasts image entry n home function size m values below (step graphs s) → Proceeds image entry n graphs home m s
    lasting s lasts = by (step graphs s) refl lasts
      where
        by : (t : State) → step graphs s ≡ t → Lasts image entry n home function size m values below t → Proceeds image entry n graphs home m s
        by _ e (has_done t done) = one_step m s (subst (Acts image entry n home m) (sym e) done)
        by _ e (goes_further index further) = step_more m s _ e (further_on index further)

    -- through the tests that are left
    run_on : (kept : Bool) (i : Instr) (flow : Flow) (left passed : List Term) → IsReachable image function size m.pc → instr_at image m.pc ≡ Some i
        → flow_at image function m.pc ≡ Some flow → IsKept image function size m.pc kept → IsAfterAuipc values (instr_before image function m.pc) m.pc i flow
        → tests_of (setting n function size) i flow ≡ passed ++ left → all_hold values passed ≡ true
        → is_node left (ending_of (setting n function size) m.pc kept i flow) ≡ true → Proceeds image entry n graphs home m (here_at passed)
    unfolding tests_of
    run_on kept i flow [] passed there is flow_is kept_is paired tests hold node =
        lasting (here_at passed) (last_moves image entry n graphs home no_fault whole function size reached sized m ok back values below in_run_ups alike began waiting kept kept_is i passed there is flow flow_is paired
        (tests ∙ append-nil passed) hold node)
    run_on kept i flow (test ∷ left) passed there is flow_is kept_is paired tests hold node =
        further (continues image entry n graphs home no_fault whole function size reached sized m ok back values below in_run_ups alike began waiting kept i flow passed test left tests)
        (λ more. next_test image entry n graphs home no_fault whole function size reached sized m ok back values below in_run_ups alike began waiting kept i flow passed test left there is flow_is kept_is tests more)
        (λ more now. run_on kept i flow left (passed ++ test ∷ []) there is flow_is kept_is paired (tests ∙ sym (append_assoc passed (test ∷ []) left)) (more_holds values passed test hold now) more)
      where
        further : (is_node left (ending_of (setting n function size) m.pc kept i flow) ≡ true) ⊎ (flow ≡ Returns)
            → (is_node left (ending_of (setting n function size) m.pc kept i flow) ≡ true → (step graphs (here_at passed) ≡ Failed) ⊎ ((step graphs (here_at passed) ≡ here_at (passed ++ test ∷ [])) × (is_truth (value values test) ≡ true)))
            → (is_node left (ending_of (setting n function size) m.pc kept i flow) ≡ true → is_truth (value values test) ≡ true → Proceeds image entry n graphs home m (here_at (passed ++ test ∷ [])))
            → Proceeds image entry n graphs home m (here_at passed)
        further (inl more) step_is rest = by (step_is more)
          where
            by : (step graphs (here_at passed) ≡ Failed) ⊎ ((step graphs (here_at passed) ≡ here_at (passed ++ test ∷ [])) × (is_truth (value values test) ≡ true))
                → Proceeds image entry n graphs home m (here_at passed)
            by (inl none) = one_step m (here_at passed) (subst (Acts image entry n home m) (sym none) fails)
            by (inr on) = step_more m (here_at passed) (here_at (passed ++ test ∷ [])) on.0 (rest more on.1)
        further (inr home_bound) step_is rest =
            one_step m (here_at passed) (return_moves image entry n graphs home no_fault whole function size reached sized m ok back values below in_run_ups alike began waiting kept i passed there is (flow_is ∙ ap Some home_bound)
            kept_is (first_of_one image entry n graphs home no_fault whole function size reached sized m ok back values below in_run_ups alike began waiting passed test left
            (sym (ap (λ (fl : Flow). tests_of (setting n function size) i fl) home_bound) ∙ tests)))

    -- from the first node of an instruction
    begin_on : (address : ℕ) → IsReachable image function size address → IsPaired image function values address → m.pc ≡ address
        → Proceeds image entry n graphs home m (Running (n.graph_number function) (n.node_number function (Of address 0)) values below)
    begin_on address there paired pc_is = subst (λ a. Proceeds image entry n graphs home m (Running (n.graph_number function) (n.node_number function (Of a 0)) values below)) pc_is
        (from_here (subst (IsReachable image function size) (sym pc_is) there) (subst (IsPaired image function values) (sym pc_is) paired))
      where
        from_here : IsReachable image function size m.pc → IsPaired image function values m.pc → Proceeds image entry n graphs home m (Running (n.graph_number function) (n.node_number function (Of m.pc 0)) values below)
        from_here reach paired_here =
            let found = has_instruction image function size m.pc (clean image entry n graphs home no_fault whole function size reached sized) reach in
            let flow = has_flow image function m.pc found.0 found.1 in
            let kept = kept_or_not image function size (clean image entry n graphs home no_fault whole function size reached sized) m.pc reach in
            run_on kept.0 found.0 flow.0 (tests_of (setting n function size) found.0 flow.0) [] reach found.1 flow.1 kept.1 (paired_here found.0 flow.0 found.1 flow.1) refl refl
            (begins (setting n function size) m.pc kept.0 found.0 flow.0)

    pub leads_from : (node begun : ℕ) → IsAt image (setting n function size) values m.pc node begun → Proceeds image entry n graphs home m (Running (n.graph_number function) node values below)
    leads_from _ _ (at_entrance pc_is) =
        step_more m _ _ (from_entrance image entry n graphs home no_fault whole function size reached sized m ok back values below in_run_ups alike began waiting)
        (begin_on function (entry_reached image entry n graphs home no_fault whole function size reached sized m ok back values below in_run_ups alike began waiting) (at_entry image function values) pc_is)
    leads_from _ _ (at_landing address target there flow_is even pc_is) =
        elim (from_landing image entry n graphs home no_fault whole function size reached sized m ok back values below in_run_ups alike began waiting address target there flow_is even pc_is) [
          | inl none ↦ one_step m _ (subst (Acts image entry n home m) (sym none) fails)
          | inr on ↦ step_more m _ _ on.0 (begin_on (address + 4) on.1 on.3 on.2)
        ]
    leads_from _ _ (in_instruction kept i flow passed left there is flow_is kept_is paired tests hold node) = run_on kept i flow left passed there is flow_is kept_is paired tests hold node
    leads_from _ _ (further_in index further) = further_on index further

  -- from wherever the machine corresponds to the run
  pub leads : (m : Machine) (begun : ℕ) (s : State) → IsSound image m → Corresponds image entry n home m begun s → Proceeds image entry n graphs home m s
  unfolding step after
  leads m _ _ ok (corresponds function size node begun back values below reached sized at in_run_ups alike began waiting) =
      leads_from function size reached sized m ok back values below in_run_ups alike began waiting node begun at
  leads m _ _ ok (at_tail_landing graph node values below lands alike rest) =
      step_more m _ _ (tail_lands image entry n graphs home no_fault whole graph node values below lands) (leads m 0 (leave values below) ok rest)
  leads m _ _ ok (at_home values there alike) = record { count = 1; some = omega arith; comes = has_come_home values there alike }

  -- 1 where the run is at a node of an instruction, and else 0
  abbrev pub count_of : (m : Machine) (begun : ℕ) (s : State) → IsSound image m → Corresponds image entry n home m begun s → ℕ
  count_of m _ _ ok (corresponds function size node begun back values below reached sized at in_run_ups alike began waiting) =
      count_at image entry n graphs home no_fault whole function size reached sized m ok back values below in_run_ups alike began waiting node begun at
  count_of m _ _ ok (at_tail_landing graph node values below lands alike rest) = 0
  count_of m _ _ ok (at_home values there alike) = 0

  pub moves : (m : Machine) (begun : ℕ) (s : State) (ok : IsSound image m) (correspondence : Corresponds image entry n home m begun s)
      → Moves image entry n home m (count_of m begun s ok correspondence) (step graphs s)
  unfolding step
  moves m _ _ ok (corresponds function size node begun back values below reached sized at in_run_ups alike began waiting) =
      any_moves image entry n graphs home no_fault whole function size reached sized m ok back values below in_run_ups alike began waiting node begun at
  moves m _ _ ok (at_tail_landing graph node values below lands alike rest) =
      subst (Moves image entry n home m 0) (sym (tail_lands image entry n graphs home no_fault whole graph node values below lands)) (waits 0 _ rest)
  moves m _ _ ok (at_home values there alike) = waits 0 _ (at_home values there alike)
