-- Every step of a run of the graphs of code, and the machine that corresponds to it.
use Rattle.std.proofs.Common.{◌≡◌, ◌∙◌, ◌⊎◌, inl, inr, ℕ, ◌+◌, ◌%◌, ◌==◌, Bool, true, false, cond, refl, sym, ap, subst, arith, eq-eqb, eqb-true, List, [], ◌∷◌, ◌++◌, length, Some}
use Rattle.std.specs.Prelude.{slice_get}
use Rattle.std.proofs.lemmas.List.{append-nil, append_assoc, length-append}
use Rattle.rv_instr.specs.declared.Instr.{Instr}
use Rattle.rv_machine_spec.specs.Machine.{Machine, read_register, past}
use Rattle.elf_read_spec.specs.Image.{Image, size_at}
use Rattle.code_reach_spec.specs.Code.{InRange, Flow, Falls, Branches, Jumps, Calls, Links, Returns, Switches, Stops, instr_at, instr_before, flow_at, IsReachable, here, next, Reaches}
use Rattle.code_reach_spec.specs.Faults.{ReachesNoFault}
use Rattle.term_core_spec.specs.Term.{Term}
use Rattle.term_core_spec.specs.Value.{Assignment}
use Rattle.graph_core_spec.specs.declared.Next.{Next}
use Rattle.graph_core_spec.specs.declared.Next.TheVariants as to
use Rattle.graph_core_spec.specs.Graph.{Node, Basic, Cond, Graphs}
use Rattle.graph_core_spec.specs.Run.{Waiting, State, Running, Failed, step, go, is_truth}
use Rattle.decompile_spec.specs.State.{Alike}
use Rattle.decompile_spec.specs.InstructionTerms.{returns_home}
use Rattle.decompile_spec.specs.Blocks.{Entrance, Of, Following, Setting, call_nodes, toward, chain, tests_of, ending_of, nodes_at, landing_of}
use Rattle.decompile_spec.specs.CodeGraph.{IsKept, IsNodeAt, entrance, of_instruction, landing}
use Rattle.decompile_laws.specs.Together.{Numbering, setting, AreCodeGraphs, is_node, begun_by, IsFurther, at_kept, in_table, IsAt, at_entrance, at_landing, in_instruction, further_in, IsAfterAuipc, Began, AreWaiting, Corresponds, corresponds, IsSound}
use Rattle.decompile_laws.specs.Evaluation.{all_hold}
use Rattle.decompile_laws.proofs.Reached.{first_in, inside_range, whole_word, code_there, has_code, has_instruction}
use Rattle.decompile_laws.specs.RunUps.{IsInRunUps}
use Rattle.decompile_laws.proofs.Switching.{flow_there}
use Rattle.decompile_laws.proofs.KeptBranches.{kept_or_not}
use Rattle.decompile_laws.proofs.Paired.{IsPaired, at_entry, at_next, no_auipc}
use Rattle.decompile_laws.proofs.Fetched.{steps_by}
use Rattle.decompile_laws.proofs.Stored.{more_holds}
use Rattle.decompile_laws.proofs.Turning.{return_is}
use Rattle.decompile_laws.proofs.Nodes.{does_begin, branch_begins, all_begin, call_long, toward_there, toward_either}
use Rattle.decompile_laws.proofs.Steps.{Acts, Moves, Lasts, has_done, goes_further, fails, stops, acts, waits, nothing_bound, home_evaluates, clean, start_at, stepped, among, next_test, last_moves, by_kept, table_step, comes_back}

module _ (image : Image) (entry : ℕ) (n : Numbering) (graphs : Graphs) (home : ℕ) (no_fault : ReachesNoFault image entry) (whole : AreCodeGraphs image entry n graphs)
    (function size : ℕ) (reached : Reaches image entry function) (sized : size_at image function ≡ Some size) (m : Machine) (ok : IsSound image m)
    (back : ℕ) (values : Assignment) (below : List Waiting) (in_run_ups : IsInRunUps image function size m values) (alike : Alike m values) (began : Began values back)
    (waiting : AreWaiting image entry n home below back) where
  abbrev f : Setting
  f = setting n function size

  abbrev g : ℕ
  g = n.graph_number function

  pub return_moves : (kept : Bool) (i : Instr) (passed : List Term) → IsReachable image function size m.pc → instr_at image m.pc ≡ Some i → flow_at image function m.pc ≡ Some Returns
      → IsKept image function size m.pc kept → passed ≡ [] → Acts image entry n home m (step graphs (Running g (n.node_number function (Of m.pc (length passed))) values below))
  unfolding nodes_at tests_of ending_of chain
  return_moves kept i passed there is flow_is kept_is none = at (read_register m 1 == back) refl
    where
      node : Node
      node = Cond returns_home to.Ret to.Err

      placed : IsNodeAt image f (Of m.pc (length passed)) node
      placed = of_instruction m.pc (length passed) kept i Returns node there is flow_is kept_is (ap (λ (ts : List Term). slice_get (node ∷ []) (length ts)) none)

      on_step : (b : Bool) → (read_register m 1 == back) ≡ b → step graphs (Running g (n.node_number function (Of m.pc (length passed))) values below) ≡ go g (cond b to.Ret to.Err) values below
      on_step b e = stepped image entry n graphs home no_fault whole function size reached sized m ok back values below in_run_ups alike began waiting (Of m.pc (length passed)) node placed
          ∙ ap (λ (x : Bool). go g (cond x to.Ret to.Err) values below) (ap is_truth (home_evaluates values m back alike began) ∙ e)

      at : (b : Bool) → (read_register m 1 == back) ≡ b → Acts image entry n home m (step graphs (Running g (n.node_number function (Of m.pc (length passed))) values below))
      at true e = subst (Acts image entry n home m) (sym (on_step true e))
          (comes_back image entry n graphs home no_fault whole m ok
          (among image entry n graphs home no_fault whole function size reached sized m ok back values below in_run_ups alike began waiting there) i
          (steps_by image m i ok.fixed (whole_word image function size m.pc there) is) (return_is (instr_before image function m.pc) i m.pc (flow_there image function m.pc i Returns is flow_is (λ jump e. absurd (cc)))) below back values alike waiting (eqb-true (read_register m 1) back e))
      at false e = subst (Acts image entry n home m) (sym (on_step false e)) fails

  -- a return has one test
  pub first_of_one : (passed : List Term) (test : Term) (left : List Term) → returns_home ∷ [] ≡ passed ++ test ∷ left → passed ≡ []
  first_of_one [] test left e = refl
  first_of_one (t ∷ passed) test left e = absurd (let count : length (returns_home ∷ []) ≡ length ((t ∷ passed) ++ test ∷ left) = ap (λ (ts : List Term). length ts) e in omega (arith, count, length-append passed (test ∷ left)))

  -- a test that isn't a return's has something after it
  pub continues : (kept : Bool) (i : Instr) (flow : Flow) (passed : List Term) (test : Term) (left : List Term) → tests_of f i flow ≡ passed ++ test ∷ left
      → (is_node left (ending_of f m.pc kept i flow) ≡ true) ⊎ (flow ≡ Returns)
  unfolding tests_of ending_of
  continues kept i Falls passed test left e = inl (does_begin f m.pc left _ _)
  continues kept i (Branches target) passed test left e = inl (branch_begins f m.pc kept i target left)
  continues kept i (Jumps target) passed test left e = inl (does_begin f m.pc left _ _)
  continues kept i (Calls target) passed test left e = inl (does_begin f m.pc left _ _)
  continues kept i (Links target) passed test left e = inl (does_begin f m.pc left _ _)
  continues kept i Returns passed test left e = inr refl
  continues kept i (Switches jump) passed test left e = inl (all_begin f m.pc _ left)
  continues kept i Stops passed test left e = inl (does_begin f m.pc left _ _)

  begun_more : (passed : List Term) (test : Term) → begun_by (passed ++ test ∷ []) ≡ 1
  begun_more [] test = refl
  begun_more (t ∷ passed) test = refl

  lasting : (s : State) → Lasts image entry n home function size m values below s → Moves image entry n home m 1 s
  lasting _ (has_done s done) = acts s done
  lasting _ (goes_further index further) =
      waits 1 _ (corresponds function size _ 1 back values below reached sized (further_in index further) in_run_ups alike began waiting)

  -- from a node of an instruction on
  pub instruction_moves : (kept : Bool) (i : Instr) (flow : Flow) (passed left : List Term) → IsReachable image function size m.pc → instr_at image m.pc ≡ Some i
      → flow_at image function m.pc ≡ Some flow → IsKept image function size m.pc kept → IsAfterAuipc values (instr_before image function m.pc) m.pc i flow
      → tests_of f i flow ≡ passed ++ left → all_hold values passed ≡ true → is_node left (ending_of f m.pc kept i flow) ≡ true
      → Moves image entry n home m 1 (step graphs (Running g (n.node_number function (Of m.pc (length passed))) values below))
  unfolding tests_of
  instruction_moves kept i flow passed [] there is flow_is kept_is paired tests hold node =
      lasting _ (last_moves image entry n graphs home no_fault whole function size reached sized m ok back values below in_run_ups alike began waiting kept kept_is i passed there is flow flow_is paired
      (tests ∙ append-nil passed) hold node)
  instruction_moves kept i flow passed (test ∷ left) there is flow_is kept_is paired tests hold node = elim (continues kept i flow passed test left tests) [
    | inl more ↦ elim (next_test image entry n graphs home no_fault whole function size reached sized m ok back values below in_run_ups alike began waiting kept i flow passed test left there is flow_is kept_is tests more) [
      | inl failed ↦ subst (Moves image entry n home m 1) (sym failed) (stops 1)
      | inr on ↦ subst (Moves image entry n home m 1) (sym on.0) (waits 1 _ (corresponds function size _ 1 back values below reached sized
          (subst (IsAt image f values m.pc (n.node_number function (Of m.pc (length (passed ++ test ∷ []))))) (begun_more passed test)
          (in_instruction kept i flow (passed ++ test ∷ []) left there is flow_is kept_is paired (tests ∙ sym (append_assoc passed (test ∷ []) left)) (more_holds values passed test hold on.1) more))
          in_run_ups alike began waiting))
    ]
    | inr home_bound ↦
        acts _ (return_moves kept i passed there is (flow_is ∙ ap Some home_bound) kept_is (first_of_one passed test left (sym (ap (λ (fl : Flow). tests_of f i fl) home_bound) ∙ tests)))
  ]

  -- from a further node on
  pub further_moves : (index : ℕ) → IsFurther image f values m.pc index
      → Moves image entry n home m 1 (step graphs (Running g (n.node_number function (Of m.pc index)) values below))
  further_moves _ (at_kept target i there is flow_is keeping off) =
      acts _ (by_kept image entry n graphs home no_fault whole function size reached sized m ok back values below in_run_ups alike began waiting true keeping i [] there is target flow_is keeping off)
  further_moves _ (in_table jump test index there flow_is some within kept_index low) =
      elim (table_step image entry n graphs home no_fault whole function size reached sized m ok back values below in_run_ups alike began waiting jump test index there flow_is kept_index low) [
        | inl acts_now ↦ acts _ acts_now
        | inr on ↦ subst (Moves image entry n home m 1) (sym on.0) (waits 1 _ (corresponds function size _ 1 back values below reached sized
            (further_in (test + 1) (in_table jump (test + 1) index there flow_is (omega arith) (omega (arith, on.1, on.2)) kept_index (omega (arith, on.1))))
            in_run_ups alike began waiting))
      ]

  -- from the landing node at the entry
  pub from_entrance : step graphs (Running g (n.node_number function Entrance) values below) ≡ Running g (n.node_number function (Of function 0)) values below
  from_entrance =
      stepped image entry n graphs home no_fault whole function size reached sized m ok back values below in_run_ups alike began waiting Entrance (Basic [] (to.At (n.node_number function (Of function 0)))) entrance
      ∙ ap (λ (v : Assignment). Running g (n.node_number function (Of function 0)) v below) (nothing_bound values)

  pub entry_reached : IsReachable image function size function
  entry_reached = here (code_there image function size (clean image entry n graphs home no_fault whole function size reached sized))

  -- from the landing node after a call, unless it lies at the end of the function
  pub from_landing : (address target : ℕ) → IsReachable image function size address → flow_at image function address ≡ Some (Calls target) → target % 4 ≡ 0 → m.pc ≡ past address 4
      → (step graphs (Running g (n.node_number function (Following address call_nodes)) values below) ≡ Failed)
      ⊎ ((step graphs (Running g (n.node_number function (Following address call_nodes)) values below) ≡ Running g (n.node_number function (Of (address + 4) 0)) values below)
      × IsReachable image function size (address + 4) × (m.pc ≡ address + 4) × IsPaired image function values (address + 4))
  unfolding landing_of
  from_landing address target there flow_is even pc_is = at (toward_either f (address + 4))
    where
      found : (i : Instr) × (instr_at image address ≡ Some i)
      found = has_instruction image function size address (clean image entry n graphs home no_fault whole function size reached sized) there

      kept : (k : Bool) × IsKept image function size address k
      kept = kept_or_not image function size (clean image entry n graphs home no_fault whole function size reached sized) address there

      landed : step graphs (Running g (n.node_number function (Following address call_nodes)) values below) ≡ go g (toward f (address + 4)) values below
      landed = stepped image entry n graphs home no_fault whole function size reached sized m ok back values below in_run_ups alike began waiting (Following address call_nodes) (Basic [] (toward f (address + 4)))
          (landing address call_nodes kept.0 found.0 (Calls target) (toward f (address + 4)) there found.1 flow_is kept.1 (call_long f address kept.0 found.0 target) (rw (eq-eqb (target % 4) 0 even) refl))
          ∙ ap (λ (v : Assignment). go g (toward f (address + 4)) v below) (nothing_bound values)

      paired : IsPaired image function values (address + 4)
      paired = at_next image function address values found.0 (inside_range image function size address there).from found.1
          (λ r imm auipc nonzero. absurd (no_auipc (instr_before image function address) address found.0 (Calls target)
          (flow_there image function address found.0 (Calls target) found.1 flow_is (λ jump e. absurd (cc))) (λ x. absurd (cc)) r imm auipc))

      at : (toward f (address + 4) ≡ to.Err) ⊎ (((address + 4) % 4 ≡ 0) × InRange function size (address + 4))
          → (step graphs (Running g (n.node_number function (Following address call_nodes)) values below) ≡ Failed)
          ⊎ ((step graphs (Running g (n.node_number function (Following address call_nodes)) values below) ≡ Running g (n.node_number function (Of (address + 4) 0)) values below)
          × IsReachable image function size (address + 4) × (m.pc ≡ address + 4) × IsPaired image function values (address + 4))
      at (inl outside) = inl (landed ∙ ap (λ (x : Next). go g x values below) outside)
      at (inr inside) =
          let reach : IsReachable image function size (address + 4) = next address (address + 4) (Calls target) there flow_is (first_in (address + 4) []) inside.1 in
          let pc_there : m.pc ≡ address + 4 = omega (arith, pc_is, (has_code image function size address there).range_fixed.in_space, inside.1.below) in
          inr (landed ∙ ap (λ (x : Next). go g x values below) (toward_there f (address + 4) inside.0 inside.1), reach, pc_there, paired)

  -- corresponding to the first node of an instruction
  begins_corresponding : (address : ℕ) → IsReachable image function size address → IsPaired image function values address → m.pc ≡ address
      → Corresponds image entry n home m 0 (Running g (n.node_number function (Of address 0)) values below)
  begins_corresponding address there paired pc_is = corresponds function size _ 0 back values below reached sized
      (subst (λ p. IsAt image f values p (n.node_number function (Of address 0)) 0) (sym pc_is) (start_at image entry n graphs home no_fault whole function size address values reached sized there paired))
      in_run_ups alike began waiting

  -- from any node on: 1 at a node of an instruction, and else 0
  abbrev pub count_at : (node begun : ℕ) → IsAt image f values m.pc node begun → ℕ
  count_at _ _ (at_entrance pc_is) = 0
  count_at _ _ (at_landing address target there flow_is even pc_is) = 0
  count_at _ _ (in_instruction kept i flow passed left there is flow_is kept_is paired tests hold node) = 1
  count_at _ _ (further_in index further) = 1

  pub any_moves : (node begun : ℕ) (at : IsAt image f values m.pc node begun) → Moves image entry n home m (count_at node begun at) (step graphs (Running g node values below))
  any_moves _ _ (at_entrance pc_is) =
      subst (Moves image entry n home m 0) (sym from_entrance) (waits 0 _ (begins_corresponding function entry_reached (at_entry image function values) pc_is))
  any_moves _ _ (at_landing address target there flow_is even pc_is) = elim (from_landing address target there flow_is even pc_is) [
    | inl failed ↦ subst (Moves image entry n home m 0) (sym failed) (stops 0)
    | inr on ↦ subst (Moves image entry n home m 0) (sym on.0) (waits 0 _ (begins_corresponding (address + 4) on.1 on.3 on.2))
  ]
  any_moves _ _ (in_instruction kept i flow passed left there is flow_is kept_is paired tests hold node) =
      instruction_moves kept i flow passed left there is flow_is kept_is paired tests hold node
  any_moves _ _ (further_in index further) = further_moves index further
