-- The instructions of the machine are counted by the nodes of the graphs at which an instruction begins.
use Rattle.std.proofs.Common.{◌≡◌, ◌∙◌, ◌⊎◌, inl, inr, ℕ, zero, suc, ◌+◌, ◌%◌, ◌<◌, Bool, true, cond, refl, sym, ap, subst, arith, eq-eqb, ne_eqb, List, [], ◌∷◌, ◌++◌, length, Some, None}
use Rattle.std.specs.Prelude.{slice_get}
use Rattle.std.proofs.lemmas.List.{append-nil}
use Rattle.rv_instr.specs.declared.Instr.{Instr}
use Rattle.rv_machine_spec.specs.Machine.{Machine, read_register}
use Rattle.elf_read_spec.specs.Image.{Image, size_at}
use Rattle.code_reach_spec.specs.Code.{Flow, Branches, Calls, Switches, instr_at, flow_at, IsReachable, Reaches}
use Rattle.code_reach_spec.specs.Faults.{HasNoFault, ReachesNoFault}
use Rattle.term_core_spec.specs.Term.{Term}
use Rattle.term_core_spec.specs.Value.{Assignment}
use Rattle.graph_core_spec.specs.declared.Next.TheVariants as to
use Rattle.graph_core_spec.specs.Graph.{Node, Basic, Cond, Graphs}
use Rattle.graph_core_spec.specs.Run.{Waiting, State, Running, Returned, Failed, step, system_of}
use Rattle.graph_core_spec.specs.TransitionSystem.{TransitionSystem, after}
use Rattle.decompile_spec.specs.State.{Alike}
use Rattle.decompile_spec.specs.Blocks.{NodeName, Entrance, Of, Following, Setting, Ending, Does, Goes, call_nodes, tail_call_nodes, toward, onward, chain, tests_of, ending_of, nodes_at, landing_of}
use Rattle.decompile_spec.specs.CodeGraph.{IsKept, IsNodeAt, entrance, of_instruction, landing}
use Rattle.decompile_laws.specs.Together.{Numbering, setting, AreCodeGraphs, is_node, begun_by, IsFurther, at_kept, in_table, IsAt, at_entrance, at_landing, in_instruction, further_in, Began, AreWaiting, tail_landing, Corresponds, corresponds, at_tail_landing, at_home, IsSound, IsOutside, failed, is_first, AreFirsts, one_if, weight, passed_by, HasComeHome, StartAlike, CountsInstructions}
use Rattle.decompile_laws.specs.RunUps.{IsInRunUps}
use Rattle.decompile_laws.proofs.KeptBranches.{kept_or_not}
use Rattle.decompile_laws.proofs.Reached.{has_instruction}
use Rattle.decompile_laws.proofs.Nodes.{test_in, last_in, kept_node, table_node, call_long}
use Rattle.decompile_laws.proofs.Steps.{Goes_on, Acts, Moves, fails, goes_on, returns, stops, acts, waits, clean, tail_node}
use Rattle.decompile_laws.proofs.Moving.{count_at}
use Rattle.decompile_laws.proofs.Leading.{count_of, moves}
use Rattle.decompile_laws.proofs.Running.{StartsAt, at_once, one_later, over_stays, is_home, begins}

module _ (image : Image) (entry : ℕ) (n : Numbering) (graphs : Graphs) (home : ℕ) (no_fault : ReachesNoFault image entry) (whole : AreCodeGraphs image entry n graphs)
    (marked : ℕ → ℕ → Bool) (firsts : AreFirsts image entry n marked) where
  abbrev w : TransitionSystem State
  w = system_of graphs (n.graph_number entry)

  -- ---- the weight of a node

  -- the node at which a run is in an instruction
  node_of : (f : Setting) (address : ℕ) (kept : Bool) (i : Instr) (flow : Flow) (passed left : List Term) → IsReachable image f.entry f.size address → instr_at image address ≡ Some i
      → flow_at image f.entry address ≡ Some flow → IsKept image f.entry f.size address kept → tests_of f i flow ≡ passed ++ left → is_node left (ending_of f address kept i flow) ≡ true
      → (node : Node) × IsNodeAt image f (Of address (length passed)) node
  unfolding nodes_at
  node_of f address kept i flow passed (test ∷ left) there is flow_is kept_is tests node = (
    Cond test (onward f address (0 + length passed + 1) left (ending_of f address kept i flow)) to.Err,
    of_instruction address (length passed) kept i flow _ there is flow_is kept_is
        (ap (λ ts. slice_get (chain f address 0 ts (ending_of f address kept i flow)) (length passed)) tests ∙ test_in f address 0 passed test left (ending_of f address kept i flow)),
  )
  node_of f address kept i flow passed [] there is flow_is kept_is tests node = by (ending_of f address kept i flow) refl node
    where
      by : (e : Ending) → ending_of f address kept i flow ≡ e → is_node [] e ≡ true → (node : Node) × IsNodeAt image f (Of address (length passed)) node
      by (Goes next) same none = absurd (cc)
      by (Does last more) same some = (
        last,
        of_instruction address (length passed) kept i flow last there is flow_is kept_is
            (ap (λ ts. slice_get (chain f address 0 ts (ending_of f address kept i flow)) (length passed)) (tests ∙ append-nil passed)
            ∙ ap (λ (e : Ending). slice_get (chain f address 0 passed e) (length passed)) same
            ∙ last_in f address 0 passed last more),
      )

  -- the node at which it is further in one
  further_node : (f : Setting) (values : Assignment) (address index : ℕ) → HasNoFault image f.entry f.size → IsFurther image f values address index
      → (node : Node) × IsNodeAt image f (Of address index) node × (0 < index)
  further_node f values address _ sound (at_kept target i there is flow_is keeping off) =
      (_, of_instruction address 1 true i (Branches target) _ there is flow_is keeping (kept_node f address i target), omega arith)
  further_node f values address _ sound (in_table jump test index there flow_is some within kept_index low) =
      let i = has_instruction image f.entry f.size address sound there in
      let kept = kept_or_not image f.entry f.size sound address there in
      let node = table_node f address kept.0 i.0 jump test within in
      (node.0, of_instruction address test kept.0 i.0 (Switches jump) node.0 there i.1 flow_is kept.1 node.1, some)

  marks : (function size : ℕ) → Reaches image entry function → size_at image function ≡ Some size → (name : NodeName) (node : Node)
      → IsNodeAt image (setting n function size) name node → one_if (marked (n.graph_number function) (n.node_number function name)) ≡ one_if (is_first name)
  marks function size reached sized name node is = ap one_if (firsts.each function size name node reached sized is)

  module _ (function size : ℕ) (reached : Reaches image entry function) (sized : size_at image function ≡ Some size) (m : Machine) (ok : IsSound image m)
      (back : ℕ) (values : Assignment) (below : List Waiting) (in_run_ups : IsInRunUps image function size m values) (alike : Alike m values) (began : Began values back)
      (waiting : AreWaiting image entry n home below back) where
    abbrev f : Setting
    f = setting n function size

    instruction_weighs : (passed : List Term) (b begun : ℕ) → b ≡ one_if (is_first (Of m.pc (length passed))) → begun ≡ begun_by passed → b + begun ≡ 1
    instruction_weighs [] b begun is same = omega (arith, is, same)
    instruction_weighs (test ∷ passed) b begun is same =
        let none : b ≡ 0 = is ∙ ap one_if (ne_eqb (length (test ∷ passed)) 0 (λ e. absurd (omega (arith, e)))) in
        omega (arith, none, same)

    weighs_at : (node begun : ℕ) (at : IsAt image f values m.pc node begun)
        → one_if (marked (n.graph_number function) node) + begun ≡ count_at image entry n graphs home no_fault whole function size reached sized m ok back values below in_run_ups alike began waiting node begun at
    unfolding landing_of
    weighs_at _ _ (at_entrance pc_is) =
        let none : one_if (marked (n.graph_number function) (n.node_number function Entrance)) ≡ 0 = marks function size reached sized Entrance _ entrance in
        omega (arith, none)
    weighs_at _ _ (at_landing address target there flow_is even pc_is) =
        let found = has_instruction image function size address (clean image entry n graphs home no_fault whole function size reached sized) there in
        let kept = kept_or_not image function size (clean image entry n graphs home no_fault whole function size reached sized) address there in
        let placed : IsNodeAt image f (Following address call_nodes) (Basic [] (toward f (address + 4))) =
        landing address call_nodes kept.0 found.0 (Calls target) (toward f (address + 4)) there found.1 flow_is kept.1 (call_long f address kept.0 found.0 target)
        (ap (λ (b : Bool). cond b (Some (toward f (address + 4))) None) (eq-eqb (target % 4) 0 even)) in
        let none : one_if (marked (n.graph_number function) (n.node_number function (Following address call_nodes))) ≡ 0 = marks function size reached sized (Following address call_nodes) _ placed in
        omega (arith, none)
    weighs_at _ _ (further_in index further) =
        let placed = further_node f values m.pc index (clean image entry n graphs home no_fault whole function size reached sized) further in
        let none : one_if (marked (n.graph_number function) (n.node_number function (Of m.pc index))) ≡ 0 =
        marks function size reached sized (Of m.pc index) placed.0 placed.1 ∙ ap one_if (ne_eqb index 0 (λ e. absurd (omega (arith, e, placed.2)))) in
        omega (arith, none)
    weighs_at _ _ (in_instruction kept i flow passed left there is flow_is kept_is paired tests hold node) =
        let placed = node_of f m.pc kept i flow passed left there is flow_is kept_is tests node in
        instruction_weighs passed _ _ (marks function size reached sized (Of m.pc (length passed)) placed.0 placed.1) refl

  weighs : (m : Machine) (begun : ℕ) (s : State) (ok : IsSound image m) (c : Corresponds image entry n home m begun s)
      → weight marked s + begun ≡ count_of image entry n graphs home no_fault whole m begun s ok c
  weighs m _ _ ok (corresponds function size node begun back values below reached sized at in_run_ups alike began waiting) =
      weighs_at function size reached sized m ok back values below in_run_ups alike began waiting node begun at
  weighs m _ _ ok (at_tail_landing _ _ values below (tail_landing function size address target ends) alike rest) =
      let none : one_if (marked (n.graph_number function) (n.node_number function (Following address tail_call_nodes))) ≡ 0 =
      marks function size ends.reached ends.sized (Following address tail_call_nodes) _ (tail_node image entry n graphs home no_fault whole function size address target ends) in
      omega (arith, none)
  weighs m _ _ ok (at_home values there alike) = refl

  -- ---- of a run

  module _ (even : home % 4 ≡ 0) (outside : IsOutside image entry home) where
    Counted : (t : ℕ) (m : Machine) (begun : ℕ) (s : State) → Type 0
    Counted t m begun s = (after w t s ≡ Failed)
        ⊎ ((k : ℕ) × (starts : StartsAt image entry n graphs home no_fault whole m home k (after w t s)) × (passed_by graphs marked t s + begun ≡ k + starts.begun))

    counted : (t : ℕ) (m : Machine) (begun : ℕ) (s : State) → IsSound image m → Corresponds image entry n home m begun s → Counted t m begun s
    unfolding Counted after passed_by
    counted zero m begun s ok alike = inr (0, at_once image entry n graphs home no_fault whole m home begun s ok alike, refl)
    counted (suc t) m begun s ok alike =
        by _ (step graphs s) refl (weighs m begun s ok alike) (moves image entry n graphs home no_fault whole m begun s ok alike)
        (λ then now_begun x sound correspondence. counted t then now_begun x sound correspondence)
      where
        Shown : State → Type 0
        Shown y = (after w t y ≡ Failed) ⊎ ((k : ℕ) × (starts : StartsAt image entry n graphs home no_fault whole m home k (after w t y))
            × (weight marked s + passed_by graphs marked t y + begun ≡ k + starts.begun))

        -- by a step of the run alone
        waited : (now_begun : ℕ) (x : State) → step graphs s ≡ x → weight marked s + begun ≡ now_begun → Counted t m now_begun x → Shown (step graphs s)
        waited now_begun x e weighed (inl failed_there) = inl (ap (after w t) e ∙ failed_there)
        waited now_begun x e weighed (inr found) = subst Shown (sym e) (inr (found.0, found.1, omega (arith, found.2, weighed)))

        -- by a step of both
        went : (x : State) → step graphs s ≡ x → weight marked s + begun ≡ 1 → (on : Goes_on image entry n home m x) → Counted t on.then 0 x → Shown (step graphs s)
        went x e weighed on (inl failed_there) = inl (ap (after w t) e ∙ failed_there)
        went x e weighed on (inr found) = subst Shown (sym e)
            (inr (suc found.0, one_later image entry n graphs home no_fault whole m home found.0 (after w t x) x outside on found.1, omega (arith, found.2, weighed)))

        acted : (x : State) → step graphs s ≡ x → weight marked s + begun ≡ 1 → Acts image entry n home m x
            → ((then : Machine) (now_begun : ℕ) (y : State) → IsSound image then → Corresponds image entry n home then now_begun y → Counted t then now_begun y) → Shown (step graphs s)
        acted _ e weighed fails rest = inl (ap (after w t) e ∙ over_stays image entry n graphs home no_fault whole Failed failed t)
        acted _ e weighed (goes_on x on) rest = went x e weighed on (rest on.then 0 x on.sound on.correspondence)
        acted _ e weighed (returns x among returning goes) rest = went x e weighed (goes even) (rest (goes even).then 0 x (goes even).sound (goes even).correspondence)

        by : (count : ℕ) (x : State) → step graphs s ≡ x → weight marked s + begun ≡ count → Moves image entry n home m count x
            → ((then : Machine) (now_begun : ℕ) (y : State) → IsSound image then → Corresponds image entry n home then now_begun y → Counted t then now_begun y) → Shown (step graphs s)
        by _ _ e weighed (stops count) rest = inl (ap (after w t) e ∙ over_stays image entry n graphs home no_fault whole Failed failed t)
        by _ _ e weighed (waits now_begun x correspondence) rest = waited now_begun x e weighed (rest m now_begun x ok correspondence)
        by _ _ e weighed (acts x act_is) rest = acted x e weighed act_is rest

-- ---- from the start on

pub count_instructions : (image : Image) (entry size : ℕ) (n : Numbering) (graphs : Graphs) (marked : ℕ → ℕ → Bool) (m : Machine) (values : Assignment) → size_at image entry ≡ Some size
    → ReachesNoFault image entry → (whole : AreCodeGraphs image entry n graphs) → StartAlike image entry m values → AreFirsts image entry n marked
    → read_register m 1 % 4 ≡ 0 → IsOutside image entry (read_register m 1) → CountsInstructions image entry n graphs marked m values
unfolding Counted
count_instructions image entry size n graphs marked m values sized no_fault whole start firsts even outside = λ t final e.
    by t final e (counted image entry n graphs (read_register m 1) no_fault whole marked firsts even outside t m 0 first start.sound
    (begins image entry size n graphs m values sized no_fault whole start))
  where
    first : State
    first = Running (n.graph_number entry) (n.node_number entry Entrance) values []

    not_both : (final : Assignment) → Failed ≡ Returned final → ⊥
    not_both final f = absurd (cc)

    by : (t : ℕ) (final : Assignment) → after (system_of graphs (n.graph_number entry)) t first ≡ Returned final
        → Counted image entry n graphs (read_register m 1) no_fault whole marked firsts even outside t m 0 first
        → HasComeHome image m (passed_by graphs marked t first) final
    by t final e (inl failed_there) = absurd (not_both final (sym failed_there ∙ e))
    by t final e (inr (k, starts, sum)) =
        let back = is_home image entry n graphs (read_register m 1) no_fault whole even outside starts.now starts.begun _ final e starts.alike in
        let same : passed_by graphs marked t first ≡ k = omega (arith, sum, back.2) in
        subst (λ j. HasComeHome image m j final) (sym same)
        (record { final = starts.now; final_is = starts.now_is; home = back.0; sound = starts.sound; alike = back.1 })
