-- One step of a run of the graphs of code, and the machine that corresponds to it.
use Rattle.std.proofs.Common.{◌≡◌, ◌≢◌, ◌∙◌, ◌⊎◌, inl, inr, ℕ, ◌+◌, ◌-◌, ◌*◌, ◌%◌, ◌^◌, ◌<◌, ◌≤◌, ◌==◌, ◌&&◌, not, Bool, true, false, cond, refl, sym, ap, subst, arith, eq-eqb, eqb-true, List, [], ◌∷◌, ◌++◌, length, get_or, Option, Some, None, ℤ, pos}
use Rattle.std.specs.Prelude.{slice_get, IfSome, IsSome, Contains, nat_le, nat_lt}
use Rattle.std.proofs.lemmas.Bool.{le-leb, lt-ltb, leb-true, ltb-true, eqb-false, and_parts}
use Rattle.std.proofs.lemmas.List.Elements.{Contains-get_or}
use Rattle.std.proofs.lemmas.Option.{same_Some}
use Rattle.std.proofs.lemmas.List.{length-append}
use Rattle.rv_instr.specs.declared.Instr.{Instr}
use Rattle.rv_instr.specs.declared.Instr.TheVariants.{Lui, Auipc, Jal, Jalr, Branch, Load, Store, Immediate, Shift, Arithmetic, Fence, Ecall, Ebreak}
use Rattle.rv_instr.specs.declared.BranchTest.{BranchTest}
use Rattle.rv_instr.specs.declared.BranchTest.TheVariants as branch
use Rattle.rv_machine_spec.specs.Arithmetic.{holds}
use Rattle.rv_machine_spec.specs.Machine.{Machine, IsMachine, read_register, write_register, past}
use Rattle.rv_machine_spec.specs.Step as machine
use Rattle.rv_machine_spec.specs.Step.{execute, goto}
use Rattle.rv_machine_spec.proofs.Registers.{memory-write}
use Rattle.rv_machine_spec.proofs.Kept.{execute_keeps, read_below}
use Rattle.elf_read_spec.specs.Image.{Image, size_at}
use Rattle.elf_read_spec.specs.Runs.{AreRuns}
use Rattle.code_reach_spec.specs.RunUp.{is_straight}
use Rattle.code_reach_spec.specs.Code.{HoldsFixed, InRange, Flow, Falls, Branches, Jumps, Calls, Links, Returns, Switches, Stops, TableJump, flow_of, instr_at, instr_before, flow_at, nexts_of, aligned, IsReachable, next, call, tail, Reaches, further}
use Rattle.code_reach_spec.specs.Faults.{targets_of, target_of_reached, is_pair, HasNoFault, ReachesNoFault}
use Rattle.code_reach_spec.proofs.First.{each_without}
use Rattle.term_core_spec.specs.declared.Width.TheVariants.{W32}
use Rattle.term_core_spec.specs.Term.{Term, open_term}
use Rattle.term_core_spec.specs.Value.{Truth, Number, Assignment, value}
use Rattle.graph_core_spec.specs.declared.Next.{Next}
use Rattle.graph_core_spec.specs.declared.Next.TheVariants as to
use Rattle.graph_core_spec.specs.Graph.{Node, Basic, Cond, Call, Graph, Graphs}
use Rattle.graph_core_spec.specs.Run.{Waiting, State, Running, Failed, step, act, go, leave, enter, bound, entered, resumed, is_truth}
use Rattle.decompile_spec.specs.State.{register, entry_register, table_index, Alike}
use Rattle.decompile_spec.specs.InstructionTerms.{number, operand, effects, branch_test, returns_home}
use Rattle.decompile_spec.specs.Blocks.{NodeName, Of, Following, Setting, Ending, Does, call_nodes, tail_call_nodes, is_inside, toward, onward, chain, leaves, call_inputs, tail_inputs, bounded_by, tests_of, ending_of, nodes_at, landing_of}
use Rattle.decompile_spec.specs.CodeGraph.{IsKept, IsNodeAt, of_instruction, landing}
use Rattle.decompile_laws.proofs.InstructionTerms.{constant_evaluates, taken_evaluates}
use Rattle.decompile_laws.proofs.Values.{equal_evaluates}
use Rattle.decompile_laws.proofs.Access.{operand_evaluates}
use Rattle.decompile_laws.specs.Together.{Numbering, setting, AreCodeGraphs, is_node, IsFurther, at_kept, in_table, IsAt, at_entrance, at_landing, in_instruction, IsAfterAuipc, Began, AreWaiting, nobody, after_call, after_tail_call, EndsByCall, IsTailLanding, tail_landing, Corresponds, corresponds, at_tail_landing, at_home, IsReturning, all_returned, at_landing_node, IsSound}
use Rattle.decompile_laws.specs.Evaluation.{all_hold}
use Rattle.decompile_laws.proofs.Reached.{first_in, second_in, is_aligned, inside_range, multiple_there, whole_word, has_instruction, stays_inside, jumps_inside, calls_function, table_whole, all_aligned, has_code}
use Rattle.decompile_laws.specs.RunUps.{IsTableJump, IsInRunUps}
use Rattle.decompile_laws.proofs.Switching.{has_flow, flow_there}
use Rattle.decompile_laws.proofs.RunUpSteps.{IsNotTaken}
use Rattle.decompile_laws.proofs.RunUpJumps.{GoesTo}
use Rattle.decompile_laws.proofs.RunUpsOf.{table_jump_at, outside_at_entry, outside_at_target, outside_after_call, KeepsIndex, falls_on, bounds_nothing, keeps_none, keeps_it, goes_to_target}
use Rattle.decompile_laws.proofs.KeptBranches.{kept_or_not}
use Rattle.decompile_laws.proofs.Paired.{IsPaired, at_target, at_next, no_auipc, after_falling}
use Rattle.decompile_laws.proofs.Fetched.{steps_by}
use Rattle.decompile_laws.proofs.Bound.{moved_alike, call_alike, call_began, tail_alike, tail_began, resumed_alike, resumed_began, index_is, index_alike, index_began, effects_index}
use Rattle.decompile_laws.proofs.Fields.{AreFields, fields_at}
use Rattle.decompile_laws.proofs.Falling.{falls, plain}
use Rattle.decompile_laws.proofs.Turning.{IsBranch, IsTurn, branch_is, branch_does, jump_is, call_is, turn_does, link_nowhere, jump_does}
use Rattle.decompile_laws.proofs.Nodes.{test_in, last_in, not_taken, branch_ends, kept_node, IsTest, table_node, begins, onward_node, toward_there, tail_call_long, node_there, graph_there}

-- the address lies in a function that is reached
pub record IsAmong (image : Image) (entry address : ℕ) : Type 0 where
  pub function : ℕ
  pub size : ℕ
  pub reached : Reaches image entry function
  pub sized : size_at image function ≡ Some size
  pub inside : InRange function size address

-- the machine does the step that the run does
pub record Goes_on (image : Image) (entry : ℕ) (n : Numbering) (home : ℕ) (m : Machine) (after : State) : Type 0 where
  pub then : Machine
  pub does : machine.step m ≡ Some then
  pub sound : IsSound image then
  pub among : IsAmong image entry m.pc
  pub correspondence : Corresponds image entry n home then 0 after

-- what one step of the run is to the machine, where it does something
pub data Acts (image : Image) (entry : ℕ) (n : Numbering) (home : ℕ) (m : Machine) : State → Type 0 where
  fails : Acts image entry n home m Failed
  goes_on : (after : State) → Goes_on image entry n home m after → Acts image entry n home m after
  -- the outermost function returns, which the machine does too if it is to a multiple of 4
  returns : (after : State) → IsAmong image entry m.pc → IsReturning image entry n after → (home % 4 ≡ 0 → Goes_on image entry n home m after) → Acts image entry n home m after

-- what one step of the run is to the machine: it may wait. Of the node of the step and of where the run is in an instruction,
-- `count` is 1 where the step is one of an instruction
pub data Moves (image : Image) (entry : ℕ) (n : Numbering) (home : ℕ) (m : Machine) : (count : ℕ) → State → Type 0 where
  stops : (count : ℕ) → Moves image entry n home m count Failed
  acts : (after : State) → Acts image entry n home m after → Moves image entry n home m 1 after
  waits : (begun : ℕ) (after : State) → Corresponds image entry n home m begun after → Moves image entry n home m begun after

-- what a step at the node of an instruction after its tests is to the machine: it may continue at a further node
pub data Lasts (image : Image) (entry : ℕ) (n : Numbering) (home function size : ℕ) (m : Machine) (values : Assignment) (below : List Waiting) : State → Type 0 where
  has_done : (after : State) → Acts image entry n home m after → Lasts image entry n home function size m values below after
  goes_further : (index : ℕ) → IsFurther image (setting n function size) values m.pc index
      → Lasts image entry n home function size m values below (Running (n.graph_number function) (n.node_number function (Of m.pc index)) values below)

-- what a branch bounds has a number
bounded_evaluates : (values : Assignment) (m : Machine) → Alike m values → (i : Instr) → AreFields i → (k : ℕ) × (value values (bounded_by i) ≡ Number W32 k)
bounded_evaluates values m alike (Branch test left right offset) fields = by test
  where
    by : (t : BranchTest) → (k : ℕ) × (value values (bounded_by (Branch t left right offset)) ≡ Number W32 k)
    by branch.LessUnsigned = (read_register m right, operand_evaluates values m alike right fields.1)
    by branch.GreaterOrEqualUnsigned = (read_register m left, operand_evaluates values m alike left fields.0)
    by branch.Equal = (0, constant_evaluates values 0)
    by branch.NotEqual = (0, constant_evaluates values 0)
    by branch.Less = (0, constant_evaluates values 0)
    by branch.GreaterOrEqual = (0, constant_evaluates values 0)
bounded_evaluates values m alike (Lui rd imm) fields = (0, constant_evaluates values 0)
bounded_evaluates values m alike (Auipc rd imm) fields = (0, constant_evaluates values 0)
bounded_evaluates values m alike (Jal rd offset) fields = (0, constant_evaluates values 0)
bounded_evaluates values m alike (Jalr rd base offset) fields = (0, constant_evaluates values 0)
bounded_evaluates values m alike (Load kind rd base offset) fields = (0, constant_evaluates values 0)
bounded_evaluates values m alike (Store kind base source offset) fields = (0, constant_evaluates values 0)
bounded_evaluates values m alike (Immediate operation rd source imm) fields = (0, constant_evaluates values 0)
bounded_evaluates values m alike (Shift operation rd source amount) fields = (0, constant_evaluates values 0)
bounded_evaluates values m alike (Arithmetic operation rd left right) fields = (0, constant_evaluates values 0)
bounded_evaluates values m alike (Fence rd source bits) fields = (0, constant_evaluates values 0)
bounded_evaluates values m alike Ecall fields = (0, constant_evaluates values 0)
bounded_evaluates values m alike Ebreak fields = (0, constant_evaluates values 0)

-- a machine that a sound one becomes is a machine
still_machine : (i : Instr) (m then : Machine) → IsMachine m → execute i m ≡ Some then → IsMachine then
still_machine i m then is does = subst (λ (o : Option Machine). IfSome o IsMachine) does (execute_keeps i m is)

leaving : (f : Setting) (target : ℕ) → target % 4 ≡ 0 → (InRange f.entry f.size target → ⊥) → leaves f target ≡ true
leaving f target whole_target outside = ap (λ (x : Bool). x && not (is_inside f target)) (eq-eqb (target % 4) 0 whole_target) ∙ by (is_inside f target) refl
  where
    by : (b : Bool) → is_inside f target ≡ b → (true && not b) ≡ true
    by false e = refl
    by true e =
        let sides = and_parts (nat_le f.entry target) (nat_lt target (f.entry + f.size)) e in
        absurd (outside (record { from = leb-true f.entry target sides.0; below = ltb-true target (f.entry + f.size) sides.1 }))

-- the test of a return
pub home_evaluates : (values : Assignment) (m : Machine) (back : ℕ) → Alike m values → Began values back → value values returns_home ≡ Truth (read_register m 1 == back)
unfolding value
home_evaluates values m back alike began =
    equal_evaluates values (open_term (register 1)) (open_term (entry_register 1)) (read_register m 1) back (alike.registers 1 (λ e. absurd (omega arith)) (omega arith)) began

not_leaving : (f : Setting) (target : ℕ) → InRange f.entry f.size target → leaves f target ≡ false
not_leaving f target inside = rw (le-leb f.entry target inside.from, lt-ltb target (f.entry + f.size) inside.below) (off (target % 4 == 0))
  where
    off : (b : Bool) → (b && false) ≡ false
    off true = refl
    off false = refl

misaligned : (f : Setting) (target : ℕ) → (target % 4 == 0) ≡ false → toward f target ≡ to.Err
unfolding toward
misaligned f target odd = rw odd refl

pub nothing_bound : (values : Assignment) → bound [] values values ≡ values
unfolding bound
nothing_bound values = refl

after_first : (a target : ℕ) → target % 4 ≡ 0 → Contains (a ∷ aligned target) target
after_first a target e = rw (eq-eqb (target % 4) 0 e) (second_in a target)

module _ (image : Image) (entry : ℕ) (n : Numbering) (graphs : Graphs) (home : ℕ) (no_fault : ReachesNoFault image entry) (whole : AreCodeGraphs image entry n graphs) where
  pub clean : (function size : ℕ) → Reaches image entry function → size_at image function ≡ Some size → HasNoFault image function size
  clean function size reached sized = each_without image entry function size no_fault reached sized

  runs_are : (function size : ℕ) → Reaches image entry function → size_at image function ≡ Some size → AreRuns image n.runs
  runs_are function size reached sized = (whole.each function size reached sized).2.runs_are

  -- the landing node after a tail call, and the step at it
  pub tail_node : (function size address target : ℕ) → EndsByCall image entry function size address target
      → IsNodeAt image (setting n function size) (Following address tail_call_nodes) (Basic [] to.Ret)
  unfolding landing_of
  tail_node function size address target ends =
      let there = has_instruction image function size address (clean function size ends.reached ends.sized) ends.there in
      let kept = kept_or_not image function size (clean function size ends.reached ends.sized) address ends.there in
      landing address tail_call_nodes kept.0 there.0 (Jumps target) to.Ret ends.there there.1 ends.flow_is kept.1
      (tail_call_long (setting n function size) address kept.0 there.0 target ends.leaves) (ap (λ (b : Bool). cond b (Some to.Ret) None) ends.leaves)

  pub tail_lands : (graph node : ℕ) (values : Assignment) (below : List Waiting) → IsTailLanding image entry n graph node
      → step graphs (Running graph node values below) ≡ leave values below
  unfolding step
  tail_lands _ _ values below (tail_landing function size address target ends) =
      ap (act graphs (n.graph_number function) (n.node_number function (Following address tail_call_nodes)) values below)
      (node_there image entry n graphs whole function size (Following address tail_call_nodes) (Basic [] to.Ret) ends.reached ends.sized (tail_node function size address target ends))
      ∙ ap (λ (v : Assignment). leave v below) (nothing_bound values)

  -- the first node of an instruction that is reached
  pub start_at : (function size address : ℕ) (values : Assignment) → Reaches image entry function → size_at image function ≡ Some size → IsReachable image function size address
      → IsPaired image function values address → IsAt image (setting n function size) values address (n.node_number function (Of address 0)) 0
  start_at function size address values reached sized there paired =
      let found = has_instruction image function size address (clean function size reached sized) there in
      let flow = has_flow image function address found.0 found.1 in
      let kept = kept_or_not image function size (clean function size reached sized) address there in
      in_instruction kept.0 found.0 flow.0 [] (tests_of (setting n function size) found.0 flow.0) there found.1 flow.1 kept.1 (paired found.0 flow.0 found.1 flow.1) refl refl
      (begins (setting n function size) address kept.0 found.0 flow.0)

  module _ (function size : ℕ) (reached : Reaches image entry function) (sized : size_at image function ≡ Some size) (m : Machine) (ok : IsSound image m)
      (back : ℕ) (values : Assignment) (below : List Waiting) (in_run_ups : IsInRunUps image function size m values) (alike : Alike m values) (began : Began values back)
      (waiting : AreWaiting image entry n home below back) where
    abbrev f : Setting
    f = setting n function size

    abbrev g : ℕ
    g = n.graph_number function

    -- the step at a node that is there
    pub stepped : (place : NodeName) (node : Node) → IsNodeAt image f place node
        → step graphs (Running g (n.node_number function place) values below) ≡ act graphs g (n.node_number function place) values below (Some node)
    unfolding step
    stepped place node is = ap (act graphs g (n.node_number function place) values below) (node_there image entry n graphs whole function size place node reached sized is)

    pub among : IsReachable image function size m.pc → IsAmong image entry m.pc
    among there = record { function = function; size = size; reached = reached; sized = sized; inside = inside_range image function size m.pc there }

    -- ---- a test

    pub next_test : (kept : Bool) (i : Instr) (flow : Flow) (passed : List Term) (test : Term) (left : List Term) → IsReachable image function size m.pc → instr_at image m.pc ≡ Some i
        → flow_at image function m.pc ≡ Some flow → IsKept image function size m.pc kept → tests_of f i flow ≡ passed ++ test ∷ left → is_node left (ending_of f m.pc kept i flow) ≡ true
        → (step graphs (Running g (n.node_number function (Of m.pc (length passed))) values below) ≡ Failed)
        ⊎ ((step graphs (Running g (n.node_number function (Of m.pc (length passed))) values below)
        ≡ Running g (n.node_number function (Of m.pc (length (passed ++ test ∷ [])))) values below) × (is_truth (value values test) ≡ true))
    unfolding nodes_at
    next_test kept i flow passed test left there is flow_is kept_is tests more = at (is_truth (value values test)) refl
      where
        node : Node
        node = Cond test (onward f m.pc (0 + length passed + 1) left (ending_of f m.pc kept i flow)) to.Err

        placed : IsNodeAt image f (Of m.pc (length passed)) node
        placed = of_instruction m.pc (length passed) kept i flow node there is flow_is kept_is
            (ap (λ ts. slice_get (chain f m.pc 0 ts (ending_of f m.pc kept i flow)) (length passed)) tests ∙ test_in f m.pc 0 passed test left (ending_of f m.pc kept i flow))

        count : 0 + length passed + 1 ≡ length (passed ++ test ∷ [])
        count = omega (arith, length-append passed (test ∷ []))

        at : (b : Bool) → is_truth (value values test) ≡ b
            → (step graphs (Running g (n.node_number function (Of m.pc (length passed))) values below) ≡ Failed)
            ⊎ ((step graphs (Running g (n.node_number function (Of m.pc (length passed))) values below)
            ≡ Running g (n.node_number function (Of m.pc (length (passed ++ test ∷ [])))) values below) × (is_truth (value values test) ≡ true))
        at false e = inl (stepped (Of m.pc (length passed)) node placed
            ∙ ap (λ (b : Bool). go g (cond b (onward f m.pc (0 + length passed + 1) left (ending_of f m.pc kept i flow)) to.Err) values below) e)
        at true e = inr (
          stepped (Of m.pc (length passed)) node placed
              ∙ ap (λ (b : Bool). go g (cond b (onward f m.pc (0 + length passed + 1) left (ending_of f m.pc kept i flow)) to.Err) values below) e
              ∙ ap (λ (x : Next). go g x values below) (onward_node f m.pc (0 + length passed + 1) left (ending_of f m.pc kept i flow) more)
              ∙ ap (λ k. Running g (n.node_number function (Of m.pc k)) values below) count,
          e,
        )

    -- ---- the last node of an instruction

    module _ (kept : Bool) (kept_is : IsKept image function size m.pc kept) (i : Instr) (passed : List Term) (there : IsReachable image function size m.pc)
        (is : instr_at image m.pc ≡ Some i) where
      abbrev here_now : State
      here_now = Running g (n.node_number function (Of m.pc (length passed))) values below

      -- where it is, and what that node does
      at_last : (flow : Flow) (node : Node) (more : List Node) → flow_at image function m.pc ≡ Some flow → tests_of f i flow ≡ passed → ending_of f m.pc kept i flow ≡ Does node more
          → step graphs here_now ≡ act graphs g (n.node_number function (Of m.pc (length passed))) values below (Some node)
      unfolding nodes_at
      at_last flow node more flow_is tests ends = stepped (Of m.pc (length passed)) node (of_instruction m.pc (length passed) kept i flow node there is flow_is kept_is
          (ap (λ ts. slice_get (chain f m.pc 0 ts (ending_of f m.pc kept i flow)) (length passed)) tests
          ∙ ap (λ (e : Ending). slice_get (chain f m.pc 0 passed e) (length passed)) ends
          ∙ last_in f m.pc 0 passed node more))

      space : m.pc + 4 ≤ 2 ^ 32
      space = whole_word image function size m.pc there

      steps : machine.step m ≡ execute i m
      steps = steps_by image m i ok.fixed space is

      fields : AreFields i
      fields = fields_at image m.pc i is

      known : HasNoFault image function size
      known = clean function size reached sized

      abbrev previous : Option Instr
      previous = instr_before image function m.pc

      from : function ≤ m.pc
      from = (inside_range image function size m.pc there).from

      -- on to an instruction of the function
      arrives : (target : ℕ) (then : Machine) (after : Assignment) → execute i m ≡ Some then → HoldsFixed image then.memory → then.pc ≡ target
          → IsReachable image function size target → IsPaired image function after target → IsInRunUps image function size then after → Alike then after → Began after back
          → Goes_on image entry n home m (Running g (n.node_number function (Of target 0)) after below)
      arrives target then after does fixed pc_is reach paired run_ups same start = record {
        then = then;
        does = steps ∙ does;
        sound = record { is_machine = still_machine i m then ok.is_machine does; fixed = fixed };
        among = among there;
        correspondence = corresponds function size _ 0 back after below reached sized
            (subst (λ p. IsAt image f after p (n.node_number function (Of target 0)) 0) (sym pc_is) (start_at function size target after reached sized reach paired)) run_ups same start waiting;
      }

      moved_to : (after : State) → step graphs here_now ≡ after → Acts image entry n home m after → Acts image entry n home m (step graphs here_now)
      moved_to after e moves = subst (Acts image entry n home m) (sym e) moves

      -- to the next instruction
      by_falling : flow_at image function m.pc ≡ Some Falls → flow_of previous m.pc i ≡ Falls → tests_of f i Falls ≡ passed → all_hold values passed ≡ true
          → Acts image entry n home m (step graphs here_now)
      unfolding ending_of tests_of
      by_falling flow_is alone tests hold =
          let fell = falls image m values back ok alike began n.runs (runs_are function size reached sized) previous i fields alone (subst (λ (ts : List Term). all_hold values ts ≡ true) (sym tests) hold) in
          let inside = stays_inside image function size m.pc known there Falls (m.pc + 4) flow_is (first_in (m.pc + 4) []) (λ e. absurd (cc)) in
          let reach = next m.pc (m.pc + 4) Falls there flow_is (first_in (m.pc + 4) []) inside in
          let pc_is : fell.then.pc ≡ m.pc + 4 = omega (arith, fell.pc_is, (has_code image function size m.pc there).range_fixed.in_space, inside.below) in
          let simple = plain previous m.pc i alone in
          let then_machine = still_machine i m fell.then ok.is_machine fell.does in
          let run_ups = falls_on image function size known m ok.is_machine ok.fixed fell.then values (bound (effects m.pc i) values values) i is simple.straight fields then_machine fell.does pc_is
          (simple.not_taken m) (bounds_nothing image function size known m ok.is_machine ok.fixed values (bound (effects m.pc i) values values) i (λ x. simple.no_bound x m.pc)
          (effects_index values m.pc i fields)) in_run_ups in
          moved_to _ (at_last Falls _ [] flow_is tests refl
          ∙ ap (λ (x : Next). go g x (bound (effects m.pc i) values values) below) (toward_there f (m.pc + 4) (multiple_there image function size (m.pc + 4) reach) inside))
          (goes_on _ (arrives (m.pc + 4) fell.then _ fell.does fell.fixed pc_is reach
          (after_falling image function m fell.then _ i from is fields ok.is_machine.count fell.does fell.alike) run_ups fell.alike fell.began))

      -- an error
      by_error : (flow : Flow) → flow_at image function m.pc ≡ Some flow → tests_of f i flow ≡ passed → ending_of f m.pc kept i flow ≡ Does (Basic [] to.Err) []
          → Acts image entry n home m (step graphs here_now)
      by_error flow flow_is tests ends = moved_to Failed (at_last flow (Basic [] to.Err) [] flow_is tests ends) fails

      -- by a jump or a branch that is taken, if the target is aligned
      to_target : (target : ℕ) (flow : Flow) → flow_at image function m.pc ≡ Some flow → Contains (nexts_of m.pc flow) target → Contains (targets_of flow) target → InRange function size target
          → execute i m ≡ Some (record m { pc = target }) → Goes_on image entry n home m (Running g (n.node_number function (Of target 0)) values below)
      to_target target flow flow_is among_them aimed inside does =
          let reach = next m.pc target flow there flow_is among_them inside in
          let is_target = target_of_reached m.pc target flow there flow_is aimed in
          arrives target (record m { pc = target }) values does ok.fixed refl reach
          (at_target image function size target values known reach is_target)
          (outside_at_target image function size known (record m { pc = target }) values is_target) (moved_alike values m target alike) began

      -- what the machine does at a jump or a call, also by a pair
      turned : (rd target : ℕ) (flow : Flow) → IsTurn previous m.pc rd target i → ((base : ℕ) (offset : ℤ) → is_pair (Jalr rd base offset) flow ≡ true)
          → IsAfterAuipc values previous m.pc i flow → execute i m ≡ machine.link rd target m
      turned rd target flow turn pairs paired = turn_does previous m rd target i turn (λ base imm offset jalr auipc nonzero. held_by base imm offset jalr auipc nonzero)
        where
          same_number : (a b : ℕ) → Number W32 a ≡ Number W32 b → a ≡ b
          same_number a b e = cc

          held_by : (base imm : ℕ) (offset : ℤ) → i ≡ Jalr rd base offset → previous ≡ Some (Auipc base imm) → base ≢ 0
              → read_register m base ≡ past (m.pc - 4) (imm * 2 ^ 12)
          held_by base imm offset jalr auipc nonzero =
              let numbers : (rd < 32) × (base < 32) = subst AreFields jalr fields in
              same_number _ _ (sym (alike.registers base nonzero numbers.1)
              ∙ paired base imm auipc (ap (λ (j : Instr). is_pair j flow) jalr ∙ pairs base offset) nonzero)

      -- a branch
      record Branched (target : ℕ) : Type 0 where
        b : IsBranch i m.pc target
        result : is_truth (value values (branch_test i)) ≡ holds b.test (read_register m b.left) (read_register m b.right)
        does : execute i m ≡ cond (holds b.test (read_register m b.left) (read_register m b.right)) (goto target m) (Some (machine.next m))

      branched : (target : ℕ) → flow_of previous m.pc i ≡ Branches target → Branched target
      unfolding branch_test
      branched target alone = record { b = b; result = result; does = does }
        where
          b : IsBranch i m.pc target
          b = branch_is previous i m.pc target alone

          sides : (b.left < 32) × (b.right < 32)
          sides = subst AreFields b.is fields

          result : is_truth (value values (branch_test i)) ≡ holds b.test (read_register m b.left) (read_register m b.right)
          result = ap (λ (j : Instr). is_truth (value values (branch_test j))) b.is
              ∙ ap is_truth (taken_evaluates values b.test (operand b.left) (operand b.right) (read_register m b.left) (read_register m b.right)
              (read_below m b.left ok.is_machine) (read_below m b.right ok.is_machine)
              (operand_evaluates values m alike b.left sides.0) (operand_evaluates values m alike b.right sides.1))

          does : execute i m ≡ cond (holds b.test (read_register m b.left) (read_register m b.right)) (goto target m) (Some (machine.next m))
          does = ap (λ (j : Instr). execute j m) b.is ∙ branch_does m b.test b.left b.right b.offset
              ∙ ap (λ t. cond (holds b.test (read_register m b.left) (read_register m b.right)) (goto t m) (Some (machine.next m))) (sym b.target_is)

      stays : (target t : ℕ) → flow_at image function m.pc ≡ Some (Branches target) → Contains ((m.pc + 4) ∷ target ∷ []) t → InRange function size t
      stays target t flow_is among_them = stays_inside image function size m.pc known there (Branches target) t flow_is among_them (λ e. absurd (cc))

      -- one that isn't taken, with an index that may be kept
      past_branch : (target : ℕ) → flow_at image function m.pc ≡ Some (Branches target) → flow_of previous m.pc i ≡ Branches target
          → is_truth (value values (branch_test i)) ≡ false → (after : Assignment) → KeepsIndex image function size known m ok.is_machine ok.fixed values after i
          → Alike m after → Began after back → (s : State) → s ≡ go g (toward f (m.pc + 4)) after below → Acts image entry n home m s
      past_branch target flow_is alone off after keeps_index same start s on_step =
          let branch = branched target alone in
          let b = branch.b in
          let untaken : holds b.test (read_register m b.left) (read_register m b.right) ≡ false = sym branch.result ∙ off in
          let inside = stays target (m.pc + 4) flow_is (first_in (m.pc + 4) (target ∷ [])) in
          let reach = next m.pc (m.pc + 4) (Branches target) there flow_is (first_in (m.pc + 4) (aligned target)) inside in
          let pc_is : past m.pc 4 ≡ m.pc + 4 = omega (arith, (has_code image function size m.pc there).range_fixed.in_space, inside.below) in
          let done : execute i m ≡ Some (machine.next m) = branch.does ∙ ap (λ (y : Bool). cond y (goto target m) (Some (machine.next m))) untaken in
          let straight_too : is_straight i ≡ true = ap (λ (j : Instr). is_straight j) b.is in
          let run_ups = falls_on image function size known m ok.is_machine ok.fixed (machine.next m) values after i is straight_too fields (still_machine i m (machine.next m) ok.is_machine done) done pc_is
          (subst (IsNotTaken m) (sym b.is) untaken) keeps_index in_run_ups in
          subst (Acts image entry n home m) (sym (on_step ∙ ap (λ (x : Next). go g x after below) (toward_there f (m.pc + 4) (multiple_there image function size (m.pc + 4) reach) inside)))
          (goes_on _ (arrives (m.pc + 4) (machine.next m) after done ok.fixed pc_is reach
          (at_next image function m.pc after i from is (λ r imm auipc nonzero. absurd (no_auipc previous m.pc i (Branches target) alone (λ x. absurd (cc)) r imm auipc)))
          run_ups (moved_alike after m (past m.pc 4) same) start))

      by_branch : (target : ℕ) → flow_at image function m.pc ≡ Some (Branches target) → flow_of previous m.pc i ≡ Branches target → tests_of f i (Branches target) ≡ passed
          → Lasts image entry n home function size m values below (step graphs here_now)
      unfolding ending_of tests_of
      by_branch target flow_is alone tests = at (is_truth (value values (branch_test i))) refl
        where
          branch : Branched target
          branch = branched target alone

          ends : (more : List Node) × (ending_of f m.pc kept i (Branches target) ≡ Does (Cond (branch_test i) (toward f target) (not_taken f m.pc kept)) more)
          ends = branch_ends f m.pc kept i target

          on_step : (x : Bool) → is_truth (value values (branch_test i)) ≡ x
              → step graphs here_now ≡ go g (cond x (toward f target) (not_taken f m.pc kept)) values below
          on_step x e = at_last (Branches target) (Cond (branch_test i) (toward f target) (not_taken f m.pc kept)) ends.0 flow_is tests ends.1
              ∙ ap (λ (y : Bool). go g (cond y (toward f target) (not_taken f m.pc kept)) values below) e

          taken_so : (t : Bool) → (target % 4 == 0) ≡ t → execute i m ≡ goto target m → step graphs here_now ≡ go g (toward f target) values below
              → Acts image entry n home m (step graphs here_now)
          taken_so true even done e =
              let whole_target : target % 4 ≡ 0 = eqb-true (target % 4) 0 even in
              let inside = stays target target flow_is (second_in (m.pc + 4) target) in
              let taken_on : goto target m ≡ Some (record m { pc = target }) = rw even refl in
              moved_to _ (e ∙ ap (λ (x : Next). go g x values below) (toward_there f target whole_target inside))
              (goes_on _ (to_target target (Branches target) flow_is (after_first (m.pc + 4) target whole_target) (first_in target []) inside (done ∙ taken_on)))
          taken_so false odd done e = moved_to Failed (e ∙ ap (λ (x : Next). go g x values below) (misaligned f target odd)) fails

          falls_by : (k : Bool) → kept ≡ k → is_truth (value values (branch_test i)) ≡ false
              → step graphs here_now ≡ go g (cond k (to.At (n.node_number function (Of m.pc 1))) (toward f (m.pc + 4))) values below
              → Lasts image entry n home function size m values below (step graphs here_now)
          falls_by false is_kept off e =
              has_done _ (past_branch target flow_is alone off values
              (keeps_none image function size known m ok.is_machine ok.fixed values values i (subst (λ (x : Bool). IsKept image function size m.pc x) is_kept kept_is) refl) alike began _ e)
          falls_by true is_kept off e =
              subst (Lasts image entry n home function size m values below) (sym e)
              (goes_further 1 (at_kept target i there is flow_is (subst (λ (x : Bool). IsKept image function size m.pc x) is_kept kept_is) off))

          at : (x : Bool) → is_truth (value values (branch_test i)) ≡ x → Lasts image entry n home function size m values below (step graphs here_now)
          at true e = has_done _ (taken_so (target % 4 == 0) refl
              (branch.does ∙ ap (λ (y : Bool). cond y (goto target m) (Some (machine.next m))) (sym branch.result ∙ e)) (on_step true e))
          at false e = falls_by kept refl e (on_step false e)

      -- the node after a branch that keeps the index of a table
      pub by_kept : (target : ℕ) → flow_at image function m.pc ≡ Some (Branches target) → IsKept image function size m.pc true
          → is_truth (value values (branch_test i)) ≡ false
          → Acts image entry n home m (step graphs (Running g (n.node_number function (Of m.pc 1)) values below))
      by_kept target flow_is keeping off =
          past_branch target flow_is (flow_there image function m.pc i (Branches target) is flow_is (λ jump e. absurd (cc))) off after
          (keeps_it image function size known m ok.is_machine ok.fixed values after i keeping (λ r low named. index_is values (bounded_by i) (read_register m r)
          (ap (value values) named ∙ operand_evaluates values m alike r low)) fields)
          (index_alike values m (bounded_by i) known_number.0 known_number.1 alike) (index_began values (bounded_by i) known_number.0 back known_number.1 began) _
          (stepped (Of m.pc 1) node (of_instruction m.pc 1 true i (Branches target) node there is flow_is keeping (kept_node f m.pc i target)))
        where
          node : Node
          node = Basic (record { variable = table_index; term = bounded_by i } ∷ []) (toward f (m.pc + 4))

          after : Assignment
          after = bound (record { variable = table_index; term = bounded_by i } ∷ []) values values

          known_number : (k : ℕ) × (value values (bounded_by i) ≡ Number W32 k)
          known_number = bounded_evaluates values m alike i fields

      -- ---- a jump by a table

      -- a test of the index: the machine jumps where it holds, and else there is a next one
      pub by_test : (jump : TableJump) (r k : ℕ) (goes : GoesTo m values r jump.targets) → IsTableJump image function size m.pc r jump → k ≤ goes.index
          → Acts image entry n home m (step graphs (Running g (n.node_number function (Of m.pc k)) values below))
          ⊎ ((step graphs (Running g (n.node_number function (Of m.pc k)) values below) ≡ Running g (n.node_number function (Of m.pc (k + 1))) values below) × (k < goes.index))
      unfolding value
      by_test jump r k goes is_jump low = at (goes.index == k) refl
        where
          within : k < length jump.targets
          within = omega (arith, goes.small, low)

          found : (node : Node) × (slice_get (nodes_at f m.pc kept i (Switches jump)) k ≡ Some node) × IsTest f m.pc jump.targets k node
          found = table_node f m.pc kept i jump k within

          test : IsTest f m.pc jump.targets k found.0
          test = found.2

          on_step : (x : Bool) → (goes.index == k) ≡ x
              → step graphs (Running g (n.node_number function (Of m.pc k)) values below) ≡ go g (cond x (toward f (get_or jump.targets k 0)) test.otherwise) values below
          on_step x e =
              stepped (Of m.pc k) found.0 (of_instruction m.pc k kept i (Switches jump) found.0 there is is_jump.flow_is kept_is found.1)
              ∙ (ap (λ (d : Node). act graphs g (n.node_number function (Of m.pc k)) values below (Some d)) test.is
              ∙ ap (λ (y : Bool). go g (cond y (toward f (get_or jump.targets k 0)) test.otherwise) values below)
              (ap is_truth (equal_evaluates values (open_term table_index) (number k) goes.index k goes.kept (constant_evaluates values k)) ∙ e))

          among_targets : Contains jump.targets (get_or jump.targets k 0)
          among_targets = Contains-get_or jump.targets k 0 within

          at : (x : Bool) → (goes.index == k) ≡ x
              → Acts image entry n home m (step graphs (Running g (n.node_number function (Of m.pc k)) values below))
              ⊎ ((step graphs (Running g (n.node_number function (Of m.pc k)) values below) ≡ Running g (n.node_number function (Of m.pc (k + 1))) values below) × (k < goes.index))
          at true e =
              let target : ℕ = get_or jump.targets k 0 in
              let same : goes.index ≡ k = eqb-true goes.index k e in
              let has : read_register m r ≡ target = goes.target_is ∙ ap (λ j. get_or jump.targets j 0) same in
              let even = table_whole image function size m.pc known there jump target is_jump.flow_is among_targets in
              let inside = stays_inside image function size m.pc known there (Switches jump) target is_jump.flow_is among_targets (λ e0. absurd (cc)) in
              let same_instruction : i ≡ Jalr 0 r (pos 0) = same_Some i (Jalr 0 r (pos 0)) (sym is ∙ is_jump.is_jalr) in
              let does : execute i m ≡ Some (record m { pc = target }) =
              ap (λ (j : Instr). execute j m) same_instruction ∙ jump_does m r target has (omega (arith, has, read_below m r ok.is_machine)) even in
              inl (subst (Acts image entry n home m) (sym (on_step true e ∙ ap (λ (x : Next). go g x values below) (toward_there f target even inside)))
              (goes_on _ (to_target target (Switches jump) is_jump.flow_is (all_aligned jump.targets target among_targets even) among_targets inside does)))
          at false e =
              let more : k < goes.index = omega (arith, low, eqb-false goes.index k e) in
              inr (on_step false e ∙ ap (λ (x : Next). go g x values below) (test.next_is (omega (arith, more, goes.small))), more)

      by_table : (jump : TableJump) → flow_at image function m.pc ≡ Some (Switches jump) → tests_of f i (Switches jump) ≡ passed
          → Lasts image entry n home function size m values below (step graphs here_now)
      unfolding tests_of
      by_table jump flow_is tests = subst (λ (ts : List Term). Lasts image entry n home function size m values below (step graphs (Running g (n.node_number function (Of m.pc (length ts))) values below))) tests
          (elim (by_test jump found.0 0 goes found.1 (omega arith)) [
            | inl acts_now ↦ has_done _ acts_now
            | inr on ↦ subst (Lasts image entry n home function size m values below) (sym on.0)
                (goes_further 1 (in_table jump 1 goes.index there flow_is (omega arith) (omega (arith, goes.small, on.1)) goes.kept (omega (arith, on.1))))
          ])
        where
          found : (r : ℕ) × IsTableJump image function size m.pc r jump
          found = table_jump_at image function size known m.pc jump there flow_is

          goes : GoesTo m values found.0 jump.targets
          goes = goes_to_target image function size known m values found.0 jump found.1 in_run_ups

      -- what a jump ends with
      jump_ends : (target : ℕ) (b : Bool) → leaves f target ≡ b
          → ending_of f m.pc kept i (Jumps target)
          ≡ Does (cond b (Call (n.graph_number target) tail_inputs [] (n.node_number function (Following m.pc tail_call_nodes))) (Basic [] (toward f target))) []
      unfolding ending_of
      jump_ends target b e =
          ap (λ (x : Bool). Does (cond x (Call (n.graph_number target) tail_inputs [] (n.node_number function (Following m.pc tail_call_nodes))) (Basic [] (toward f target))) []) e

      -- a jump to no multiple of 4
      by_odd_jump : (target : ℕ) → flow_at image function m.pc ≡ Some (Jumps target) → tests_of f i (Jumps target) ≡ passed → (target % 4 == 0) ≡ false
          → Acts image entry n home m (step graphs here_now)
      by_odd_jump target flow_is tests odd = moved_to Failed
          (at_last (Jumps target) (Basic [] (toward f target)) [] flow_is tests (jump_ends target false (ap (λ (x : Bool). x && not (is_inside f target)) odd))
          ∙ ap (λ (x : Next). go g x (bound [] values values) below) (misaligned f target odd)) fails

      -- a jump inside the range
      by_near_jump : (target : ℕ) → flow_at image function m.pc ≡ Some (Jumps target) → tests_of f i (Jumps target) ≡ passed → InRange function size target
          → target % 4 ≡ 0 → execute i m ≡ Some (record m { pc = target }) → Acts image entry n home m (step graphs here_now)
      by_near_jump target flow_is tests inside whole_target does =
          moved_to _ (at_last (Jumps target) (Basic [] (toward f target)) [] flow_is tests (jump_ends target false (not_leaving f target inside))
          ∙ ap (λ (x : Next). go g x (bound [] values values) below) (toward_there f target whole_target inside)
          ∙ ap (λ (v : Assignment). Running g (n.node_number function (Of target 0)) v below) (nothing_bound values))
          (goes_on _ (to_target target (Jumps target) flow_is (is_aligned target whole_target) (first_in target []) inside does))

      -- a tail call
      by_tail_call : (target : ℕ) → flow_at image function m.pc ≡ Some (Jumps target) → tests_of f i (Jumps target) ≡ passed → all_hold values passed ≡ true
          → (InRange function size target → ⊥) → IsSome (size_at image target) → target % 4 ≡ 0 → execute i m ≡ Some (record m { pc = target })
          → Acts image entry n home m (step graphs here_now)
      unfolding tests_of
      by_tail_call target flow_is tests hold outside some whole_target does = called (size_at image target) refl some
        where
          far : leaves f target ≡ true
          far = leaving f target whole_target outside

          held : Waiting
          held = record { graph = g; call = n.node_number function (Of m.pc (length passed)); landing = n.node_number function (Following m.pc tail_call_nodes); outputs = []; values = values }

          tested : all_hold values (returns_home ∷ []) ≡ true
          tested = subst (λ (ts : List Term). all_hold values ts ≡ true) (sym (ap (λ (x : Bool). cond x (returns_home ∷ []) []) (sym far) ∙ tests)) hold

          at_back : read_register m 1 ≡ back
          at_back = eqb-true (read_register m 1) back
              (sym (ap is_truth (home_evaluates values m back alike began)) ∙ (and_parts (is_truth (value values returns_home)) true tested).0)

          began_there : Began (entered tail_inputs values) back
          began_there = tail_began values back (alike.registers 1 (λ e. absurd (omega arith)) (omega arith) ∙ ap (λ v. Number W32 v) at_back)

          on_step : step graphs here_now ≡ enter (n.graph_number target) (slice_get graphs (n.graph_number target)) (entered tail_inputs values) (held ∷ below)
          on_step = at_last (Jumps target) _ [] flow_is tests (jump_ends target true far)

          called : (o : Option ℕ) → size_at image target ≡ o → IsSome o → Acts image entry n home m (step graphs here_now)
          called None e is_there = absurd (cc)
          called (Some callee_size) e is_there =
              let reach : Reaches image entry target = further function size target reached sized (tail m.pc target there flow_is outside some) in
              let graph = graph_there image entry n graphs whole target callee_size reach e in
              moved_to _ (on_step ∙ ap (λ (o : Option Graph). enter (n.graph_number target) o (entered tail_inputs values) (held ∷ below)) graph.1
              ∙ ap (λ k. Running (n.graph_number target) k (entered tail_inputs values) (held ∷ below)) graph.2)
              (goes_on _ (record {
                then = record m { pc = target };
                does = steps ∙ does;
                sound = record { is_machine = still_machine i m (record m { pc = target }) ok.is_machine does; fixed = ok.fixed };
                among = among there;
                correspondence = corresponds target callee_size _ 0 back (entered tail_inputs values) (held ∷ below) reach e (at_entrance refl)
                    (outside_at_entry image target callee_size (clean target callee_size reach e) (record m { pc = target }) (entered tail_inputs values) refl)
                    (moved_alike (entered tail_inputs values) m target (tail_alike values m alike)) began_there
                    (after_tail_call function size m.pc target (n.node_number function (Of m.pc (length passed))) back values below
                    (record { reached = reached; sized = sized; there = there; flow_is = flow_is; leaves = far }) began waiting);
              }))

      -- a jump
      by_jump : (target : ℕ) → flow_at image function m.pc ≡ Some (Jumps target) → flow_of previous m.pc i ≡ Jumps target → IsAfterAuipc values previous m.pc i (Jumps target)
          → tests_of f i (Jumps target) ≡ passed → all_hold values passed ≡ true → Acts image entry n home m (step graphs here_now)
      by_jump target flow_is alone paired tests hold = at (target % 4 == 0) refl
        where
          does : execute i m ≡ machine.aligned 4 target (record m { pc = target })
          does = turned 0 target (Jumps target) (jump_is previous i m.pc target alone) (λ base offset. refl) paired ∙ link_nowhere m target

          at : (t : Bool) → (target % 4 == 0) ≡ t → Acts image entry n home m (step graphs here_now)
          at true even =
              let whole_target : target % 4 ≡ 0 = eqb-true (target % 4) 0 even in
              let done : machine.aligned 4 target (record m { pc = target }) ≡ Some (record m { pc = target }) = rw even refl in
              elim (jumps_inside image function size m.pc known there target flow_is) [
                | inl inside ↦ by_near_jump target flow_is tests inside whole_target (does ∙ done)
                | inr far ↦ by_tail_call target flow_is tests hold far.0 far.1 whole_target (does ∙ done)
              ]
          at false odd = by_odd_jump target flow_is tests odd

      -- a call
      by_call : (target : ℕ) → flow_at image function m.pc ≡ Some (Calls target) → flow_of previous m.pc i ≡ Calls target → IsAfterAuipc values previous m.pc i (Calls target)
          → tests_of f i (Calls target) ≡ passed → Acts image entry n home m (step graphs here_now)
      unfolding ending_of tests_of
      by_call target flow_is alone paired tests = at (target % 4 == 0) refl
        where
          ends : (t : Bool) → (target % 4 == 0) ≡ t
              → ending_of f m.pc kept i (Calls target) ≡ Does (cond t (Call (n.graph_number target) (call_inputs (past m.pc 4)) [] (n.node_number function (Following m.pc call_nodes))) (Basic [] to.Err)) []
          ends t e = ap (λ (b : Bool). Does (cond b (Call (n.graph_number target) (call_inputs (past m.pc 4)) [] (n.node_number function (Following m.pc call_nodes))) (Basic [] to.Err)) []) e

          then : Machine
          then = record (write_register m 1 (past m.pc 4)) { pc = target }

          does : execute i m ≡ machine.aligned 4 target then
          does = turned 1 target (Calls target) (call_is previous i m.pc target alone) (λ base offset. refl) paired

          held : Waiting
          held = record { graph = g; call = n.node_number function (Of m.pc (length passed)); landing = n.node_number function (Following m.pc call_nodes); outputs = []; values = values }

          called : (o : Option ℕ) → size_at image target ≡ o → IsSome o → target % 4 ≡ 0 → execute i m ≡ Some then
              → step graphs here_now ≡ enter (n.graph_number target) (slice_get graphs (n.graph_number target)) (entered (call_inputs (past m.pc 4)) values) (held ∷ below)
              → Acts image entry n home m (step graphs here_now)
          called None e some whole_target done on_step = absurd (cc)
          called (Some callee_size) e some whole_target done on_step =
              let sized_there : IsSome (size_at image target) = rw e refl in
              let reach : Reaches image entry target = further function size target reached sized (call m.pc target there flow_is sized_there) in
              let graph = graph_there image entry n graphs whole target callee_size reach e in
              moved_to _ (on_step ∙ ap (λ (o : Option Graph). enter (n.graph_number target) o (entered (call_inputs (past m.pc 4)) values) (held ∷ below)) graph.1
              ∙ ap (λ k. Running (n.graph_number target) k (entered (call_inputs (past m.pc 4)) values) (held ∷ below)) graph.2)
              (goes_on _ (record {
                then = then;
                does = steps ∙ done;
                sound = record { is_machine = still_machine i m then ok.is_machine done; fixed = subst (HoldsFixed image) (sym (memory-write m 1 (past m.pc 4))) ok.fixed };
                among = among there;
                correspondence = corresponds target callee_size _ 0 (past m.pc 4) (entered (call_inputs (past m.pc 4)) values) (held ∷ below) reach e (at_entrance refl)
                    (outside_at_entry image target callee_size (clean target callee_size reach e) then (entered (call_inputs (past m.pc 4)) values) refl)
                    (moved_alike _ (write_register m 1 (past m.pc 4)) target (call_alike values m (past m.pc 4) ok.is_machine.count alike))
                    (call_began values (past m.pc 4))
                    (after_call function size m.pc target (n.node_number function (Of m.pc (length passed))) back values below reached sized there flow_is whole_target began waiting);
              }))

          at : (t : Bool) → (target % 4 == 0) ≡ t → Acts image entry n home m (step graphs here_now)
          at true even =
              let done : machine.aligned 4 target then ≡ Some then = rw even refl in
              called (size_at image target) refl (calls_function image function size m.pc known there target flow_is) (eqb-true (target % 4) 0 even) (does ∙ done)
              (at_last (Calls target) _ [] flow_is tests (ends true even))
          at false odd = by_error (Calls target) flow_is tests (ends false odd)

      -- each flow but a return
      pub last_moves : (flow : Flow) → flow_at image function m.pc ≡ Some flow → IsAfterAuipc values previous m.pc i flow
          → tests_of f i flow ≡ passed → all_hold values passed ≡ true → is_node [] (ending_of f m.pc kept i flow) ≡ true
          → Lasts image entry n home function size m values below (step graphs here_now)
      unfolding ending_of
      last_moves Falls flow_is paired tests hold node =
          has_done _ (by_falling flow_is (flow_there image function m.pc i Falls is flow_is (λ jump e. absurd (cc))) tests hold)
      last_moves (Branches target) flow_is paired tests hold node = by_branch target flow_is (flow_there image function m.pc i (Branches target) is flow_is (λ jump e. absurd (cc))) tests
      last_moves (Jumps target) flow_is paired tests hold node =
          has_done _ (by_jump target flow_is (flow_there image function m.pc i (Jumps target) is flow_is (λ jump e. absurd (cc))) paired tests hold)
      last_moves (Calls target) flow_is paired tests hold node =
          has_done _ (by_call target flow_is (flow_there image function m.pc i (Calls target) is flow_is (λ jump e. absurd (cc))) paired tests)
      last_moves (Links target) flow_is paired tests hold node = has_done _ (by_error (Links target) flow_is tests refl)
      last_moves Returns flow_is paired tests hold node = absurd (cc)
      last_moves (Switches jump) flow_is paired tests hold node = by_table jump flow_is tests
      last_moves Stops flow_is paired tests hold node = has_done _ (by_error Stops flow_is tests refl)

    -- ---- a test of the index of a table, wherever the run is

    pub table_step : (jump : TableJump) (test index : ℕ) → IsReachable image function size m.pc → flow_at image function m.pc ≡ Some (Switches jump)
        → values table_index ≡ Number W32 index → test ≤ index
        → Acts image entry n home m (step graphs (Running g (n.node_number function (Of m.pc test)) values below))
        ⊎ ((step graphs (Running g (n.node_number function (Of m.pc test)) values below) ≡ Running g (n.node_number function (Of m.pc (test + 1))) values below)
        × (test < index) × (index < length jump.targets))
    table_step jump test index there flow_is kept_index low =
        let sound = clean function size reached sized in
        let instruction = has_instruction image function size m.pc sound there in
        let kept = kept_or_not image function size sound m.pc there in
        let found = table_jump_at image function size sound m.pc jump there flow_is in
        let goes = goes_to_target image function size sound m values found.0 jump found.1 in_run_ups in
        let same : index ≡ goes.index = same_number index goes.index (sym kept_index ∙ goes.kept) in
        elim (by_test kept.0 kept.1 instruction.0 [] there instruction.1 jump found.0 test goes found.1 (omega (arith, low, same))) [
          | inl acts_now ↦ inl acts_now
          | inr on ↦ inr (on.0, omega (arith, on.1, same), omega (arith, same, goes.small))
        ]
      where
        same_number : (a b : ℕ) → Number W32 a ≡ Number W32 b → a ≡ b
        same_number a b e = cc

-- ---- a return

module _ (image : Image) (entry : ℕ) (n : Numbering) (graphs : Graphs) (home : ℕ) (no_fault : ReachesNoFault image entry) (whole : AreCodeGraphs image entry n graphs)
    (m : Machine) (ok : IsSound image m) (among_them : IsAmong image entry m.pc)
    (i : Instr) (fetched : machine.step m ≡ execute i m) (is_return : i ≡ Jalr 0 1 (pos 0)) where
  -- the machine that is back, and the run that goes on there
  back_there : (below : List Waiting) (back : ℕ) → AreWaiting image entry n home below back → (values : Assignment) → Alike m values
      → Corresponds image entry n home (record m { pc = back }) 0 (leave values below)
  back_there _ _ nobody values alike = at_home values refl (moved_alike values m home alike)
  back_there _ _ (after_call function size address target node back waited below reached sized there flow_is even began waiting) values alike =
      corresponds function size (n.node_number function (Following address call_nodes)) 0 back (resumed [] values waited) below reached sized
      (at_landing address target there flow_is even refl)
      (outside_after_call image function size (clean image entry n graphs home no_fault whole function size reached sized) (record m { pc = past address 4 })
      (resumed [] values waited) address target there flow_is refl)
      (resumed_alike values waited (record m { pc = past address 4 }) (moved_alike values m (past address 4) alike))
      (resumed_began values waited back began) waiting
  back_there _ _ (after_tail_call function size address target node back waited below ends began waiting) values alike =
      at_tail_landing _ _ (resumed [] values waited) below (tail_landing function size address target ends)
      (moved_alike (resumed [] values waited) m back (resumed_alike values waited m alike))
      (back_there below back waiting (resumed [] values waited) (resumed_alike values waited m alike))

  -- it is back at a multiple of 4, or all functions return
  whole_or_home : (below : List Waiting) (back : ℕ) → AreWaiting image entry n home below back → (values : Assignment)
      → (back % 4 ≡ 0) ⊎ (IsReturning image entry n (leave values below) × (back ≡ home))
  whole_or_home _ _ nobody values = inr (all_returned values, refl)
  whole_or_home _ _ (after_call function size address target node back waited below reached sized there flow_is even began waiting) values =
      let here_even : address % 4 ≡ 0 = multiple_there image function size address there in
      inl (omega (arith, here_even, whole_word image function size address there))
  whole_or_home _ _ (after_tail_call function size address target node back waited below ends began waiting) values =
      elim (whole_or_home below back waiting (resumed [] values waited)) [
        | inl whole_back ↦ inl whole_back
        | inr rest ↦ inr (at_landing_node _ _ (resumed [] values waited) below (tail_landing function size address target ends) rest.0, rest.1)
      ]

  -- to the function that waits, or home
  pub comes_back : (below : List Waiting) (back : ℕ) (values : Assignment) → Alike m values → AreWaiting image entry n home below back → read_register m 1 ≡ back
      → Acts image entry n home m (leave values below)
  comes_back below back values alike waiting same = elim (whole_or_home below back waiting values) [
    | inl whole_back ↦ goes_on _ (goes whole_back)
    | inr rest ↦ returns _ among_them rest.0 (λ even. goes (omega (arith, even, rest.1)))
  ]
    where
      goes : back % 4 ≡ 0 → Goes_on image entry n home m (leave values below)
      goes whole_back =
          let low : back < 2 ^ 32 = omega (arith, same, read_below m 1 ok.is_machine) in
          let done : execute (Jalr 0 1 (pos 0)) m ≡ Some (record m { pc = back }) = jump_does m 1 back same low whole_back in
          record {
            then = record m { pc = back };
            does = fetched ∙ ap (λ (k : Instr). execute k m) is_return ∙ done;
            sound = record { is_machine = still_machine (Jalr 0 1 (pos 0)) m (record m { pc = back }) ok.is_machine done; fixed = ok.fixed };
            among = among_them;
            correspondence = back_there below back waiting values alike;
          }
