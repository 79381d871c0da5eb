-- How a machine corresponds to a run of the graphs of its code.
use Rattle.std.specs.Prelude.{◌≡◌, ◌≢◌, ◌⊎◌, ℕ, zero, suc, ◌+◌, ◌-◌, ◌*◌, ◌%◌, ◌^◌, ◌<◌, ◌≤◌, ◌==◌, if◌then◌else◌, Bool, true, false, List, [], ◌∷◌, ◌++◌, length, Option, Some, IsSome, slice_get}
use Rattle.rv_instr.specs.declared.Instr.{Instr}
use Rattle.rv_instr.specs.declared.Instr.TheVariants.{Auipc}
use Rattle.rv_machine_spec.specs.Machine.{Machine, IsMachine, past, read_register}
use Rattle.rv_machine_spec.specs.Step.{after}
use Rattle.elf_read_spec.specs.Image.{Image, size_at}
use Rattle.memory_spec.specs.Runs.{Run}
use Rattle.code_reach_spec.specs.Code.{InRange, Flow, Branches, Jumps, Calls, Switches, TableJump, instr_at, instr_before, flow_at, IsReachable, Reaches, HoldsFixed}
use Rattle.code_reach_spec.specs.Faults.{is_pair, ReachesNoFault}
use Rattle.term_core_spec.specs.declared.Width.TheVariants.{W32}
use Rattle.term_core_spec.specs.Term.{Term}
use Rattle.term_core_spec.specs.Value.{Number, Assignment, value}
use Rattle.graph_core_spec.specs.Graph.{Node, Graph, Graphs}
use Rattle.graph_core_spec.specs.Run.{Waiting, State, Running, Returned, Failed, leave, step, system_of, is_truth}
use Rattle.graph_core_spec.specs.TransitionSystem as walk
use Rattle.decompile_spec.specs.State.{register, entry_register, table_index, Alike}
use Rattle.decompile_spec.specs.InstructionTerms.{branch_test}
use Rattle.decompile_laws.specs.Evaluation.{all_hold}
use Rattle.decompile_spec.specs.Blocks.{NodeName, Entrance, Of, Following, Setting, Ending, Does, Goes, call_nodes, tail_call_nodes, leaves_range, tests_of, ending_of}
use Rattle.decompile_spec.specs.CodeGraph.{IsKept, IsNodeAt, IsCodeGraph}
use Rattle.decompile_laws.specs.RunUps.{IsInRunUps}

-- ---- the graphs of a set of functions

-- the runs of fixed bytes, the number of each function's graph, by its entry, and the numbers of its nodes
pub record Numbering : Type 0 where
  pub runs : List Run
  pub graph_number : ℕ → ℕ
  pub node_number : ℕ → NodeName → ℕ

abbrev pub setting : Numbering → (entry size : ℕ) → Setting
setting n entry size = record { entry = entry; size = size; runs = n.runs; graph_number = n.graph_number; at = n.node_number entry }

-- each function that is reached from the entry has its graph
pub record AreCodeGraphs (image : Image) (entry : ℕ) (n : Numbering) (graphs : Graphs) : Type 0 where
  pub each : (function size : ℕ) → Reaches image entry function → size_at image function ≡ Some size
      → (graph : Graph) × (slice_get graphs (n.graph_number function) ≡ Some graph) × IsCodeGraph image (setting n function size) graph

-- ---- where a run is

-- some node comes next, before these tests and this ending
abbrev pub is_node : List Term → Ending → Bool
is_node [] (Goes to) = false
is_node [] (Does node further) = true
is_node (test ∷ tests) ending = true

-- at the JALR of an AUIPC pair, its register has what the AUIPC before it put there
abbrev pub IsAfterAuipc : Assignment → (previous : Option Instr) → (pc : ℕ) → Instr → Flow → Type 0
IsAfterAuipc values previous pc i flow =
    (r imm : ℕ) → previous ≡ Some (Auipc r imm) → is_pair i flow ≡ true → r ≢ 0 → values (register r) ≡ Number W32 (past (pc - 4) (imm * 2 ^ 12))

-- 1 where a run is past the first node of an instruction, of which these tests are passed, and else 0
abbrev pub begun_by : List Term → ℕ
begun_by [] = 0
begun_by (test ∷ passed) = 1

-- past the first node of an instruction without tests: at the node after a branch that falls through, which keeps the index of
-- a table; or at a test of an index after the first
pub data IsFurther (image : Image) (f : Setting) (values : Assignment) (pc : ℕ) : (index : ℕ) → Type 0 where
  at_kept : (target : ℕ) (i : Instr) → IsReachable image f.entry f.size pc → instr_at image pc ≡ Some i
      → flow_at image f.entry pc ≡ Some (Branches target) → IsKept image f.entry f.size pc true
      → is_truth (value values (branch_test i)) ≡ false → IsFurther image f values pc 1
  in_table : (jump : TableJump) (test index : ℕ) → IsReachable image f.entry f.size pc → flow_at image f.entry pc ≡ Some (Switches jump)
      → 0 < test → test < length jump.targets → values table_index ≡ Number W32 index → test ≤ index
      → IsFurther image f values pc test

-- the node of a function at which a run is, where the machine is at pc: the landing node at the entry; that after a call;
-- a node of the instruction at pc, whose tests before that node hold; or one further; and how many instructions it is in
pub data IsAt (image : Image) (f : Setting) (values : Assignment) (pc : ℕ) : (node begun : ℕ) → Type 0 where
  at_entrance : pc ≡ f.entry → IsAt image f values pc (f.at Entrance) 0
  at_landing : (address target : ℕ) → IsReachable image f.entry f.size address → flow_at image f.entry address ≡ Some (Calls target)
      → target % 4 ≡ 0 → pc ≡ past address 4 → IsAt image f values pc (f.at (Following address call_nodes)) 0
  in_instruction : (kept : Bool) (i : Instr) (flow : Flow) (passed left : List Term) → IsReachable image f.entry f.size pc
      → instr_at image pc ≡ Some i → flow_at image f.entry pc ≡ Some flow → IsKept image f.entry f.size pc kept
      → IsAfterAuipc values (instr_before image f.entry pc) pc i flow
      → tests_of f i flow ≡ passed ++ left → all_hold values passed ≡ true
      → is_node left (ending_of f pc kept i flow) ≡ true → IsAt image f values pc (f.at (Of pc (length passed))) (begun_by passed)
  further_in : (index : ℕ) → IsFurther image f values pc index → IsAt image f values pc (f.at (Of pc index)) 1

-- the register x1 with which a function began
abbrev pub Began : Assignment → ℕ → Type 0
Began values back = values (entry_register 1) ≡ Number W32 back

-- a function that is reached ends at an address by a call of another one: a tail call
pub record EndsByCall (image : Image) (entry function size address target : ℕ) : Type 0 where
  pub reached : Reaches image entry function
  pub sized : size_at image function ≡ Some size
  pub there : IsReachable image function size address
  pub flow_is : flow_at image function address ≡ Some (Jumps target)
  pub leaves : leaves_range function size target ≡ true

-- the functions that wait: the innermost one waits for a function that began with `back` in x1, the address after its
-- call, or, where it ends by that call, the address with which it began itself; the outermost function began with `home`
pub data AreWaiting (image : Image) (entry : ℕ) (n : Numbering) (home : ℕ) : List Waiting → (back : ℕ) → Type 0 where
  nobody : AreWaiting image entry n home [] home
  after_call : (function size address target call back : ℕ) (values : Assignment) (below : List Waiting)
      → Reaches image entry function → size_at image function ≡ Some size → IsReachable image function size address
      → flow_at image function address ≡ Some (Calls target) → target % 4 ≡ 0 → Began values back
      → AreWaiting image entry n home below back
      → AreWaiting image entry n home
      (record { graph = n.graph_number function; call = call; landing = n.node_number function (Following address call_nodes); outputs = []; values = values } ∷ below)
      (past address 4)
  after_tail_call : (function size address target call back : ℕ) (values : Assignment) (below : List Waiting)
      → EndsByCall image entry function size address target → Began values back → AreWaiting image entry n home below back
      → AreWaiting image entry n home
      (record { graph = n.graph_number function; call = call; landing = n.node_number function (Following address tail_call_nodes); outputs = []; values = values } ∷ below)
      back

-- the landing node after a tail call, at which a function returns
pub data IsTailLanding (image : Image) (entry : ℕ) (n : Numbering) : (graph node : ℕ) → Type 0 where
  tail_landing : (function size address target : ℕ) → EndsByCall image entry function size address target
      → IsTailLanding image entry n (n.graph_number function) (n.node_number function (Following address tail_call_nodes))

-- the machine corresponds to a run that has not failed: it is at the instruction whose nodes the run is at, and the
-- variables have what it has. At the landing node after a tail call it is already where the return there leads. Where the
-- run has returned, it is at the address with which the outermost function began. The run is in as many instructions that
-- the machine has not done yet as `begun` is
pub data Corresponds (image : Image) (entry : ℕ) (n : Numbering) (home : ℕ) (m : Machine) : (begun : ℕ) → State → Type 0 where
  corresponds : (function size node begun back : ℕ) (values : Assignment) (below : List Waiting) → Reaches image entry function
      → size_at image function ≡ Some size → IsAt image (setting n function size) values m.pc node begun
      → IsInRunUps image function size m values → Alike m values
      → Began values back → AreWaiting image entry n home below back
      → Corresponds image entry n home m begun (Running (n.graph_number function) node values below)
  at_tail_landing : (graph node : ℕ) (values : Assignment) (below : List Waiting) → IsTailLanding image entry n graph node → Alike m values
      → Corresponds image entry n home m 0 (leave values below) → Corresponds image entry n home m 0 (Running graph node values below)
  at_home : (values : Assignment) → m.pc ≡ home → Alike m values → Corresponds image entry n home m 0 (Returned values)

-- ---- stepping together

-- a machine that holds the fixed bytes
pub record IsSound (image : Image) (m : Machine) : Type 0 where
  pub is_machine : IsMachine m
  pub fixed : HoldsFixed image m.memory

-- an address outside of every function that is reached
abbrev pub IsOutside : Image → (entry address : ℕ) → Type 0
IsOutside image entry address = (function size : ℕ) → Reaches image entry function → size_at image function ≡ Some size → InRange function size address → ⊥

-- the state of the graphs' run after so many steps, from the landing node of the function at the entry on
abbrev pub run : Graphs → Numbering → (entry : ℕ) → Assignment → ℕ → State
run graphs n entry values t =
    walk.after (system_of graphs (n.graph_number entry)) t (Running (n.graph_number entry) (n.node_number entry Entrance) values [])

-- the run has returned or failed
pub data IsOver : State → Type 0 where
  returned : (values : Assignment) → IsOver (Returned values)
  failed : IsOver Failed

-- the run has returned, or it is at the landing node after a tail call, from which it only returns
pub data IsReturning (image : Image) (entry : ℕ) (n : Numbering) : State → Type 0 where
  all_returned : (values : Assignment) → IsReturning image entry n (Returned values)
  at_landing_node : (graph node : ℕ) (values : Assignment) (below : List Waiting) → IsTailLanding image entry n graph node
      → IsReturning image entry n (leave values below) → IsReturning image entry n (Running graph node values below)

-- after k steps, halting at `stop`, the machine has not trapped, still holds the fixed bytes, and corresponds to the state
pub record CorrespondsAfter (image : Image) (entry : ℕ) (n : Numbering) (m : Machine) (stop k : ℕ) (state : State) : Type 0 where
  pub now : Machine
  pub now_is : after m stop k ≡ Some now
  pub sound : IsSound image now
  pub begun : ℕ
  pub alike : Corresponds image entry n (read_register m 1) now begun state

-- the machine and the graphs step together, for every number of steps on either side, until the run of the graphs is over,
-- or returns to an address at which a return traps
pub record StepTogether (image : Image) (entry : ℕ) (n : Numbering) (graphs : Graphs) (m : Machine) (values : Assignment) (stop : ℕ) : Type 0 where
  pub machine_leads : (k : ℕ) → (t : ℕ) × (k ≤ t) × (IsOver (run graphs n entry values t) ⊎ CorrespondsAfter image entry n m stop k (run graphs n entry values t))
  pub graphs_lead : (t : ℕ) → (run graphs n entry values t ≡ Failed)
      ⊎ ((read_register m 1 % 4 ≢ 0) × IsReturning image entry n (run graphs n entry values t))
      ⊎ ((k : ℕ) × (k ≤ t) × CorrespondsAfter image entry n m stop k (run graphs n entry values t))

-- the machine is at its return address, as the graphs' run has returned
pub record HasComeHome (image : Image) (m : Machine) (k : ℕ) (values : Assignment) : Type 0 where
  pub final : Machine
  pub final_is : after m (read_register m 1) k ≡ Some final
  pub home : final.pc ≡ read_register m 1
  pub sound : IsSound image final
  pub alike : Alike final values

-- the machine reaches its return address exactly where the graphs return, unless they fail; it does not trap within any
-- number of steps, unless they fail
pub record ReturnTogether (image : Image) (entry : ℕ) (n : Numbering) (graphs : Graphs) (m : Machine) (values : Assignment) : Type 0 where
  pub safe : (k : ℕ) → ((now : Machine) × (after m (read_register m 1) k ≡ Some now) × IsSound image now)
      ⊎ ((t : ℕ) × (run graphs n entry values t ≡ Failed))
  pub graphs_return : (t : ℕ) (final : Assignment) → run graphs n entry values t ≡ Returned final → (k : ℕ) × (k ≤ t) × HasComeHome image m k final
  pub machine_returns : (k : ℕ) (final : Machine) → after m (read_register m 1) k ≡ Some final → final.pc ≡ read_register m 1
      → ((t : ℕ) × (values_then : Assignment) × (run graphs n entry values t ≡ Returned values_then) × Alike final values_then)
      ⊎ ((t : ℕ) × (run graphs n entry values t ≡ Failed))

-- ---- instructions

-- an instruction begins at the first of its nodes
abbrev pub is_first : NodeName → Bool
is_first Entrance = false
is_first (Of address index) = index == 0
is_first (Following address count) = false

-- the marked nodes, by graph and number, are those at which an instruction begins
pub record AreFirsts (image : Image) (entry : ℕ) (n : Numbering) (marked : ℕ → ℕ → Bool) : Type 0 where
  pub each : (function size : ℕ) (name : NodeName) (node : Node) → Reaches image entry function → size_at image function ≡ Some size
      → IsNodeAt image (setting n function size) name node → marked (n.graph_number function) (n.node_number function name) ≡ is_first name

abbrev pub one_if : Bool → ℕ
one_if b = if b then 1 else 0

abbrev pub weight : (ℕ → ℕ → Bool) → State → ℕ
weight marked (Running graph node values below) = one_if (marked graph node)
weight marked (Returned values) = 0
weight marked Failed = 0

-- how many marked nodes a run passes in so many steps
unfoldable pub passed_by : Graphs → (ℕ → ℕ → Bool) → ℕ → State → ℕ
passed_by graphs marked zero s = 0
passed_by graphs marked (suc t) s = weight marked s + passed_by graphs marked t (step graphs s)

-- where the graphs return, the machine has come home by as many steps as they have passed nodes at which an instruction
-- begins
abbrev pub CountsInstructions : (image : Image) (entry : ℕ) (n : Numbering) (graphs : Graphs) (marked : ℕ → ℕ → Bool) (m : Machine) (values : Assignment) → Type 0
CountsInstructions image entry n graphs marked m values = (t : ℕ) (final : Assignment) → run graphs n entry values t ≡ Returned final
    → HasComeHome image m (passed_by graphs marked t (Running (n.graph_number entry) (n.node_number entry Entrance) values [])) final

-- a machine at the entry, and variables like it
pub record StartAlike (image : Image) (entry : ℕ) (m : Machine) (values : Assignment) : Type 0 where
  pub sound : IsSound image m
  pub at_entry : m.pc ≡ entry
  pub alike : Alike m values
  pub began : Began values (read_register m 1)

-- what the laws ask: a function of the file, no fault of code in all that is reached, its graphs, and where both start
pub record IsStart (image : Image) (entry : ℕ) (n : Numbering) (graphs : Graphs) (m : Machine) (values : Assignment) : Type 0 where
  pub is_function : IsSome (size_at image entry)
  pub no_fault : ReachesNoFault image entry
  pub whole : AreCodeGraphs image entry n graphs
  pub alike : StartAlike image entry m values

-- from every such start, and for every address outside of all that is reached, machine and graphs step together
abbrev pub StepsTogether : Type 0
StepsTogether = (image : Image) (entry : ℕ) (n : Numbering) (graphs : Graphs) (m : Machine) (values : Assignment) → IsStart image entry n graphs m values
    → (stop : ℕ) → IsOutside image entry stop → StepTogether image entry n graphs m values stop

-- from every such start whose return address is a multiple of 4 outside of all that is reached, they return together
abbrev pub ReturnsTogether : Type 0
ReturnsTogether = (image : Image) (entry : ℕ) (n : Numbering) (graphs : Graphs) (m : Machine) (values : Assignment) → IsStart image entry n graphs m values
    → read_register m 1 % 4 ≡ 0 → IsOutside image entry (read_register m 1) → ReturnTogether image entry n graphs m values

-- from every such start, the instructions of the machine are counted by the nodes of the graphs
abbrev pub InstructionsAreCounted : Type 0
InstructionsAreCounted = (image : Image) (entry : ℕ) (n : Numbering) (graphs : Graphs) (marked : ℕ → ℕ → Bool) (m : Machine) (values : Assignment)
    → IsStart image entry n graphs m values → AreFirsts image entry n marked → read_register m 1 % 4 ≡ 0 → IsOutside image entry (read_register m 1)
    → CountsInstructions image entry n graphs marked m values
