-- The nodes of a function's graph, by names: each node has a name, and `at` gives each name its number in the graph.
--     Entrance              the landing node at which a run begins
--     Of address k          node k of the instruction at the address, from 0 on
--     Following address k   the landing node after the call at the address, an instruction of k nodes
use Rattle.std.specs.Prelude.{ℕ, ◌+◌, ◌%◌, ◌==◌, ◌&&◌, nat_le, nat_lt, not, Bool, true, false, if◌then◌else◌, List, [], ◌∷◌, ◌++◌, map, Option, Some, None}
use Rattle.rv_instr.specs.declared.Instr.{Instr}
use Rattle.rv_instr.specs.declared.Instr.TheVariants.{Branch}
use Rattle.rv_instr.specs.declared.BranchTest.TheVariants.{LessUnsigned, GreaterOrEqualUnsigned}
use Rattle.rv_machine_spec.specs.Machine.{past}
use Rattle.memory_spec.specs.Runs.{Run}
use Rattle.code_reach_spec.specs.Code.{Flow, Falls, Branches, Jumps, Calls, Links, Returns, Switches, Stops}
use Rattle.term_core_spec.specs.Term.{Term, open_term, equal}
use Rattle.graph_core_spec.specs.declared.Next.{Next}
use Rattle.graph_core_spec.specs.declared.Next.TheVariants as next
use Rattle.graph_core_spec.specs.Graph.{Binding, Node, Basic, Cond, Call}
use Rattle.decompile_spec.specs.State.{register, entry_register, table_index}
use Rattle.decompile_spec.specs.InstructionTerms.{number, operand, access_tests, returns_home, effects, branch_test}

pub data NodeName : Type 0 where
  Entrance : NodeName
  Of : (address index : ℕ) → NodeName
  Following : (address count : ℕ) → NodeName

-- what is read of a function while its nodes are written: its entry and size, the runs of fixed bytes of the file, the
-- numbers of the functions' graphs by their entries, and the numbers of its own nodes by their names
pub record Setting : Type 0 where
  pub entry : ℕ
  pub size : ℕ
  pub runs : List Run
  pub graph_number : ℕ → ℕ
  pub at : NodeName → ℕ

-- the address lies in the range of the function of this entry and size
abbrev pub is_in_range : (entry size target : ℕ) → Bool
is_in_range entry size target = nat_le entry target && nat_lt target (entry + size)

abbrev pub is_inside : Setting → ℕ → Bool
is_inside f target = is_in_range f.entry f.size target

-- on to the instruction at an address; an error at no multiple of 4, and outside the range
unfoldable pub toward : Setting → ℕ → Next
toward f target = if (target % 4 == 0) && is_inside f target then next.At (f.at (Of target 0)) else next.Err

-- how an instruction ends after its tests: with nodes, or with no node of its own
pub data Ending : Type 0 where
  Does : (node : Node) (further : List Node) → Ending
  Goes : (to : Next) → Ending

-- where the node before continues if it continues at this number of the instruction
abbrev pub onward : Setting → (address index : ℕ) → List Term → Ending → Next
onward f address index [] (Goes to) = to
onward f address index [] (Does node further) = next.At (f.at (Of address index))
onward f address index (test ∷ tests) ending = next.At (f.at (Of address index))

-- the nodes of an instruction from a number on: each test that doesn't hold is an error
unfoldable pub chain : Setting → (address index : ℕ) → List Term → Ending → List Node
chain f address index [] (Goes to) = []
chain f address index [] (Does node further) = node ∷ further
chain f address index (test ∷ tests) ending =
    Cond test (onward f address (index + 1) tests ending) next.Err ∷ chain f address (index + 1) tests ending

-- x1 and the entry register of x1 have the address after the call
abbrev pub link : ℕ → List Binding
link back = record { variable = register 1; term = number back } ∷ record { variable = entry_register 1; term = number back } ∷ []

abbrev pub entry_binding : ℕ → Binding
entry_binding r = record { variable = entry_register r; term = open_term (register r) }

abbrev pub other_registers : List ℕ
other_registers =
    2 ∷ 3 ∷ 4 ∷ 5 ∷ 6 ∷ 7 ∷ 8 ∷ 9 ∷ 10 ∷ 11 ∷ 12 ∷ 13 ∷ 14 ∷ 15 ∷ 16
    ∷ 17 ∷ 18 ∷ 19 ∷ 20 ∷ 21 ∷ 22 ∷ 23 ∷ 24 ∷ 25 ∷ 26 ∷ 27 ∷ 28 ∷ 29 ∷ 30 ∷ 31 ∷ []

-- what a called function starts with: x1 has the address after the call, and its own entry registers have what the
-- registers have
unfoldable pub call_inputs : ℕ → List Binding
call_inputs back = link back ++ map entry_binding other_registers

-- what a function starts with that another one ends by: the registers are as they are, and it returns in that one's place
unfoldable pub tail_inputs : List Binding
tail_inputs = map entry_binding (1 ∷ other_registers)

-- a jump out of the range, which is a call that doesn't come back: a tail call
abbrev pub leaves_range : (entry size target : ℕ) → Bool
leaves_range entry size target = (target % 4 == 0) && not (is_in_range entry size target)

abbrev pub leaves : Setting → ℕ → Bool
leaves f target = leaves_range f.entry f.size target

-- what has to hold before an instruction: alignment and fixed bytes, and at a return, also one by a tail call, that it
-- is to the address with which the function began
unfoldable pub tests_of : Setting → Instr → Flow → List Term
tests_of f i Falls = access_tests f.runs i
tests_of f i (Branches target) = []
tests_of f i (Jumps target) = if leaves f target then returns_home ∷ [] else []
tests_of f i (Calls target) = []
tests_of f i (Links target) = []
tests_of f i Returns = returns_home ∷ []
tests_of f i (Switches jump) = []
tests_of f i Stops = []

-- how many nodes a call has before its landing node; a tail call has a test besides
abbrev pub call_nodes : ℕ
call_nodes = 1

abbrev pub tail_call_nodes : ℕ
tail_call_nodes = 2

-- ---- tables

-- what a branch bounds where it falls through: BLTU its right register, BGEU its left one
abbrev pub bounded_by : Instr → Term
bounded_by (Branch LessUnsigned left right offset) = operand right
bounded_by (Branch GreaterOrEqualUnsigned left right offset) = operand left
bounded_by i = number 0

-- a branch; one that bounds the index of a table keeps that index where it falls through
abbrev pub branching : Setting → (address : ℕ) → (keeps : Bool) → Instr → (target : ℕ) → Ending
branching f address false i target = Does (Cond (branch_test i) (toward f target) (toward f (address + 4))) []
branching f address true i target =
    Does (Cond (branch_test i) (toward f target) (next.At (f.at (Of address 1))))
    (Basic (record { variable = table_index; term = bounded_by i } ∷ []) (toward f (address + 4)) ∷ [])

-- on to the test of the index n, if the table has more words
abbrev pub next_test : Setting → (address n : ℕ) → List ℕ → Next
next_test f address n [] = next.Err
next_test f address n (target ∷ rest) = next.At (f.at (Of address n))

-- the tests of the index from n on, each of which goes to its word of the table
unfoldable pub table_tests : Setting → (address n : ℕ) → List ℕ → List Node
table_tests f address n [] = []
table_tests f address n (target ∷ rest) =
    Cond (equal (open_term table_index) (number n)) (toward f target) (next_test f address (n + 1) rest) ∷ table_tests f address (n + 1) rest

-- nodes; where there are none, an error
abbrev pub does_all : List Node → Ending
does_all [] = Does (Basic [] next.Err) []
does_all (node ∷ further) = Does node further

-- ---- an instruction

-- what an instruction does after its tests; a branch may keep the index of a table. ECALL, EBREAK and a call
-- of no multiple of 4 are errors, as is a jump to an address that is not known
unfoldable pub ending_of : Setting → (address : ℕ) → (keeps : Bool) → Instr → Flow → Ending
ending_of f address keeps i Falls = Does (Basic (effects address i) (toward f (address + 4))) []
ending_of f address keeps i (Branches target) = branching f address keeps i target
ending_of f address keeps i (Jumps target) =
    Does (if leaves f target then Call (f.graph_number target) tail_inputs [] (f.at (Following address tail_call_nodes)) else Basic [] (toward f target)) []
ending_of f address keeps i (Calls target) =
    Does (if target % 4 == 0 then Call (f.graph_number target) (call_inputs (past address 4)) [] (f.at (Following address call_nodes)) else Basic [] next.Err) []
ending_of f address keeps i (Links target) = Does (Basic [] next.Err) []
ending_of f address keeps i Returns = Goes next.Ret
ending_of f address keeps i (Switches jump) = does_all (table_tests f address 0 jump.targets)
ending_of f address keeps i Stops = Does (Basic [] next.Err) []

-- the nodes of the instruction at an address, of this flow
unfoldable pub nodes_at : Setting → (address : ℕ) → (keeps : Bool) → Instr → Flow → List Node
nodes_at f address keeps i flow = chain f address 0 (tests_of f i flow) (ending_of f address keeps i flow)

-- where the landing node after the call at an address continues, if it has one: after a tail call the function returns
unfoldable pub landing_of : Setting → (address : ℕ) → Flow → Option Next
landing_of f address (Calls target) = if target % 4 == 0 then Some (toward f (address + 4)) else None
landing_of f address (Jumps target) = if leaves f target then Some next.Ret else None
landing_of f address flow = None

-- the entry of the function that an instruction of this flow calls, in the function of this entry and size
unfoldable pub callee_of : (entry size : ℕ) → Flow → Option ℕ
callee_of entry size (Calls target) = if target % 4 == 0 then Some target else None
callee_of entry size (Jumps target) = if leaves_range entry size target then Some target else None
callee_of entry size flow = None
