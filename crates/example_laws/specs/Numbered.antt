-- A numbering under which the nodes of small functions are written out: the first node of the instruction at address
-- 10000 hex and 4 k more is 10 k + 1, and its further nodes follow; the landing node after it is 10 k + 10.
use Rattle.std.specs.Prelude.{pos, true, false, ℕ, ◌+◌, ◌-◌, ◌*◌, ◌/◌, List, [], ◌∷◌, replicate, Option, None, option_map, option_and_then}
use Rattle.rv_instr.specs.Instr.{instr}
use Rattle.rv_instr.specs.declared.Instr.TheVariants.{Jalr}
use Rattle.code_reach_spec.specs.Code.{Switches, TableJump, flow_of}
use Rattle.term_core_spec.specs.Term.{Term, open_term, equal, add, less, or_term}
use Rattle.graph_core_spec.specs.declared.Next.{Next}
use Rattle.graph_core_spec.specs.declared.Next.TheVariants as next
use Rattle.graph_core_spec.specs.Graph.{Node, Basic, Cond}
use Rattle.decompile_spec.specs.State.{register, entry_register, memory}
use Rattle.decompile_spec.specs.InstructionTerms.{number}
use Rattle.decompile_spec.specs.Blocks.{NodeName, Entrance, Of, Following, Setting, nodes_at, landing_of}

abbrev pub number_of : NodeName → ℕ
number_of Entrance = 0
number_of (Of address k) = (address - 0x10000) / 4 * 10 + k + 1
number_of (Following address count) = (address - 0x10000) / 4 * 10 + 10

-- a function at 10000 hex; the file fixes 100 hex bytes there, and four bytes from 20000 hex on
abbrev pub function : ℕ → Setting
function size = record {
  entry = 0x10000;
  size = size;
  runs = record { start = 0x10000; bytes = replicate 0x100 0 } ∷ record { start = 0x20000; bytes = 1 ∷ 2 ∷ 3 ∷ 4 ∷ [] } ∷ [];
  graph_number = λ entry. entry / 0x1000;
  at = number_of;
}

-- the nodes of a word at an address of that function, if the word has a form
abbrev pub nodes_of : (size address word : ℕ) → Option (List Node)
nodes_of size address word = option_map (λ i. nodes_at (function size) address false i (flow_of None address i)) (instr word)

-- the nodes of the second of two words
abbrev pub nodes_after : (size address previous word : ℕ) → Option (List Node)
nodes_after size address previous word = option_map (λ i. nodes_at (function size) address false i (flow_of (instr previous) address i)) (instr word)

-- the nodes of a branch that bounds the index of a table
abbrev pub bounding : (size address word : ℕ) → Option (List Node)
bounding size address word = option_map (λ i. nodes_at (function size) address true i (flow_of None address i)) (instr word)

-- the nodes of a jump by a table of these words
abbrev pub jumping : (size address : ℕ) → List ℕ → List Node
jumping size address targets =
    nodes_at (function size) address false (Jalr 0 15 (pos 0)) (Switches (record { before = 6; branch = 0x10004; targets = targets }))

-- where its landing node continues
abbrev pub landing_after : (size address word : ℕ) → Option Next
landing_after size address word = option_and_then (λ i. landing_of (function size) address (flow_of None address i)) (instr word)

-- ---- short words

-- a register, and what it was at the entry
abbrev pub x : ℕ → Term
x r = open_term (register r)

abbrev pub e : ℕ → Term
e r = open_term (entry_register r)

abbrev pub m : Term
m = open_term memory

-- a node that sets a register
abbrev pub sets : ℕ → Term → Next → Node
sets r term to = Basic (record { variable = register r; term = term } ∷ []) to

-- a node that sets memory
abbrev pub writes : Term → Next → Node
writes term to = Basic (record { variable = memory; term = term } ∷ []) to

-- a test that has to hold
abbrev pub asks : Term → Next → Node
asks test to = Cond test to next.Err

-- the node of a return
abbrev pub comes_home : Node
comes_home = asks (equal (x 1) (e 1)) next.Ret

-- ---- addresses

-- the address that x10 and an offset give
abbrev pub x10_plus : ℕ → Term
x10_plus offset = add (x 10) (number offset)

-- the bytes from a to e meet none from first to last
abbrev pub avoiding : (first last : ℕ) → (a e : Term) → Term
avoiding first last a e = or_term (less (number last) a) (less e (number first))
