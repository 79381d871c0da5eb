-- A layout: the landing node at the entry has the number 0, and the nodes of the instructions follow by address.
use Rattle.std.specs.Prelude.{◌≡◌, ℕ, ◌+◌, ⊤, List, [], ◌∷◌, ◌++◌, length, map, Contains, Bool, Option, Some, None}
use Rattle.std.specs.List.Sorted.{IsStrictlyIncreasing}
use Rattle.rv_instr.specs.declared.Instr.{Instr}
use Rattle.elf_read_spec.specs.Image.{Image}
use Rattle.elf_read_spec.specs.Runs.{AreRuns}
use Rattle.code_reach_spec.specs.Code.{Flow, instr_at, flow_at, IsReachable}
use Rattle.graph_core_spec.specs.declared.Next.{Next}
use Rattle.graph_core_spec.specs.declared.Next.TheVariants as next
use Rattle.graph_core_spec.specs.Graph.{Node, Basic, Graph}
use Rattle.decompile_spec.specs.Blocks.{NodeName, Entrance, Of, Following, Setting, nodes_at, landing_of}
use Rattle.decompile_spec.specs.CodeGraph.{IsKept, IsCodeGraph}

-- an instruction that is reached
pub record Item : Type 0 where
  pub address : ℕ
  pub instruction : Instr
  pub flow : Flow
  pub keeps : Bool  -- it keeps the index of a table

abbrev pub landing_node : Option Next → List Node
landing_node None = []
landing_node (Some to) = Basic [] to ∷ []

-- its nodes, and its landing node
abbrev pub block : Setting → Item → List Node
block f item = nodes_at f item.address item.keeps item.instruction item.flow ++ landing_node (landing_of f item.address item.flow)

abbrev pub blocks : Setting → List Item → List Node
blocks f [] = []
blocks f (item ∷ rest) = block f item ++ blocks f rest

abbrev pub entrance_node : Setting → Node
entrance_node f = Basic [] (next.At (f.at (Of f.entry 0)))

abbrev pub laid : Setting → List Item → Graph
laid f items = record { nodes = entrance_node f ∷ blocks f items; entry = 0 }

-- the numbers of nodes, by the number of each instruction's first one: its further nodes follow, and its landing node
-- comes after as many nodes as it has
abbrev pub numbers_by : (ℕ → ℕ) → NodeName → ℕ
numbers_by first Entrance = 0
numbers_by first (Of address index) = first address + index
numbers_by first (Following address count) = first address + count

-- each instruction's first number is that at which its nodes begin, from n on
unfoldable pub AreNumbered : Setting → (ℕ → ℕ) → ℕ → List Item → Type 0
AreNumbered f first n [] = ⊤
AreNumbered f first n (item ∷ rest) = (first item.address ≡ n) × AreNumbered f first (n + length (block f item)) rest

-- these are the instructions that the function reaches, by address
pub record AreItems (image : Image) (entry size : ℕ) (items : List Item) : Type 0 where
  pub rising : IsStrictlyIncreasing (map (λ (item : Item). item.address) items)
  pub reached : (item : Item) → Contains items item → IsReachable image entry size item.address
  pub instructions : (item : Item) → Contains items item → instr_at image item.address ≡ Some item.instruction
  pub flows : (item : Item) → Contains items item → flow_at image entry item.address ≡ Some item.flow
  pub kept : (item : Item) → Contains items item → IsKept image entry size item.address item.keeps
  pub all : (address : ℕ) → IsReachable image entry size address → (item : Item) × Contains items item × (item.address ≡ address)

abbrev pub LaidAreCodeGraphs : Type 0
LaidAreCodeGraphs = (image : Image) (f : Setting) (first : ℕ → ℕ) (items : List Item) → AreRuns image f.runs
    → AreItems image f.entry f.size items → ((name : NodeName) → f.at name ≡ numbers_by first name) → AreNumbered f first 1 items
    → IsCodeGraph image f (laid f items)
