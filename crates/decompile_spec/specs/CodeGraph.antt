-- The graph of a function of an executable.
use Rattle.std.specs.Prelude.{◌≡◌, ◌↔◌, ◌<◌, ℕ, List, [], length, map, Contains, slice_get, Bool, true, false, Some}
use Rattle.std.specs.List.Sorted.{IsStrictlyIncreasing}
use Rattle.rv_instr.specs.declared.Instr.{Instr}
use Rattle.elf_read_spec.specs.Image.{Image}
use Rattle.elf_read_spec.specs.Runs.{AreRuns}
use Rattle.code_reach_spec.specs.Code.{Flow, Switches, TableJump, instr_at, flow_at, IsReachable}
use Rattle.graph_core_spec.specs.declared.Next.{Next}
use Rattle.graph_core_spec.specs.declared.Next.TheVariants as next
use Rattle.graph_core_spec.specs.Graph.{Node, Basic, Graph}
use Rattle.decompile_spec.specs.Blocks.{NodeName, Entrance, Of, Following, Setting, nodes_at, landing_of, callee_of}

-- whether the instruction at an address is the branch that bounds the index of a table by which the function jumps
pub data IsKept (image : Image) (entry size address : ℕ) : Bool → Type 0 where
  keeps : (place : ℕ) (jump : TableJump) → IsReachable image entry size place → flow_at image entry place ≡ Some (Switches jump)
      → jump.branch ≡ address → IsKept image entry size address true
  keeps_nothing : ((place : ℕ) (jump : TableJump) → IsReachable image entry size place → flow_at image entry place ≡ Some (Switches jump)
      → jump.branch ≡ address → ⊥) → IsKept image entry size address false

-- the node of a name in a function's graph; of every other name there is none
pub data IsNodeAt (image : Image) (f : Setting) : NodeName → Node → Type 0 where
  entrance : IsNodeAt image f Entrance (Basic [] (next.At (f.at (Of f.entry 0))))
  of_instruction : (address index : ℕ) (kept : Bool) (i : Instr) (flow : Flow) (node : Node) → IsReachable image f.entry f.size address
      → instr_at image address ≡ Some i → flow_at image f.entry address ≡ Some flow → IsKept image f.entry f.size address kept
      → slice_get (nodes_at f address kept i flow) index ≡ Some node → IsNodeAt image f (Of address index) node
  landing : (address count : ℕ) (kept : Bool) (i : Instr) (flow : Flow) (to : Next) → IsReachable image f.entry f.size address
      → instr_at image address ≡ Some i → flow_at image f.entry address ≡ Some flow → IsKept image f.entry f.size address kept
      → length (nodes_at f address kept i flow) ≡ count → landing_of f address flow ≡ Some to
      → IsNodeAt image f (Following address count) (Basic [] to)

-- the graph of the function of this setting: each of its nodes has the number of its name, each number is that of
-- one name, and there are no other nodes
pub record IsCodeGraph (image : Image) (f : Setting) (graph : Graph) : Type 0 where
  pub runs_are : AreRuns image f.runs
  pub entry_is : graph.entry ≡ f.at Entrance
  pub there : (name : NodeName) (node : Node) → IsNodeAt image f name node → slice_get graph.nodes (f.at name) ≡ Some node
  pub only : (n : ℕ) → n < length graph.nodes → (name : NodeName) × (node : Node) × IsNodeAt image f name node × (f.at name ≡ n)
  pub apart : (name other : NodeName) (node another : Node) → IsNodeAt image f name node → IsNodeAt image f other another
      → f.at name ≡ f.at other → name ≡ other

-- the instruction at an address, which the function of this entry and size reaches, calls the function at `callee`
pub record IsCall (image : Image) (entry size address callee : ℕ) : Type 0 where
  pub flow : Flow
  pub reached : IsReachable image entry size address
  pub flow_is : flow_at image entry address ≡ Some flow
  pub calls : callee_of entry size flow ≡ Some callee

-- the instructions that the function reaches, each with the number of its first node, by address
pub record AreFirstNodes (image : Image) (f : Setting) (firsts : List (ℕ × ℕ)) : Type 0 where
  pub rising : IsStrictlyIncreasing (map (λ first. first.0) firsts)
  pub exactly : (address node : ℕ) → Contains firsts (address, node) ↔ (IsReachable image f.entry f.size address × (node ≡ f.at (Of address 0)))
