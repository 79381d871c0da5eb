-- What it means that the graphs of code are valid, bind the machine's state alone, and have one size.
use Rattle.std.specs.Prelude.{◌≡◌, ◌≢◌, ℕ, ◌+◌, ◌^◌, ◌≤◌, List, length, Contains}
use Rattle.elf_read_spec.specs.Image.{Image}
use Rattle.memory_spec.specs.Runs.{Run}
use Rattle.code_reach_spec.specs.Faults.{HasNoFault}
use Rattle.term_core_spec.specs.declared.Family.{Family}
use Rattle.term_core_spec.specs.declared.Family.TheVariants.{Register, BinaryMemory}
use Rattle.graph_core_spec.specs.Graph.{Graph, IsValid}
use Rattle.graph_core_spec.specs.Variables.{NeverBinds}
use Rattle.decompile_spec.specs.Blocks.{NodeName, Setting}
use Rattle.decompile_spec.specs.CodeGraph.{IsCodeGraph}

abbrev pub CodeGraphsAreValid : Type 0
CodeGraphsAreValid = (image : Image) (f : Setting) (graph : Graph) → HasNoFault image f.entry f.size
    → ((run : Run) → Contains f.runs run → run.start + length run.bytes ≤ 2 ^ 32) → IsCodeGraph image f graph → IsValid graph

-- in its own frame a graph of code binds registers and the memory of the binary, and no variable of another family: its
-- entry registers and the parameters stay as they were when it began
abbrev pub CodeGraphsBindTheState : Type 0
CodeGraphsBindTheState = (image : Image) (f : Setting) (graph : Graph) → IsCodeGraph image f graph → (family : Family) → family ≢ Register
    → family ≢ BinaryMemory → NeverBinds graph family

-- all graphs of one function have equally many nodes, however graphs and nodes are numbered
abbrev pub CodeGraphsHaveOneSize : Type 0
CodeGraphsHaveOneSize = (image : Image) (entry size : ℕ) (runs : List Run) (number other_number : ℕ → ℕ) (at other_at : NodeName → ℕ) (graph other : Graph)
    → IsCodeGraph image (record { entry = entry; size = size; runs = runs; graph_number = number; at = at }) graph
    → IsCodeGraph image (record { entry = entry; size = size; runs = runs; graph_number = other_number; at = other_at }) other
    → length graph.nodes ≡ length other.nodes
