-- Graphs with more nodes than the limit, of the functions that a listed one reaches.
use Rattle.std.specs.Prelude.{◌≡◌, ◌<◌, ℕ, List, length, Some}
use Rattle.memory_spec.specs.Runs.{Run}
use Rattle.elf_read_spec.specs.Image.{Image, function_named, size_at}
use Rattle.elf_read_spec.specs.declared.SymbolValues.TheVariants.{One}
use Rattle.code_reach_spec.specs.Code as code
use Rattle.graph_core_spec.specs.Graph.{Graph}
use Rattle.decompile_spec.specs.Blocks.{NodeName, Setting}
use Rattle.decompile_spec.specs.CodeGraph.{IsCodeGraph}
use Rattle.c_types_spec.specs.Core.{Body, Typed}
use Rattle.c_graph_spec.specs.Guards.{Place}
use Rattle.c_graph_spec.specs.SourceGraph.{graph_of}
use Rattle.pair_setup_spec.specs.SourceReach as source
use Rattle.pair_setup_spec.specs.SourceReach.{body_of}
use Rattle.tv_limits.specs.declared.TheConstants.{MAX_NODES}

-- how the graphs of code, and the nodes of this one, are numbered
abbrev pub numbered : (entry size : ℕ) → List Run → (graph_number : ℕ → ℕ) → (at : NodeName → ℕ) → Setting
numbered entry size runs graph_number at = record { entry = entry; size = size; runs = runs; graph_number = graph_number; at = at }

-- a graph of the function at an entry has more nodes than the limit; all of its graphs have equally many
pub record IsLargeCode (image : Image) (entry : ℕ) : Type 0 where
  pub size : ℕ
  pub size_is : size_at image entry ≡ Some size
  pub runs : List Run
  pub graph_number : ℕ → ℕ
  pub node_number : NodeName → ℕ
  pub graph : Graph
  pub graph_is : IsCodeGraph image (numbered entry size runs graph_number node_number) graph
  pub above : MAX_NODES < length graph.nodes

-- the graph of the C function of a name has more, wherever its globals are
pub record IsLargeSource (unit : Typed) (name : List ℕ) : Type 0 where
  pub body : Body
  pub body_is : body_of unit name ≡ Some body
  pub where_it_is : Place
  pub above : MAX_NODES < length (graph_of unit where_it_is body).nodes

-- a function that the listed one reaches has a graph that is too large
pub data HasLargeGraph (image : Image) (unit : Typed) (listed : List ℕ) : Type 0 where
  in_code : (entry other : ℕ) → function_named image listed ≡ One entry → code.Reaches image entry other → IsLargeCode image other
      → HasLargeGraph image unit listed
  in_source : (other : List ℕ) → source.Reaches unit listed other → IsLargeSource unit other → HasLargeGraph image unit listed
