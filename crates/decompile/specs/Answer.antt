-- The graph of a function of an executable, as it is answered.
use Rattle.std.specs.Prelude.{◌≡◌, ◌==◌, ℕ, List, length, Some, nat_eq, unwrap_or, Contains}
use Rattle.std.specs.List.{position_or_len}
use Rattle.std.specs.Map.{lookup}
use Rattle.elf_read_spec.specs.Image.{Image, size_at}
use Rattle.memory_spec.specs.Runs.{Run}
use Rattle.elf_read_spec.specs.Runs.{AreRuns}
use Rattle.code_reach_spec.specs.Faults.{HasNoFault}
use Rattle.graph_core_spec.specs.Graph.{Graph, IsValid}
use Rattle.decompile_spec.specs.Blocks.{Setting}
use Rattle.decompile_spec.specs.CodeGraph.{IsCodeGraph, AreFirstNodes, IsCall}
use Rattle.decompile_laws.specs.Layout.{Item, AreItems, numbers_by}
use Rattle.decompile.specs.Counts.{numbered}
use Rattle.decompile.specs.declared.numbers.Counting.{Counting}

-- the number of a function's graph is the index of its entry in a list; where it isn't there, the list's length
abbrev pub number_in : List ℕ → (callee : ℕ) → ℕ
number_in entries callee = position_or_len (λ entry. entry == callee) entries

-- the number of the first node of the instruction at an address, of those that are listed
abbrev pub first_in : List (ℕ × ℕ) → (address : ℕ) → ℕ
first_in firsts address = unwrap_or (lookup (nat_eq address) firsts) 0

-- how graphs and nodes are numbered: graphs by a list of entries, nodes by the first one of each instruction
abbrev pub setting : (entry size : ℕ) → List Run → (entries : List ℕ) → (firsts : List (ℕ × ℕ)) → Setting
setting entry size runs entries firsts = record {
  entry = entry;
  size = size;
  runs = runs;
  graph_number = number_in entries;
  at = numbers_by (first_in firsts);
}

-- the function at an entry has no fault, and the functions that it calls are listed; this is its graph, whose stores
-- avoid these runs of fixed bytes, the only list of all of the file's, and these are the first nodes of its instructions
pub record IsFunctionGraph (image : Image) (entry : ℕ) (entries : List ℕ) (graph : Graph) (firsts : List (ℕ × ℕ)) : Type 0 where
  pub size : ℕ
  pub size_is : size_at image entry ≡ Some size
  pub runs : List Run
  pub only_runs : (others : List Run) → AreRuns image others → others ≡ runs
  pub sound : HasNoFault image entry size
  pub listed : (address callee : ℕ) → IsCall image entry size address callee → Contains entries callee
  pub graph_is : IsCodeGraph image (setting entry size runs entries firsts) graph
  pub firsts_are : AreFirstNodes image (setting entry size runs entries firsts) firsts
  pub valid : IsValid graph

-- by what the nodes of a function are counted: its range, and how many runs of fixed bytes there are
abbrev pub counting : (entry size runs : ℕ) → Counting
counting entry size runs = record { entry = entry; size = size; runs = runs }

-- the instructions that the function at an entry reaches, each with the number of its first node: the nodes of an
-- instruction follow those of the one before it
pub record AreFirsts (image : Image) (entry : ℕ) (firsts : List (ℕ × ℕ)) : Type 0 where
  pub size : ℕ
  pub size_is : size_at image entry ≡ Some size
  pub runs : List Run
  pub runs_are : AreRuns image runs
  pub items : List Item
  pub items_are : AreItems image entry size items
  pub numbers : firsts ≡ numbered (counting entry size (length runs)) 1 items
