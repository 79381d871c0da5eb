-- Why there is no graph of a function.
use Rattle.std.specs.Prelude.{◌≡◌, ℕ, ◌<◌, ◌≤◌, List, length, Contains, Some}
use Rattle.elf_read_spec.specs.Image.{Image, size_at}
use Rattle.code_reach_spec.specs.Faults.{HasNoFault}
use Rattle.code_reach.specs.Found.{IsFirstFault}
use Rattle.attempt.specs.declared.refusal.Refusal.{Refusal}
use Rattle.attempt.specs.declared.refusal.Refusal.TheVariants.{Fault, NoMemory}
use Rattle.code_reach.specs.declared.faults.CodeFault.{CodeFault}
use Rattle.decompile.specs.declared.error.GraphFault.{GraphFault}
use Rattle.decompile.specs.declared.error.GraphFault.TheVariants.{Code, Unlisted, Large}
use Rattle.graph_core_spec.specs.Graph.{Graph}
use Rattle.decompile_spec.specs.CodeGraph.{IsCall}
use Rattle.decompile.specs.Answer.{IsFunctionGraph}

abbrev pub error_of : Refusal CodeFault → Refusal GraphFault
error_of (Fault fault) = Fault (Code fault)
error_of NoMemory = NoMemory

-- the function has no fault, and the call at an address, the first such, is of a function whose entry isn't listed
pub record IsUnlistedCall (image : Image) (entry : ℕ) (entries : List ℕ) (address callee : ℕ) : Type 0 where
  pub size : ℕ
  pub size_is : size_at image entry ≡ Some size
  pub sound : HasNoFault image entry size
  pub calls : IsCall image entry size address callee
  pub missing : Contains entries callee → ⊥
  pub first : (other target : ℕ) → IsCall image entry size other target → other < address → Contains entries target

-- the function has a graph, of at least so many nodes, and they are above the maximum
pub record IsLarge (image : Image) (entry : ℕ) (entries : List ℕ) (maximum count : ℕ) : Type 0 where
  pub graph : Graph
  pub firsts : List (ℕ × ℕ)
  pub graph_is : IsFunctionGraph image entry entries graph firsts
  pub nodes : count ≤ length graph.nodes
  pub above : maximum < count

-- this is why there is no graph of at most so many nodes: the function's first fault, before its first call that isn't
-- listed, before its size. Out of memory may come at any time
abbrev pub IsGraphError : Image → (entry : ℕ) → (entries : List ℕ) → (maximum : ℕ) → Refusal GraphFault → Type 0
IsGraphError image entry entries maximum (Fault (Code fault)) = IsFirstFault image entry fault.kind fault.address
IsGraphError image entry entries maximum (Fault (Unlisted address callee)) = IsUnlistedCall image entry entries address callee
IsGraphError image entry entries maximum (Fault (Large count)) = IsLarge image entry entries maximum count
IsGraphError image entry entries maximum NoMemory = Unit {0}
