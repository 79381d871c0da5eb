-- The graphs of the functions at some entries, each with the first nodes of its instructions.
use Rattle.std.specs.Prelude.{◌≡◌, ◌⊎◌, ℕ, List, [], length, map, get_or, Contains, Some, IsSome, Bool, true, false, slice_get}
use Rattle.elf_read_spec.specs.Image.{Image, size_at}
use Rattle.code_reach_spec.specs.Faults.{HasNoFault}
use Rattle.graph_core_spec.specs.Graph.{Graph}
use Rattle.decompile_spec.specs.CodeGraph.{IsCall}
use Rattle.decompile.specs.Answer.{AreFirsts, IsFunctionGraph}
use Rattle.indexmap.specs.IndexMap.{IndexMap}
use Rattle.pair_setup_spec.specs.Nodes.{IsLargeCode}
use Rattle.c_types_spec.specs.Core.{Typed}
use Rattle.pair_setup.specs.Sizes.{AnyLargeCode, AnyLargeSource}

-- the function at an entry has no fault, and what it calls is among the entries
pub record IsSound (image : Image) (entries : List ℕ) (entry : ℕ) : Type 0 where
  pub sized : IsSome (size_at image entry)
  pub no_fault : (size : ℕ) → size_at image entry ≡ Some size → HasNoFault image entry size
  pub closed : (size address callee : ℕ) → size_at image entry ≡ Some size → IsCall image entry size address callee → Contains entries callee

-- a graph of the function at an entry, and the first nodes of its instructions
pub record IsCodeBy (image : Image) (entries : List ℕ) (entry : ℕ) (graph : Graph) (firsts : List (ℕ × ℕ)) : Type 0 where
  pub graph_is : IsFunctionGraph image entry entries graph firsts
  pub firsts_are : AreFirsts image entry firsts

-- they are, and the graph isn't too large
pub record IsSmallCode (image : Image) (entries : List ℕ) (entry : ℕ) (graph : Graph) (firsts : List (ℕ × ℕ)) : Type 0 where
  pub code : IsCodeBy image entries entry graph firsts
  pub small : IsLargeCode image entry → ⊥

-- graphs of the first n functions
pub record AreCodeOf (image : Image) (entries : List ℕ) (n : ℕ) (graphs : List Graph) : Type 0 where
  pub firsts : List (List (ℕ × ℕ))
  pub graph_count : length graphs ≡ n
  pub first_count : length firsts ≡ n
  pub each : (k entry : ℕ) (graph : Graph) → slice_get entries k ≡ Some entry → slice_get graphs k ≡ Some graph
      → IsCodeBy image entries entry graph (get_or firsts k [])

-- graphs of all of them
abbrev pub AreCode : Image → (entries : List ℕ) → List Graph → Type 0
AreCode image entries graphs = AreCodeOf image entries (length entries) graphs

-- the first nodes of instructions, as maps have them
abbrev pub firsts_in : {S : Type 0} → IndexMap ℕ ℕ S → List (ℕ × ℕ)
firsts_in by_address = by_address.entries

abbrev pub firsts_of : {S : Type 0} → List (IndexMap ℕ ℕ S) → List (List (ℕ × ℕ))
firsts_of maps = map firsts_in maps

-- graphs of the first n functions, of whose instructions these are the first nodes
pub record AreKeptOf (image : Image) (entries : List ℕ) (n : ℕ) (graphs : List Graph) (firsts : List (List (ℕ × ℕ))) : Type 0 where
  pub code : AreCodeOf image entries n graphs
  pub are : code.firsts ≡ firsts

-- of all of them
abbrev pub AreKept : Image → (entries : List ℕ) → List Graph → (firsts : List (List (ℕ × ℕ))) → Type 0
AreKept image entries graphs firsts = AreKeptOf image entries (length entries) graphs firsts

-- of all functions, if none is too large; false where one is
abbrev pub AreCodeIf : Image → (entries : List ℕ) → List Graph → (firsts : List (List (ℕ × ℕ))) → Bool → Type 0
AreCodeIf image entries graphs firsts true = AreKept image entries graphs firsts × (AnyLargeCode image entries → ⊥)
AreCodeIf image entries graphs firsts false = AnyLargeCode image entries

-- the same, and no graph of these C functions, by numbers, is too large either
abbrev pub AreSmallIf : Image → Typed → (names : List (List ℕ)) → (numbers entries : List ℕ) → List Graph → (firsts : List (List (ℕ × ℕ))) → Bool → Type 0
AreSmallIf image unit names numbers entries graphs firsts true =
    AreKept image entries graphs firsts × (AnyLargeCode image entries → ⊥) × (AnyLargeSource unit names numbers → ⊥)
AreSmallIf image unit names numbers entries graphs firsts false = AnyLargeCode image entries ⊎ AnyLargeSource unit names numbers
