-- What pairing answers, as the program has it.
use Rattle.std.specs.Prelude.{◌≡◌, ◌↔◌, ◌⊎◌, ℕ, List, [], ◌∷◌, codes, All, Contains, Some, slice_get}
use Rattle.std.specs.List.Sorted.{IsStrictlyIncreasing}
use Rattle.elf_read_spec.specs.Image.{Image}
use Rattle.c_types_spec.specs.Core.{Typed}
use Rattle.pair_setup_calls.specs.Names.{IsNumber}
use Rattle.pair_setup_spec.specs.Faults.{HasNames, IsFirstNameFault}
use Rattle.pair_setup_spec.specs.Code.{IsSoundCode}
use Rattle.pair_setup_spec.specs.Outcome as spec
use Rattle.pair_setup_spec.specs.Outcome.{IsPairFault, IsCodeFault, IsPaired, IsReached, IsTooLarge}
use Rattle.graph_core_spec.specs.Graph.{Graph}
use Rattle.graph_core.specs.Graphs.{graphs_of}
use Rattle.pair_setup.specs.Graphs.{AreCode, AreKept, firsts_of}
use Rattle.pair_setup.specs.Names.{AreReachedNumbers}
use Rattle.pair_setup.specs.Depths.{AreFunctions, with_name}
use Rattle.pair_setup.specs.Sizes.{AnyLargeCode, AnyLargeSource}
use Rattle.pair_setup.specs.declared.outcome.Function.{Function}
use Rattle.pair_setup.specs.declared.outcome.Pairs.{Pairs}
use Rattle.pair_setup.specs.declared.outcome.Named.{Named}
use Rattle.pair_setup.specs.declared.outcome.Named.TheVariants.{Nothing, Listed, Declared}
use Rattle.attempt.specs.declared.refusal.Refusal.{Refusal}
use Rattle.attempt.specs.declared.refusal.Refusal.TheVariants.{Fault, NoMemory}
use Rattle.pair_setup.specs.declared.outcome.PairFault.{PairFault}
use Rattle.pair_setup.specs.declared.outcome.PairFault.TheVariants.{Refused, Code, Nodes}

-- the functions with the names of the list
abbrev pub functions_of : List (List ℕ) → List Function → List spec.Function
functions_of [] functions = []
functions_of (name ∷ list) [] = []
functions_of (name ∷ list) (f ∷ functions) = with_name name f ∷ functions_of list functions

abbrev pub pairs_of : List (List ℕ) → Pairs → spec.Pairs
pairs_of list pairs = record { functions = functions_of list pairs.functions.items; entries = pairs.entries.items }

-- the list has these pairs; the graphs are those of the functions at their entries, and these are the first nodes of the
-- instructions in each
pub record ArePairs (image : Image) (unit : Typed) (list : List (List ℕ)) (pairs : Pairs) : Type 0 where
  pub paired : IsPaired image unit list (pairs_of list pairs)
  pub code : AreCode image pairs.entries.items (graphs_of pairs.code.items)
  pub firsts : code.firsts ≡ firsts_of pairs.firsts.items

-- the name of which a fault speaks
abbrev pub IsNamed : (names list : List (List ℕ)) → Named → (name : List ℕ) → Type 0
IsNamed names list Nothing name = name ≡ codes "-"
IsNamed names list (Listed index) name = slice_get list index ≡ Some name
IsNamed names list (Declared number) name = IsNumber names number name

-- this is why the list has no pairs; out of memory may come at any time
abbrev pub IsPairError : Image → Typed → (names list : List (List ℕ)) → Refusal PairFault → Type 0
IsPairError image unit names list (Fault (Refused kind named)) = (name : List ℕ) × IsNamed names list named name × IsPairFault image unit list kind name
IsPairError image unit names list (Fault (Code fault index)) = (name : List ℕ) × (slice_get list index ≡ Some name) × IsCodeFault image unit list fault.kind name fault.address
IsPairError image unit names list (Fault Nodes) = IsTooLarge image unit list
IsPairError image unit names list NoMemory = Unit {0}

-- ---- on the way

-- the first fault of names
abbrev pub IsFirstNameError : Image → Typed → (names list : List (List ℕ)) → Refusal PairFault → Type 0
IsFirstNameError image unit names list (Fault (Refused kind named)) = (name : List ℕ) × IsNamed names list named name × IsFirstNameFault image unit list kind name
IsFirstNameError image unit names list (Fault (Code fault index)) = ⊥
IsFirstNameError image unit names list (Fault Nodes) = ⊥
IsFirstNameError image unit names list NoMemory = Unit {0}

-- no listed function has a fault; these are the numbers and the entries of all that they reach
pub record AreChecked (image : Image) (unit : Typed) (names list : List (List ℕ)) (functions : List Function) (numbers entries : List ℕ) : Type 0 where
  pub names_are : All (HasNames image unit) list
  pub code_is : All (IsSoundCode image) list
  pub functions_are : AreFunctions image unit list functions
  pub numbers_are : AreReachedNumbers unit names list numbers
  pub entries_are : (entry : ℕ) → Contains entries entry ↔ IsReached image list entry

-- the entries, rising, and the graphs of their functions with the first nodes of instructions; no graph of these is too large
pub record AreSmall (image : Image) (unit : Typed) (names : List (List ℕ)) (numbers old new : List ℕ) (graphs : List Graph) (firsts : List (List (ℕ × ℕ))) : Type 0 where
  pub rising : IsStrictlyIncreasing new
  pub same : (entry : ℕ) → Contains new entry ↔ Contains old entry
  pub graphs_are : AreKept image new graphs firsts
  pub code : AnyLargeCode image old → ⊥
  pub source : AnyLargeSource unit names numbers → ⊥

-- one is too large; out of memory may come at any time
abbrev pub IsLargeError : Image → Typed → (names : List (List ℕ)) → (numbers entries : List ℕ) → Refusal PairFault → Type 0
IsLargeError image unit names numbers entries (Fault (Refused kind named)) = ⊥
IsLargeError image unit names numbers entries (Fault (Code fault index)) = ⊥
IsLargeError image unit names numbers entries (Fault Nodes) = AnyLargeCode image entries ⊎ AnyLargeSource unit names numbers
IsLargeError image unit names numbers entries NoMemory = Unit {0}
