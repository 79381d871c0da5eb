-- What pairing a list of functions with their source answers.
use Rattle.std.specs.Prelude.{◌≡◌, ◌≢◌, ◌↔◌, ◌≤◌, ℕ, List, [], map, codes, All, Contains, Some}
use Rattle.std.specs.List.Sorted.{IsStrictlyIncreasing}
use Rattle.elf_read_spec.specs.Image.{Image, function_named, size_at}
use Rattle.elf_read_spec.specs.declared.SymbolValues.TheVariants.{One}
use Rattle.code_reach_spec.specs.declared.CodeKind.{CodeKind}
use Rattle.code_reach_spec.specs.Code.{IsStack}
use Rattle.code_reach_spec.specs.Code as code
use Rattle.c_types_spec.specs.Core.{Typed}
use Rattle.tv_limits.specs.declared.TheConstants.{MAX_STACK}
use Rattle.pair_setup_spec.specs.declared.PairKind.{PairKind}
use Rattle.pair_setup_spec.specs.declared.PairKind.TheVariants.{NothingListed}
use Rattle.pair_setup_spec.specs.Faults.{HasNames, IsFirstNameFault, IsFirstReachFault, IsShallow}
use Rattle.pair_setup_spec.specs.Code.{IsSoundCode, IsFirstCodeFault}
use Rattle.pair_setup_spec.specs.Nodes.{HasLargeGraph}

-- ---- faults

-- the fault that is answered, and the name of which it speaks: that nothing is listed, then those of names, and last,
-- where names and code have none, those of what is reached
pub data IsPairFault (image : Image) (unit : Typed) (list : List (List ℕ)) : PairKind → (name : List ℕ) → Type 0 where
  nothing_listed : list ≡ [] → IsPairFault image unit list NothingListed (codes "-")
  of_names : (kind : PairKind) (name : List ℕ) → IsFirstNameFault image unit list kind name → IsPairFault image unit list kind name
  of_reach : (kind : PairKind) (name : List ℕ) → All (HasNames image unit) list → All (IsSoundCode image) list → IsFirstReachFault image unit list kind name
      → IsPairFault image unit list kind name

-- names have no fault, but code has
pub record IsCodeFault (image : Image) (unit : Typed) (list : List (List ℕ)) (kind : CodeKind) (name : List ℕ) (address : ℕ) : Type 0 where
  pub names : All (HasNames image unit) list
  pub first : IsFirstCodeFault image list kind name address

-- a listed function has no fault
pub record HasNoFault (image : Image) (unit : Typed) (listed : List ℕ) : Type 0 where
  pub names : HasNames image unit listed
  pub code : IsSoundCode image listed
  pub shallow : IsShallow image unit listed

-- no listed function has a fault, but a graph of one is too large
pub record IsTooLarge (image : Image) (unit : Typed) (list : List (List ℕ)) : Type 0 where
  pub no_fault : All (HasNoFault image unit) list
  pub listed : List ℕ
  pub is_listed : Contains list listed
  pub large : HasLargeGraph image unit listed

-- ---- pairs

-- a listed function: its entry, its size and its stack in bytes
pub record Function : Type 0 where
  pub name : List ℕ
  pub entry : ℕ
  pub size : ℕ
  pub stack : ℕ

-- the listed functions, and the entries of all functions that their code reaches
pub record Pairs : Type 0 where
  pub functions : List Function
  pub entries : List ℕ

pub record IsFunction (image : Image) (unit : Typed) (f : Function) : Type 0 where
  pub entry_is : function_named image f.name ≡ One f.entry
  pub size_is : size_at image f.entry ≡ Some f.size
  pub stack_is : IsStack image f.entry f.stack
  pub within : f.stack ≤ MAX_STACK

-- the code of a listed function reaches the entry
pub record IsReached (image : Image) (list : List (List ℕ)) (entry : ℕ) : Type 0 where
  pub listed : List ℕ
  pub is_listed : Contains list listed
  pub from : ℕ
  pub from_is : function_named image listed ≡ One from
  pub reached : code.Reaches image from entry

-- the list has these pairs: it isn't empty, and no listed function has a fault or a graph that is too large
pub record IsPaired (image : Image) (unit : Typed) (list : List (List ℕ)) (pairs : Pairs) : Type 0 where
  pub some : list ≢ []
  pub no_fault : All (HasNoFault image unit) list
  pub no_large : All (λ listed. HasLargeGraph image unit listed → ⊥) list
  pub listed : map (λ (f : Function). f.name) pairs.functions ≡ list
  pub functions_are : All (IsFunction image unit) pairs.functions
  pub rising : IsStrictlyIncreasing pairs.entries
  pub entries_are : (entry : ℕ) → Contains pairs.entries entry ↔ IsReached image list entry
