-- Faults of the code of listed functions, and the first of them.
use Rattle.std.specs.Prelude.{◌≡◌, ℕ, List, ◌∷◌, ◌++◌, All}
use Rattle.elf_read_spec.specs.Image.{Image, function_named}
use Rattle.elf_read_spec.specs.declared.SymbolValues.TheVariants.{One, Two}
use Rattle.code_reach_spec.specs.declared.CodeKind.{CodeKind}
use Rattle.code_reach_spec.specs.declared.CodeKind.TheVariants.{Ambiguous}
use Rattle.code_reach_spec.specs.Faults.{IsReachFault, ReachesNoFault, IsFirst}

-- the code of the function of a name has this fault at this address: its symbols have two values, and the second is the
-- address; or it is the first fault of all that the function reaches
pub data HasCodeFault (image : Image) (name : List ℕ) : CodeKind → (address : ℕ) → Type 0 where
  ambiguous : (first second : ℕ) → function_named image name ≡ Two first second → HasCodeFault image name Ambiguous second
  of_reach : (entry : ℕ) (kind : CodeKind) (address : ℕ) → function_named image name ≡ One entry → IsFirst (IsReachFault image entry) kind address
      → HasCodeFault image name kind address

-- the name is that of the function at an entry, and nothing that it reaches has a fault
pub record HasSoundCode (image : Image) (name : List ℕ) (entry : ℕ) : Type 0 where
  pub named : function_named image name ≡ One entry
  pub sound : ReachesNoFault image entry

abbrev pub IsSoundCode : Image → List ℕ → Type 0
IsSoundCode image name = (entry : ℕ) × HasSoundCode image name entry

-- the first listed function whose code has a fault, and that fault
pub record IsFirstCodeFault (image : Image) (list : List (List ℕ)) (kind : CodeKind) (name : List ℕ) (address : ℕ) : Type 0 where
  pub prefix : List (List ℕ)
  pub rest : List (List ℕ)
  pub split : list ≡ prefix ++ (name ∷ rest)
  pub earlier : All (IsSoundCode image) prefix
  pub fault : HasCodeFault image name kind address
