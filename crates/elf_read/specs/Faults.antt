-- The first fault of a file, kind by kind.
use Rattle.std.specs.Prelude.{◌<◌, ℕ, List, Option, MatchOption}
use Rattle.elf_read_spec.specs.declared.ElfKind.{ElfKind}
use Rattle.elf_read_spec.specs.File.{Keeps, rank}

-- the file has no fault of this kind
abbrev pub KeepsKind : List ℕ → ElfKind → Type 0
KeepsKind bytes kind = (at : ℕ) → Keeps bytes kind at

-- the file has no fault of the kinds of lower rank
abbrev pub KeepsBelow : List ℕ → ℕ → Type 0
KeepsBelow bytes place = (kind : ElfKind) → rank kind < place → (at : ℕ) → Keeps bytes kind at

-- the first fault of a kind
pub record IsFirstOfKind (bytes : List ℕ) (kind : ElfKind) (at : ℕ) : Type 0 where
  pub fault : Keeps bytes kind at → ⊥
  pub lowest : (before : ℕ) → before < at → Keeps bytes kind before

-- the offset of the first fault of a kind, if there is one
abbrev pub IsFirst : List ℕ → ElfKind → Option ℕ → Type 0
IsFirst bytes kind at = MatchOption at (KeepsKind bytes kind) (λ offset. IsFirstOfKind bytes kind offset)
