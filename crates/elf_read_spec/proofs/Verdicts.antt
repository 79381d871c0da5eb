-- A file comes to one verdict: it is accepted with one image, or refused in one way.
use Rattle.std.proofs.Common.{◌≡◌, ◌<◌, ◌-◌, ◌∙◌, ℕ, List, [], ◌∷◌, get_or, refl, sym, ap, subst, arith}
use Rattle.elf_read_spec.specs.declared.ElfKind.{ElfKind}
use Rattle.elf_read_spec.specs.declared.ElfKind.TheVariants.{Short, Magic, Class, Endian, Version, Kind, Machine, Flags, HeaderSize, Table, SegmentRange, SegmentOverlap, NoSymbols, SymbolTable, StringTable}
use Rattle.elf_read_spec.specs.Image.{Image}
use Rattle.elf_read_spec.specs.File.{IsElf, IsRefusedFile, rank}

-- no executable is refused
pub accepted_or_refused : (bytes : List ℕ) (image : Image) (kind : ElfKind) (offset : ℕ) → IsElf bytes image
    → IsRefusedFile bytes kind offset → ⊥
accepted_or_refused bytes image kind offset x r = r.fault (x.accepted kind offset)

-- an executable has one image
pub one_image : (bytes : List ℕ) (one other : Image) → IsElf bytes one → IsElf bytes other → one ≡ other
one_image bytes one other x y = x.image_is ∙ sym y.image_is

abbrev kinds : List ElfKind
kinds =
    Short ∷ Magic ∷ Class ∷ Endian ∷ Version ∷ Kind ∷ Machine ∷ Flags ∷ HeaderSize ∷ Table ∷ SegmentRange ∷ SegmentOverlap ∷ NoSymbols
    ∷ SymbolTable ∷ StringTable ∷ []

kind_of_rank : (kind : ElfKind) → get_or kinds (rank kind - 1) Short ≡ kind
kind_of_rank kind =
    elim kind as (λ k. get_or kinds (rank k - 1) Short ≡ k) [
      | Short ↦ refl
      | Magic ↦ refl
      | Class ↦ refl
      | Endian ↦ refl
      | Version ↦ refl
      | Kind ↦ refl
      | Machine ↦ refl
      | Flags ↦ refl
      | HeaderSize ↦ refl
      | Table ↦ refl
      | SegmentRange ↦ refl
      | SegmentOverlap ↦ refl
      | NoSymbols ↦ refl
      | SymbolTable ↦ refl
      | StringTable ↦ refl
    ]

-- a place in the order has one kind
pub rank_apart : (one other : ElfKind) → rank one ≡ rank other → one ≡ other
rank_apart one other same = sym (kind_of_rank one) ∙ ap (λ n. get_or kinds (n - 1) Short) same ∙ kind_of_rank other

-- the first fault has one kind
pub one_kind : (bytes : List ℕ) (one other : ElfKind) (at place : ℕ) → IsRefusedFile bytes one at → IsRefusedFile bytes other place
    → one ≡ other
one_kind bytes one other at place x y =
    let not_below : rank one < rank other → ⊥ = λ h. x.fault (y.first one h at) in
    let not_above : rank other < rank one → ⊥ = λ h. y.fault (x.first other h place) in
    rank_apart one other (omega arith)

one_offset_of_kind : (bytes : List ℕ) (reason : ElfKind) (at place : ℕ) → IsRefusedFile bytes reason at → IsRefusedFile bytes reason place
    → at ≡ place
one_offset_of_kind bytes reason at place x y =
    let not_below : at < place → ⊥ = λ h. x.fault (y.lowest at h) in
    let not_above : place < at → ⊥ = λ h. y.fault (x.lowest place h) in
    omega arith

-- and one offset
pub one_offset : (bytes : List ℕ) (one other : ElfKind) (at place : ℕ) → IsRefusedFile bytes one at → IsRefusedFile bytes other place
    → at ≡ place
one_offset bytes one other at place x y =
    one_offset_of_kind bytes one at place x (subst (λ k. IsRefusedFile bytes k place) (sym (one_kind bytes one other at place x y)) y)
