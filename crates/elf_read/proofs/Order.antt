-- The order in which the kinds of faults are tried.
use Rattle.std.proofs.Common.{◌≡◌, ◌+◌, ◌<◌, ℕ, List, All, Contains, Some, subst, sym, ◌∙◌, below_more, refl, lit<}
use Rattle.std.proofs.lemmas.List.Elements.{All-contains}
use Rattle.elf_read_spec.specs.declared.ElfKind.TheVariants.{Short, Magic, Class, Endian, Version, Kind, Machine, Flags, HeaderSize, Table, SegmentRange, SegmentOverlap, NoSymbols, SymbolTable, StringTable}
use Rattle.elf_read_spec.specs.declared.ElfKind.{ElfKind}
use Rattle.elf_read_spec.specs.File.{Keeps, IsRefusedFile, rank, symbol_table, HasStrings, IsEnded, symbols}
use Rattle.elf_read_spec.proofs.Verdicts.{rank_apart}
use Rattle.elf_read.specs.Faults.{KeepsKind, KeepsBelow}
use Rattle.elf_read.specs.Names.{IsFirstUnended}

-- where no kind before one is at fault, and neither is this one, none before the next one is
pub keeps_more : (bytes : List ℕ) (kind : ElfKind) (place : ℕ) → rank kind ≡ place → KeepsBelow bytes place → KeepsKind bytes kind
    → KeepsBelow bytes (place + 1)
keeps_more bytes kind place here below kept earlier less =
    below_more (λ n. (other : ElfKind) → rank other ≡ n → KeepsKind bytes other) place
    (λ n w other e. below other (subst (λ m. m < place) (sym e) w))
    (λ other e. subst (KeepsKind bytes) (rank_apart kind other (here ∙ sym e)) kept) (rank earlier) less earlier refl

rank_small : (kind : ElfKind) → rank kind < 16
rank_small kind =
    elim kind as (λ k. rank k < 16) [
      | Short ↦ lit< tt
      | Magic ↦ lit< tt
      | Class ↦ lit< tt
      | Endian ↦ lit< tt
      | Version ↦ lit< tt
      | Kind ↦ lit< tt
      | Machine ↦ lit< tt
      | Flags ↦ lit< tt
      | HeaderSize ↦ lit< tt
      | Table ↦ lit< tt
      | SegmentRange ↦ lit< tt
      | SegmentOverlap ↦ lit< tt
      | NoSymbols ↦ lit< tt
      | SymbolTable ↦ lit< tt
      | StringTable ↦ lit< tt
    ]

-- the symbol table and its string table are those of the file
strings_kept : (bytes : List ℕ) (table at : ℕ) → symbol_table bytes ≡ Some table → HasStrings bytes table → symbol_table bytes ≡ Some at
    → HasStrings bytes at
strings_kept bytes table at here has e =
    let same : table ≡ at = cc in subst (HasStrings bytes) same has

ended_there : (bytes : List ℕ) (table other at : ℕ) → symbol_table bytes ≡ Some table → symbol_table bytes ≡ Some other
    → (Contains (symbols bytes table) at → IsEnded bytes table at) → Contains (symbols bytes other) at → IsEnded bytes other at
ended_there bytes table other at here e ended within =
    let same : table ≡ other = cc in
    subst (λ t. Contains (symbols bytes t) at → IsEnded bytes t at) same ended within

-- the first name that isn't ended is the first fault
pub names_refused : (bytes : List ℕ) (table at : ℕ) → KeepsBelow bytes 15 → symbol_table bytes ≡ Some table → HasStrings bytes table
    → IsFirstUnended bytes table at → IsRefusedFile bytes StringTable at
names_refused bytes table at below here has first = record {
  fault = λ kept. first.unended (kept.1 table here has first.entry);
  first = λ earlier less. below earlier less;
  lowest =
      λ before less.
      (strings_kept bytes table before here has, λ other e strings. ended_there bytes table other before here e (first.lowest before less));
}

-- where each name is ended there is no fault
pub all_kept : (bytes : List ℕ) (table : ℕ) → KeepsBelow bytes 15 → symbol_table bytes ≡ Some table → HasStrings bytes table
    → All (IsEnded bytes table) (symbols bytes table) → (kind : ElfKind) (at : ℕ) → Keeps bytes kind at
all_kept bytes table below here has all reason =
    keeps_more bytes StringTable 15 refl below
    (λ at. (
      strings_kept bytes table at here has,
      λ other e strings. ended_there bytes table other at here e (All-contains (IsEnded bytes table) (symbols bytes table) at all),
    ))
    reason (rank_small reason)
