-- The bytes of the file are an executable.
use Rattle.std.proofs.Common.{◌≡◌, ℕ, zero, suc, ◌<◌, List, [], ◌∷◌, Contains, Some, IsSome, refl, sym, subst, arith, lit<, lit≤}
use Rattle.elf_read_spec.specs.declared.ElfKind.{ElfKind}
use Rattle.elf_read_spec.specs.declared.ElfKind.TheVariants.{Short, Magic, Class, Endian, Version, Kind, Machine, Flags, HeaderSize, Table, SegmentRange, SegmentOverlap, NoSymbols, SymbolTable, StringTable}
use Rattle.elf_read_spec.specs.File.{u16_at, u32_at, symbol_table, symbols, loads, IsPlaced, IsTable, HasStrings, IsEnded, AreApart, Keeps, IsElf, image_of}
use Rattle.example_laws.specs.AddTwoArgumentsCalled.{file, image}

in_one : (x y : ℕ) → Contains (x ∷ []) y → y ≡ x
in_one x y (zero, below, e) = sym e
in_one x y (suc k, below, e) = absurd (omega (arith, below))

-- ---- the segment

one_load : loads file ≡ 52 ∷ []
unfolding u16_at u32_at file
one_load = refl

placed : IsPlaced file 52
unfolding u32_at file
placed = record { sizes = lit≤ tt; in_file = λ some. lit≤ tt; in_space = lit≤ tt }

load_at : (at : ℕ) → Contains (loads file) at → at ≡ 52
load_at at inside = in_one 52 at (subst (λ l. Contains l at) one_load inside)

-- ---- the symbols

table_is : symbol_table file ≡ Some 168
unfolding symbol_table u16_at u32_at file
table_is = refl

table_at : (at : ℕ) → symbol_table file ≡ Some at → at ≡ 168
table_at at e = let there = table_is in cc

is_table : IsTable file 168
unfolding u32_at file
is_table = record { entry_size = refl; whole = refl; in_file = lit≤ tt }

has_strings : HasStrings file 168
unfolding u16_at u32_at file
has_strings = record { linked = lit< tt; strings = refl; in_file = lit≤ tt }

two_symbols : symbols file 168 ≡ 92 ∷ 108 ∷ []
unfolding u32_at file
two_symbols = refl

ended_first : IsEnded file 168 92
unfolding u32_at file
ended_first some = absurd (omega (arith, some))

ended_second : IsEnded file 168 108
unfolding u32_at file
ended_second some = (1, lit< tt, refl)

ended : (at : ℕ) → Contains (92 ∷ 108 ∷ []) at → IsEnded file 168 at
ended at (zero, below, e) = subst (IsEnded file 168) e ended_first
ended at (suc zero, below, e) = subst (IsEnded file 168) e ended_second
ended at (suc (suc k), below, e) = absurd (omega (arith, below))

-- ---- each kind of fault

magic : (at : ℕ) → Keeps file Magic at
unfolding file
magic zero below = refl
magic (suc zero) below = refl
magic (suc (suc zero)) below = refl
magic (suc (suc (suc zero))) below = refl
magic (suc (suc (suc (suc at)))) below = absurd (omega (arith, below))

keeps : (kind : ElfKind) (at : ℕ) → Keeps file kind at
unfolding u16_at u32_at file
keeps Short at = λ e. lit≤ tt
keeps Magic at = magic at
keeps Class at = λ e. refl
keeps Endian at = λ e. refl
keeps Version at = (λ e. refl, λ e. refl)
keeps Kind at = λ e. refl
keeps Machine at = λ e. refl
keeps Flags at = λ e. refl
keeps HeaderSize at = (λ e. refl, λ e some. refl, λ e some. refl)
keeps Table at = (λ e. lit≤ tt, λ e. lit≤ tt)
keeps SegmentRange at = λ inside. subst (IsPlaced file) (sym (load_at at inside)) placed
keeps SegmentOverlap at = λ inside earlier before less. absurd (let one = load_at at inside in let two = load_at earlier before in omega (arith, one, two, less))
keeps NoSymbols at = λ e. subst (λ o. IsSome o) (sym table_is) refl
keeps SymbolTable at = λ e. subst (IsTable file) (sym (table_at at e)) is_table
keeps StringTable at = (
  λ e. subst (HasStrings file) (sym (table_at at e)) has_strings,
  λ table e has inside.
      let is = table_at table e in
      subst (λ t. IsEnded file t at) (sym is) (ended at (subst (λ l. Contains l at) two_symbols (subst (λ t. Contains (symbols file t) at) is inside))),
)

the_image : image ≡ image_of file
unfolding image_of symbol_table u16_at u32_at file
the_image = refl

pub is_elf : IsElf file image
is_elf = record { accepted = keeps; image_is = the_image }
