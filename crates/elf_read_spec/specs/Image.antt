-- What an executable holds that the claim reads: its loaded segments and its defined symbols.
use Rattle.std.specs.Prelude.{ℕ, ◌-◌, ◌/◌, ◌%◌, ◌==◌, ◌&&◌, not, nat_le, max, bytes_eq, Bool, if◌then◌else◌, List, [], ◌∷◌, map, filter, find, codes, slice_get, Option, Some, None, unwrap_or}
use Rattle.std.specs.Option.{option_or}
use Rattle.elf_read_spec.specs.declared.fields.TheConstants.{PF_W, STT_OBJECT, STT_FUNC}
use Rattle.elf_read_spec.specs.declared.SymbolValues.{SymbolValues}
use Rattle.elf_read_spec.specs.declared.SymbolValues.TheVariants.{Absent, One, Two}

-- a PT_LOAD segment: its p_vaddr, p_memsz and p_flags, and the p_filesz bytes of the file (System V ABI, program header)
pub record Segment : Type 0 where
  pub vaddr : ℕ
  pub memsz : ℕ
  pub flags : ℕ
  pub bytes : List ℕ

-- a defined symbol: st_shndx isn't 0, and its kind is `st_info & 15` (System V ABI, symbol table)
pub record Symbol : Type 0 where
  pub name : List ℕ
  pub value : ℕ
  pub size : ℕ
  pub kind : ℕ

-- the segments in the order of their headers, the symbols in the order of their table
pub record Image : Type 0 where
  pub segments : List Segment
  pub symbols : List Symbol

-- without PF_W: nothing may write the segment
abbrev pub is_fixed : Segment → Bool
is_fixed segment = segment.flags / PF_W % 2 == 0

-- the file's byte at an address of a segment
abbrev pub byte_in : Segment → ℕ → Option ℕ
byte_in segment address = if nat_le segment.vaddr address then slice_get segment.bytes (address - segment.vaddr) else None

abbrev pub fixed_among : List Segment → ℕ → Option ℕ
fixed_among [] address = None
fixed_among (segment ∷ segments) address =
    option_or (if is_fixed segment then byte_in segment address else None) (fixed_among segments address)

-- the byte that the file fixes at an address: one of a segment without PF_W
unfoldable pub fixed_byte : Image → ℕ → Option ℕ
fixed_byte image address = fixed_among image.segments address

abbrev pub has_name : ℕ → List ℕ → Symbol → Bool
has_name kind name symbol = (symbol.kind == kind) && bytes_eq symbol.name name

-- the values of the symbols of a kind and name, in table order
abbrev pub values_of : ℕ → List ℕ → Image → List ℕ
values_of kind name image = map (λ s. s.value) (filter (has_name kind name) image.symbols)

abbrev pub first_of : List ℕ → Option ℕ
first_of [] = None
first_of (value ∷ values) = Some value

-- where the function of a name begins: the value of its first FUNC symbol
unfoldable pub entry_of : Image → List ℕ → Option ℕ
entry_of image name = first_of (values_of STT_FUNC name image)

-- where the global of a name begins: the value of its first OBJECT symbol
unfoldable pub object_of : Image → List ℕ → Option ℕ
object_of image name = first_of (values_of STT_OBJECT name image)

abbrev pub named_beside : ℕ → Option ℕ → SymbolValues
named_beside value None = One value
named_beside value (Some other) = Two value other

-- the first value, and the first other one
abbrev pub named_of : List ℕ → SymbolValues
named_of [] = Absent
named_of (value ∷ values) = named_beside value (find (λ other. not (other == value)) values)

-- the functions of a name: FUNC symbols, by their values
unfoldable pub function_named : Image → List ℕ → SymbolValues
function_named image name = named_of (values_of STT_FUNC name image)

-- the globals of a name: OBJECT symbols, by their values
unfoldable pub object_named : Image → List ℕ → SymbolValues
object_named image name = named_of (values_of STT_OBJECT name image)

abbrev pub size_among : List Symbol → ℕ → Option ℕ
size_among [] entry = None
size_among (symbol ∷ symbols) entry =
    if (symbol.kind == STT_FUNC) && (symbol.value == entry)
    then Some (max symbol.size (unwrap_or (size_among symbols entry) 0))
    else size_among symbols entry

-- the size of the function at an entry: the greatest of its FUNC symbols; no entry has none
unfoldable pub size_at : Image → ℕ → Option ℕ
size_at image entry = size_among image.symbols entry

-- the value of the first symbol `__global_pointer$`, of any kind (RISC-V psABI, global pointer)
unfoldable pub global_pointer : Image → Option ℕ
global_pointer image = first_of (map (λ s. s.value) (filter (λ s. bytes_eq s.name (codes "__global_pointer$")) image.symbols))
