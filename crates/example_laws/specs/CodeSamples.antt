-- Images of a few words each.
use Rattle.std.specs.Prelude.{ℕ, List, [], ◌∷◌, codes, flat_map, length}
use Rattle.byteorder.specs.Endian.{little_bytes}
use Rattle.elf_read_spec.specs.declared.fields.TheConstants.{STT_FUNC}
use Rattle.elf_read_spec.specs.Image.{Image, Symbol}

abbrev pub bytes_of : (words : List ℕ) → List ℕ
bytes_of words = flat_map (little_bytes 4) words

-- code from 00010000 on, which may be read and executed
abbrev pub image_with : (bytes : List ℕ) → List Symbol → Image
image_with bytes symbols = record {
  segments = record { vaddr = 0x10000; memsz = length bytes; flags = 5; bytes = bytes } ∷ [];
  symbols = symbols;
}

abbrev pub function : (name : List ℕ) → (entry size : ℕ) → Symbol
function name entry size = record { name = name; value = entry; size = size; kind = STT_FUNC }

-- f: auipc x5,0; jalr x1,12(x5); ret. g: ret
abbrev pub pair_bytes : List ℕ
pair_bytes = bytes_of (0x00000297 ∷ 0x00c280e7 ∷ 0x00008067 ∷ 0x00008067 ∷ [])

unfoldable pub pair : Image
pair = image_with pair_bytes (function (codes "f") 0x10000 12 ∷ function (codes "g") 0x1000c 4 ∷ [])

-- f: jal x0,+4. g: ret
abbrev pub tail_call_bytes : List ℕ
tail_call_bytes = bytes_of (0x0040006f ∷ 0x00008067 ∷ [])

unfoldable pub tail_call : Image
tail_call = image_with tail_call_bytes (function (codes "f") 0x10000 4 ∷ function (codes "g") 0x10004 4 ∷ [])

-- f: jal x1,+8; ret. g: jal x1,-8; ret
abbrev pub circle_bytes : List ℕ
circle_bytes = bytes_of (0x008000ef ∷ 0x00008067 ∷ 0xff9ff0ef ∷ 0x00008067 ∷ [])

unfoldable pub circle : Image
circle = image_with circle_bytes (function (codes "f") 0x10000 8 ∷ function (codes "g") 0x10008 8 ∷ [])

-- f: addi x2,x2,-16; ret
abbrev pub frame_bytes : List ℕ
frame_bytes = bytes_of (0xff010113 ∷ 0x00008067 ∷ [])

unfoldable pub frame : Image
frame = image_with frame_bytes (function (codes "f") 0x10000 8 ∷ [])

-- f: beq x0,x0,+8; auipc x5,0; jalr x0,8(x5); ret. The branch goes to the JALR
abbrev pub entered_pair_bytes : List ℕ
entered_pair_bytes = bytes_of (0x00000463 ∷ 0x00000297 ∷ 0x00828067 ∷ 0x00008067 ∷ [])

unfoldable pub entered_pair : Image
entered_pair = image_with entered_pair_bytes (function (codes "f") 0x10000 16 ∷ [])

-- f: jal x0,+8. g: ret; ret. The jump goes into g
abbrev pub stray_bytes : List ℕ
stray_bytes = bytes_of (0x0080006f ∷ 0x00008067 ∷ 0x00008067 ∷ [])

unfoldable pub stray : Image
stray = image_with stray_bytes (function (codes "f") 0x10000 4 ∷ function (codes "g") 0x10004 8 ∷ [])

-- f: auipc x1,0; jalr x0,12(x1); ret. g: ret
abbrev pub pair_by_x1_bytes : List ℕ
pair_by_x1_bytes = bytes_of (0x00000097 ∷ 0x00c08067 ∷ 0x00008067 ∷ 0x00008067 ∷ [])

unfoldable pub pair_by_x1 : Image
pair_by_x1 = image_with pair_by_x1_bytes (function (codes "f") 0x10000 12 ∷ function (codes "g") 0x1000c 4 ∷ [])

-- f: li x15,1; bltu x15,x10,+40; lui x15,16; slli x10,x10,2; add x15,x15,x10; lw x15,52(x15); jr x15;
-- li x10,7; ret; li x10,5; ret; li x10,9; ret. The words 0001001c and 00010024 follow
abbrev pub switch_bytes : List ℕ
switch_bytes = bytes_of (
    0x00100793 ∷ 0x02a7e463 ∷ 0x000107b7 ∷ 0x00251513 ∷ 0x00a787b3 ∷ 0x0347a783 ∷ 0x00078067 ∷ 0x00700513
    ∷ 0x00008067 ∷ 0x00500513 ∷ 0x00008067 ∷ 0x00900513 ∷ 0x00008067 ∷ 0x0001001c ∷ 0x00010024 ∷ []
    )

unfoldable pub switch : Image
switch = image_with switch_bytes (function (codes "f") 0x10000 52 ∷ [])

-- f: li x15,2; bgeu x10,x15,+40, and on as above
abbrev pub switch_by_bgeu_bytes : List ℕ
switch_by_bgeu_bytes = bytes_of (
    0x00200793 ∷ 0x02f57463 ∷ 0x000107b7 ∷ 0x00251513 ∷ 0x00a787b3 ∷ 0x0347a783 ∷ 0x00078067 ∷ 0x00700513
    ∷ 0x00008067 ∷ 0x00500513 ∷ 0x00008067 ∷ 0x00900513 ∷ 0x00008067 ∷ 0x0001001c ∷ 0x00010024 ∷ []
    )

unfoldable pub switch_by_bgeu : Image
switch_by_bgeu = image_with switch_by_bgeu_bytes (function (codes "f") 0x10000 52 ∷ [])

-- f: li x14,1; addi x15,x10,-97; bltu x14,x15,+40; slli x15,x15,2; lui x14,16; add x15,x15,x14; lw x15,56(x15); jr x15,
-- and on as above. The words 00010020 and 00010028 follow
abbrev pub switch_on_sum_bytes : List ℕ
switch_on_sum_bytes = bytes_of (
    0x00100713 ∷ 0xf9f50793 ∷ 0x02f76463 ∷ 0x00279793 ∷ 0x00010737 ∷ 0x00e787b3 ∷ 0x0387a783 ∷ 0x00078067
    ∷ 0x00700513 ∷ 0x00008067 ∷ 0x00500513 ∷ 0x00008067 ∷ 0x00900513 ∷ 0x00008067 ∷ 0x00010020 ∷ 0x00010028 ∷ []
    )

unfoldable pub switch_on_sum : Image
switch_on_sum = image_with switch_on_sum_bytes (function (codes "f") 0x10000 56 ∷ [])

-- as `switch`, with a nop in place of the branch
abbrev pub switch_unbounded_bytes : List ℕ
switch_unbounded_bytes = bytes_of (
    0x00100793 ∷ 0x00000013 ∷ 0x000107b7 ∷ 0x00251513 ∷ 0x00a787b3 ∷ 0x0347a783 ∷ 0x00078067 ∷ 0x00700513
    ∷ 0x00008067 ∷ 0x00500513 ∷ 0x00008067 ∷ 0x00900513 ∷ 0x00008067 ∷ 0x0001001c ∷ 0x00010024 ∷ []
    )

unfoldable pub switch_unbounded : Image
switch_unbounded = image_with switch_unbounded_bytes (function (codes "f") 0x10000 52 ∷ [])

-- as `switch`, with 00010040 as the last word
abbrev pub switch_out_bytes : List ℕ
switch_out_bytes = bytes_of (
    0x00100793 ∷ 0x02a7e463 ∷ 0x000107b7 ∷ 0x00251513 ∷ 0x00a787b3 ∷ 0x0347a783 ∷ 0x00078067 ∷ 0x00700513
    ∷ 0x00008067 ∷ 0x00500513 ∷ 0x00008067 ∷ 0x00900513 ∷ 0x00008067 ∷ 0x0001001c ∷ 0x00010040 ∷ []
    )

unfoldable pub switch_out : Image
switch_out = image_with switch_out_bytes (function (codes "f") 0x10000 52 ∷ [])

-- as `switch`, with bltu x15,x10,+8: the branch goes to the slli
abbrev pub switch_entered_bytes : List ℕ
switch_entered_bytes = bytes_of (
    0x00100793 ∷ 0x00a7e463 ∷ 0x000107b7 ∷ 0x00251513 ∷ 0x00a787b3 ∷ 0x0347a783 ∷ 0x00078067 ∷ 0x00700513
    ∷ 0x00008067 ∷ 0x00500513 ∷ 0x00008067 ∷ 0x00900513 ∷ 0x00008067 ∷ 0x0001001c ∷ 0x00010024 ∷ []
    )

unfoldable pub switch_entered : Image
switch_entered = image_with switch_entered_bytes (function (codes "f") 0x10000 52 ∷ [])
