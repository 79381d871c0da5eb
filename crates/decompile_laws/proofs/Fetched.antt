-- What the machine fetches from fixed bytes is the instruction of the file.
use Rattle.std.proofs.Common.{◌≡◌, ℕ, ◌+◌, ◌^◌, ◌≤◌, [], ◌∷◌, refl, ◌∙◌, ap, arith}
use Rattle.std.specs.Prelude.{Option, Some, option_and_then}
use Rattle.std.proofs.lemmas.Option.{same_Some}
use Rattle.byteorder.specs.Endian.{little_number}
use Rattle.rv_instr.specs.declared.Instr.{Instr}
use Rattle.rv_instr.specs.Instr.{instr}
use Rattle.memory_spec.specs.Memory.{Memory, byte_at}
use Rattle.rv_machine_spec.specs.Machine.{Machine, past, load_word}
use Rattle.rv_machine_spec.specs.Step.{step, execute}
use Rattle.elf_read_spec.specs.Image.{Image, fixed_byte}
use Rattle.code_reach_spec.specs.Code.{HoldsFixed, instr_at, word_at, word_of_bytes}

word_loaded : (memory : Memory) (address a b c d : ℕ) → address + 4 ≤ 2 ^ 32
    → byte_at memory address ≡ a → byte_at memory (address + 1) ≡ b → byte_at memory (address + 2) ≡ c → byte_at memory (address + 3) ≡ d
    → load_word memory address ≡ little_number 4 (a ∷ b ∷ c ∷ d ∷ [])
unfolding load_word
word_loaded memory address a b c d within is_a is_b is_c is_d =
    let first : past address 1 ≡ address + 1 = omega arith in
    let second : past address 2 ≡ address + 2 = omega arith in
    let third : past address 3 ≡ address + 3 = omega arith in
    let at_first : byte_at memory (past address 1) ≡ b = ap (byte_at memory) first ∙ is_b in
    let at_second : byte_at memory (past address 2) ≡ c = ap (byte_at memory) second ∙ is_c in
    let at_third : byte_at memory (past address 3) ≡ d = ap (byte_at memory) third ∙ is_d in
    rw (is_a, at_first, at_second, at_third) (omega arith)

-- the word of the file
pub word_fetched : (image : Image) (memory : Memory) (address w : ℕ) → HoldsFixed image memory → address + 4 ≤ 2 ^ 32 → word_at image address ≡ Some w
    → load_word memory address ≡ w
word_fetched image memory address w holds within here =
    by_bytes (fixed_byte image address) (fixed_byte image (address + 1)) (fixed_byte image (address + 2)) (fixed_byte image (address + 3)) refl refl refl refl here
  where
    by_bytes : (a b c d : Option ℕ) → fixed_byte image address ≡ a → fixed_byte image (address + 1) ≡ b → fixed_byte image (address + 2) ≡ c → fixed_byte image (address + 3) ≡ d
        → word_of_bytes a b c d ≡ Some w → load_word memory address ≡ w
    by_bytes (Some a) (Some b) (Some c) (Some d) is_a is_b is_c is_d e =
        word_loaded memory address a b c d within (holds address a is_a) (holds (address + 1) b is_b) (holds (address + 2) c is_c) (holds (address + 3) d is_d)
        ∙ same_Some (little_number 4 (a ∷ b ∷ c ∷ d ∷ [])) w e
    by_bytes a b c d is_a is_b is_c is_d e = absurd (cc)

pub fetched : (image : Image) (memory : Memory) (address : ℕ) (i : Instr) → HoldsFixed image memory → address + 4 ≤ 2 ^ 32
    → instr_at image address ≡ Some i → instr (load_word memory address) ≡ Some i
unfolding instr_at
fetched image memory address i holds within here =
    by_bytes (fixed_byte image address) (fixed_byte image (address + 1)) (fixed_byte image (address + 2)) (fixed_byte image (address + 3)) refl refl refl refl here
  where
    by_bytes : (a b c d : Option ℕ) → fixed_byte image address ≡ a → fixed_byte image (address + 1) ≡ b → fixed_byte image (address + 2) ≡ c → fixed_byte image (address + 3) ≡ d
        → option_and_then instr (word_of_bytes a b c d) ≡ Some i → instr (load_word memory address) ≡ Some i
    by_bytes (Some a) (Some b) (Some c) (Some d) is_a is_b is_c is_d e =
        ap instr (word_loaded memory address a b c d within (holds address a is_a) (holds (address + 1) b is_b) (holds (address + 2) c is_c) (holds (address + 3) d is_d)) ∙ e
    by_bytes a b c d is_a is_b is_c is_d e = absurd (cc)

pub steps_by : (image : Image) (m : Machine) (i : Instr) → HoldsFixed image m.memory → m.pc + 4 ≤ 2 ^ 32 → instr_at image m.pc ≡ Some i → step m ≡ execute i m
unfolding step
steps_by image m i holds within here = ap (option_and_then (λ j. execute j m)) (fetched image m.memory m.pc i holds within here)
