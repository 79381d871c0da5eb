-- The functions of a file, as its words are: which instructions a function reaches, which functions it calls,
-- and how deep its stack goes. (RISC-V unprivileged specification, unconditional jumps; RISC-V psABI, ILP32.)
use Rattle.std.specs.Prelude.{◌≡◌, ◌↔◌, ◌⊎◌, ◌+◌, ◌-◌, ◌*◌, ◌/◌, ◌%◌, ◌^◌, ◌<◌, ◌≤◌, ◌==◌, ◌&&◌, not, nat_le, ℕ, zero, suc, ℤ, pos, negsuc, Bool, false, if◌then◌else◌, List, [], ◌∷◌, flat_map, Contains, sum_by, Option, Some, None, IsSome, option_and_then}
use Rattle.std.specs.Option.{option_or}
use Rattle.std.specs.List.Sorted.{IsStrictlyIncreasing}
use Rattle.byteorder.specs.Endian.{little_number}
use Rattle.rv_instr.specs.declared.Instr.{Instr}
use Rattle.rv_instr.specs.declared.Instr.TheVariants.{Lui, Auipc, Jal, Jalr, Branch, Load, Store, Immediate, Shift, Arithmetic, Fence, Ecall, Ebreak}
use Rattle.rv_instr.specs.declared.ImmediateOperation.TheVariants.{Add}
use Rattle.rv_instr.specs.Instr.{instr}
use Rattle.rv_machine_spec.specs.Arithmetic.{word}
use Rattle.memory_spec.specs.Memory.{Memory, byte_at}
use Rattle.memory_spec.specs.Zones.{zone_from, InZone}
use Rattle.rv_machine_spec.specs.Machine.{past}
use Rattle.elf_read_spec.specs.Image.{Image, fixed_byte, size_at}
use Rattle.code_reach_spec.specs.RunUp.{Bound, is_straight, looked_up}
use Rattle.code_reach_spec.specs.declared.CodeKind.{CodeKind}
use Rattle.code_reach_spec.specs.declared.CodeKind.TheVariants.{Empty, Writable, Misplaced}

-- memory holds every fixed byte
abbrev pub HoldsFixed : Image → Memory → Type 0
HoldsFixed image memory = (address byte : ℕ) → fixed_byte image address ≡ Some byte → byte_at memory address ≡ byte

abbrev pub word_of_bytes : Option ℕ → Option ℕ → Option ℕ → Option ℕ → Option ℕ
word_of_bytes (Some a) (Some b) (Some c) (Some d) = Some (little_number 4 (a ∷ b ∷ c ∷ d ∷ []))
word_of_bytes a b c d = None

-- the word at an address, if its four bytes are fixed
abbrev pub word_at : Image → ℕ → Option ℕ
word_at image address = word_of_bytes (fixed_byte image address) (fixed_byte image (address + 1)) (fixed_byte image (address + 2)) (fixed_byte image (address + 3))

-- the instruction at an address
unfoldable pub instr_at : Image → ℕ → Option Instr
instr_at image address = option_and_then instr (word_at image address)

-- an address of the range of a function: from its entry on, as many bytes as its size
abbrev pub InRange : (entry size address : ℕ) → Type 0
InRange entry size address = InZone (zone_from entry size) address

-- every byte of the range is fixed, and the range doesn't wrap
pub record IsFixedRange (image : Image) (entry size : ℕ) : Type 0 where
  pub in_space : entry + size ≤ 2 ^ 32
  pub fixed : (address : ℕ) → InRange entry size address → IsSome (fixed_byte image address)

-- what is wrong with the range of a function: the first of these that holds
pub data IsRangeFault (image : Image) (entry size : ℕ) : CodeKind → Type 0 where
  empty : size ≡ 0 → IsRangeFault image entry size Empty
  writable : 0 < size → (IsFixedRange image entry size → ⊥) → IsRangeFault image entry size Writable
  misplaced : 0 < size → IsFixedRange image entry size → (entry % 4 ≡ 0 → size % 4 ≡ 0 → ⊥) → IsRangeFault image entry size Misplaced

-- the function has code: it isn't empty, doesn't wrap, no code may write it, and its words are aligned
pub record HasCode (image : Image) (entry size : ℕ) : Type 0 where
  pub not_empty : 0 < size
  pub range_fixed : IsFixedRange image entry size
  pub entry_aligned : entry % 4 ≡ 0
  pub size_aligned : size % 4 ≡ 0

-- ---- jumps by a table

-- so many instructions from an address on, if each is straight
abbrev pub straight_on : Option Instr → Option (List Instr) → Option (List Instr)
straight_on (Some i) (Some rest) = if is_straight i then Some (i ∷ rest) else None
straight_on i rest = None

unfoldable pub straight : Image → (address count : ℕ) → Option (List Instr)
straight image address zero = Some []
straight image address (suc count) = straight_on (instr_at image address) (straight image (address + 4) count)

abbrev pub words_on : Option ℕ → Option (List ℕ) → Option (List ℕ)
words_on (Some w) (Some rest) = Some (w ∷ rest)
words_on w rest = None

-- so many words from an address on, if their bytes are fixed
unfoldable pub words_from : Image → (address count : ℕ) → Option (List ℕ)
words_from image address zero = Some []
words_from image address (suc count) = words_on (word_at image address) (words_from image (address + 4) count)

-- a jump by a table: how many words before it are its run-up; the branch that bounds the index; and the words of the
-- table, lowest first
pub record TableJump : Type 0 where
  pub before : ℕ
  pub branch : ℕ
  pub targets : List ℕ

-- the greatest number of targets
abbrev pub most_targets : ℕ
most_targets = 1024

abbrev pub jump_with : (before : ℕ) → Bound → Option (List ℕ) → Option TableJump
jump_with before bound None = None
jump_with before bound (Some targets) = Some (record { before = before; branch = bound.branch; targets = targets })

-- the table begins at a multiple of 4, has 1 to 1024 words, ends at 2^32 at the latest, and its words are fixed
abbrev pub jump_by : Image → (before : ℕ) → Option (ℕ × Bound) → Option TableJump
jump_by image before None = None
jump_by image before (Some (first, bound)) =
    if (first % 4 == 0) && (nat_le 1 bound.count && (nat_le bound.count most_targets && nat_le (first + 4 * bound.count) (2 ^ 32)))
    then jump_with before bound (words_from image first bound.count)
    else None

-- the jump by the register r after straight code, of which the first word is at `start`, if that is a run-up to it
abbrev pub jump_after : Image → (r start before : ℕ) → Option (List Instr) → Option TableJump
jump_after image r start before None = None
jump_after image r start before (Some instructions) = jump_by image before (looked_up r start instructions)

-- by so many words before it
abbrev pub jump_from : Image → (r address before : ℕ) → Option TableJump
jump_from image r address before = jump_after image r (address - 4 * before) before (straight image (address - 4 * before) before)

-- the jump by the register r at an address, by the shortest run-up of at most so many words
unfoldable pub table_jump : Image → (r address most : ℕ) → Option TableJump
table_jump image r address zero = None
table_jump image r address (suc most) = option_or (table_jump image r address most) (jump_from image r address (suc most))

abbrev pub is_zero : ℤ → Bool
is_zero (pos n) = n == 0
is_zero (negsuc n) = false

-- JALR to x0 of a register, as it is, that is no return
abbrev pub table_at : Image → (entry address : ℕ) → Instr → Option TableJump
table_at image entry address (Jalr rd base offset) =
    if (rd == 0) && not (base == 1) && is_zero offset then table_jump image base address ((address - entry) / 4) else None
table_at image entry address other = None

-- where control goes after an instruction
pub data Flow : Type 0 where
  -- to the next instruction
  Falls : Flow
  -- to the next instruction or to the target
  Branches : (target : ℕ) → Flow
  -- to the target, and does not return
  Jumps : (target : ℕ) → Flow
  -- to the target, which returns to the next instruction
  Calls : (target : ℕ) → Flow
  -- to the target, with the return address in a register other than x1
  Links : (target : ℕ) → Flow
  -- to the return address
  Returns : Flow
  -- to one of the words of a table
  Switches : (jump : TableJump) → Flow
  -- to no address that the file determines
  Stops : Flow

abbrev pub target_of : ℕ → ℤ → ℕ
target_of address offset = past address (word offset)

-- AUIPC to a register other than x0, and directly after it a JALR to x0 or x1 with that register as its base:
-- a jump to a known address, whose bit 0 is cleared. The address is that of the JALR
abbrev pub pair_target : Option Instr → ℕ → (rd base : ℕ) → (offset : ℤ) → Option ℕ
pair_target (Some (Auipc register imm)) address rd base offset =
    if not (register == 0) && (register == base) && nat_le rd 1
    then Some (target_of (past (address - 4) (imm * 2 ^ 12)) offset / 2 * 2)
    else None
pair_target before address rd base offset = None

abbrev pub flow_of_pair : Option ℕ → (rd : ℕ) → Flow
flow_of_pair None rd = Stops
flow_of_pair (Some target) rd = if rd == 0 then Jumps target else Calls target

-- the flow of an instruction at an address, given the one before it in the same function
abbrev pub flow_of : Option Instr → ℕ → Instr → Flow
flow_of before address (Lui rd imm) = Falls
flow_of before address (Auipc rd imm) = Falls
flow_of before address (Jal rd offset) =
    if rd == 0 then Jumps (target_of address offset)
    else if rd == 1 then Calls (target_of address offset)
    else Links (target_of address offset)
flow_of before address (Jalr rd base offset) =
    if (rd == 0) && (base == 1) && is_zero offset then Returns
    else flow_of_pair (pair_target before address rd base offset) rd
flow_of before address (Branch test left right offset) = Branches (target_of address offset)
flow_of before address (Load kind rd base offset) = Falls
flow_of before address (Store kind base source offset) = Falls
flow_of before address (Immediate operation rd source imm) = Falls
flow_of before address (Shift operation rd source amount) = Falls
flow_of before address (Arithmetic operation rd left right) = Falls
flow_of before address (Fence rd source bits) = Falls
flow_of before address Ecall = Stops
flow_of before address Ebreak = Stops

-- a jump by a table is one to no address that is known otherwise
abbrev pub with_table : Option TableJump → Flow → Flow
with_table None flow = flow
with_table (Some jump) Falls = Falls
with_table (Some jump) (Branches target) = Branches target
with_table (Some jump) (Jumps target) = Jumps target
with_table (Some jump) (Calls target) = Calls target
with_table (Some jump) (Links target) = Links target
with_table (Some jump) Returns = Returns
with_table (Some jump) (Switches other) = Switches other
with_table (Some jump) Stops = Switches jump

-- the instruction before the one at an address, in the function at an entry: before the entry there is none
abbrev pub instr_before : Image → (entry address : ℕ) → Option Instr
instr_before image entry address = if nat_le (entry + 4) address then instr_at image (address - 4) else None

-- the flow of the instruction at an address of the function at an entry
unfoldable pub flow_at : Image → (entry address : ℕ) → Option Flow
flow_at image entry address =
    option_and_then (λ i. Some (with_table (table_at image entry address i) (flow_of (instr_before image entry address) address i))) (instr_at image address)

-- a target at no multiple of 4 traps
abbrev pub aligned : ℕ → List ℕ
aligned target = if target % 4 == 0 then target ∷ [] else []

-- where control may be next inside the function: a call comes back to the next instruction
abbrev pub nexts_of : ℕ → Flow → List ℕ
nexts_of address Falls = (address + 4) ∷ []
nexts_of address (Branches target) = (address + 4) ∷ aligned target
nexts_of address (Jumps target) = aligned target
nexts_of address (Calls target) = (address + 4) ∷ []
nexts_of address (Links target) = aligned target
nexts_of address Returns = []
nexts_of address (Switches jump) = flat_map aligned jump.targets
nexts_of address Stops = []

-- the addresses that are reached from the entry inside the range
pub data IsReachable (image : Image) (entry size : ℕ) : ℕ → Type 0 where
  here : HasCode image entry size → IsReachable image entry size entry
  next : (address target : ℕ) (flow : Flow) → IsReachable image entry size address → flow_at image entry address ≡ Some flow
      → Contains (nexts_of address flow) target → InRange entry size target → IsReachable image entry size target

-- the function at an entry calls the function at another, or ends by a jump to it: a tail call, whose target
-- lies outside the range
pub data CallsOn (image : Image) (entry size : ℕ) : ℕ → Type 0 where
  call : (address target : ℕ) → IsReachable image entry size address → flow_at image entry address ≡ Some (Calls target)
      → IsSome (size_at image target) → CallsOn image entry size target
  tail : (address target : ℕ) → IsReachable image entry size address → flow_at image entry address ≡ Some (Jumps target)
      → (InRange entry size target → ⊥) → IsSome (size_at image target) → CallsOn image entry size target

-- the functions that calls and tail calls reach from the one at an entry, itself among them
pub data Reaches (image : Image) (entry : ℕ) : ℕ → Type 0 where
  itself : Reaches image entry entry
  further : (middle size target : ℕ) → Reaches image entry middle → size_at image middle ≡ Some size → CallsOn image middle size target
      → Reaches image entry target

-- a cycle of calls is reached: a function that is reached calls back to one that reaches it
pub record IsCyclic (image : Image) (entry : ℕ) : Type 0 where
  pub other : ℕ
  pub reached : Reaches image entry other
  pub last : ℕ
  pub onward : Reaches image other last
  pub size : ℕ
  pub size_is : size_at image last ≡ Some size
  pub back : CallsOn image last size other

-- by how much `addi x2, x2, imm` lowers the stack pointer
abbrev pub opening_of : Option Instr → ℕ
opening_of (Some (Immediate Add rd source (negsuc n))) = if (rd == 2) && (source == 2) then suc n else 0
opening_of other = 0

-- these are the reachable addresses, each once
pub record AreReachable (image : Image) (entry size : ℕ) (places : List ℕ) : Type 0 where
  pub rising : IsStrictlyIncreasing places
  pub exactly : (address : ℕ) → Contains places address ↔ IsReachable image entry size address

-- the greatest of f over what P holds of, and 0 where it holds of nothing
pub record IsGreatest (P : ℕ → Type 0) (f : ℕ → ℕ) (greatest : ℕ) : Type 0 where
  pub above : (x : ℕ) → P x → f x ≤ greatest
  pub reached : (greatest ≡ 0) ⊎ ((x : ℕ) × P x × (f x ≡ greatest))

-- how many bytes of stack the function at an entry takes: its own openings, and the deepest of what it calls.
-- Where a cycle of calls is reached there is no such number
pub data IsStack (image : Image) : (entry stack : ℕ) → Type 0 where
  deep : (entry size deepest : ℕ) (places : List ℕ) (below : ℕ → ℕ) → size_at image entry ≡ Some size
      → AreReachable image entry size places
      → ((target : ℕ) → CallsOn image entry size target → IsStack image target (below target))
      → IsGreatest (CallsOn image entry size) below deepest
      → IsStack image entry (sum_by (λ address. opening_of (instr_at image address)) places + deepest)
