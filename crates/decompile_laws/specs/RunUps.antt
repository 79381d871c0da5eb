-- What a machine has inside a run-up: at each of its words but the first, the registers are as the words before leave
-- them, whatever they were at the start.
use Rattle.std.specs.Prelude.{◌≡◌, ℕ, ◌+◌, ◌-◌, ◌*◌, ◌%◌, ◌^◌, ◌<◌, ◌≤◌, bit_and, ⊤, pos, List, Contains, Some}
use Rattle.rv_instr.specs.declared.Instr.{Instr}
use Rattle.rv_instr.specs.declared.Instr.TheVariants.{Jalr}
use Rattle.rv_machine_spec.specs.Machine.{Machine, read_register}
use Rattle.elf_read_spec.specs.Image.{Image}
use Rattle.code_reach_spec.specs.RunUp.{Symbolic, Constant, Initial, Unknown, Sum, Difference, Shifted, Masked, Followed, Bound, before_all, followed}
use Rattle.code_reach_spec.specs.Code.{Switches, TableJump, word_at, instr_at, flow_at, straight, IsReachable}
use Rattle.term_core_spec.specs.declared.Width.TheVariants.{W32}
use Rattle.term_core_spec.specs.Value.{Number, Assignment}
use Rattle.decompile_spec.specs.State.{table_index}

-- the numbers that a run-up leaves open: what the registers have at its start, and what each instruction gives that is not
-- followed
pub record Free : Type 0 where
  pub initial : ℕ → ℕ
  pub unknown : ℕ → ℕ

-- modulo 2^32
unfoldable pub number_of : Free → Symbolic → ℕ
number_of free (Constant n) = n % 2 ^ 32
number_of free (Initial r) = free.initial r % 2 ^ 32
number_of free (Unknown address) = free.unknown address % 2 ^ 32
number_of free (Sum a b) = (number_of free a + number_of free b) % 2 ^ 32
number_of free (Difference a b) = (number_of free a + (2 ^ 32 - number_of free b)) % 2 ^ 32
number_of free (Shifted a amount) = number_of free a * 2 ^ amount % 2 ^ 32
number_of free (Masked a mask) = bit_and (number_of free a) mask % 2 ^ 32

-- what no instruction from this address on gives
unfoldable pub IsBefore : (address : ℕ) → Symbolic → Type 0
IsBefore address (Constant n) = ⊤
IsBefore address (Initial r) = ⊤
IsBefore address (Unknown place) = place < address
IsBefore address (Sum a b) = IsBefore address a × IsBefore address b
IsBefore address (Difference a b) = IsBefore address a × IsBefore address b
IsBefore address (Shifted a amount) = IsBefore address a
IsBefore address (Masked a mask) = IsBefore address a

-- the machine has what was followed up to its pc: each register its number; r the word at its source, where that is fixed;
-- and each index that is bounded a number below its bound
pub record Has (image : Image) (m : Machine) (free : Free) (r : ℕ) (f : Followed) : Type 0 where
  pub registers : (s : ℕ) → read_register m s ≡ number_of free (f.registers s)
  pub loaded : (source : Symbolic) (w : ℕ) → f.source ≡ Some source → word_at image (number_of free source) ≡ Some w → read_register m r ≡ w
  pub below : (bound : Bound) → Contains f.bounds bound → number_of free bound.index < bound.count
  pub register_before : (s : ℕ) → IsBefore m.pc (f.registers s)
  pub source_before : (source : Symbolic) → f.source ≡ Some source → IsBefore m.pc source
  pub bound_before : (bound : Bound) → Contains f.bounds bound → IsBefore m.pc bound.index

-- the word of the state has the index that this branch bounds
abbrev pub HasKept : Assignment → Free → (branch : ℕ) → Followed → Type 0
HasKept values free branch f = (bound : Bound) → Contains f.bounds bound → bound.branch ≡ branch → values table_index ≡ Number W32 (number_of free bound.index)

-- a jump by a table that is reached, by the register r
pub record IsTableJump (image : Image) (entry size place r : ℕ) (jump : TableJump) : Type 0 where
  pub reached : IsReachable image entry size place
  pub is_jalr : instr_at image place ≡ Some (Jalr 0 r (pos 0))
  pub flow_is : flow_at image entry place ≡ Some (Switches jump)

-- the machine is past so many words of the run-up to a jump
pub record IsPast (image : Image) (m : Machine) (values : Assignment) (place r : ℕ) (jump : TableJump) (passed : ℕ) : Type 0 where
  pub words : List Instr
  pub words_are : straight image (place - 4 * jump.before) passed ≡ Some words
  pub free : Free
  pub has : Has image m free r (followed r (place - 4 * jump.before) words before_all)
  pub kept : HasKept values free jump.branch (followed r (place - 4 * jump.before) words before_all)

-- at every word of a run-up but its first, and at the jump
abbrev pub IsInRunUps : Image → (entry size : ℕ) → Machine → Assignment → Type 0
IsInRunUps image entry size m values = (place r : ℕ) (jump : TableJump) (passed : ℕ) → IsTableJump image entry size place r jump
    → 0 < passed → passed ≤ jump.before → m.pc + 4 * jump.before ≡ place + 4 * passed → IsPast image m values place r jump passed
