-- A step leaves a machine a machine: registers, pc, addresses and bytes stay in their ranges.
use Rattle.std.proofs.Common.{◌≡◌, ℕ, zero, suc, ◌-◌, ◌*◌, ◌/◌, ◌%◌, ◌^◌, ◌<◌, ◌≤◌, ◌==◌, Bool, true, false, cond, length, get_or, set, refl, ◌∙◌, arith, Option, Some, None, IfSome, ℤ, pos, negsuc}
use Rattle.std.proofs.Common.{nat_lt, ltb-true, ltb-false, eqb-true}
use Rattle.std.proofs.Math.ListN.{get_or-eq_default}
use Rattle.std.specs.Prelude.{unwrap_or, option_map, option_and_then}
use Rattle.std.specs.FinMap.{get, get-insert}
use Rattle.std.specs.Cmp.{nat_cmp_total, unsigned_tied}
use Rattle.std.proofs.lemmas.List.{length-set}
use Rattle.std.proofs.lemmas.List.Elements.{All-set, All-get_or}
use Rattle.std.proofs.lemmas.Nat.{and_le_l, or_lt, xor_lt}
use Rattle.std.proofs.Math.Nat.{div-le_self, mod-le, mul-le-mul}
use Rattle.rv_instr.specs.Instr.{instr}
use Rattle.rv_instr.specs.declared.Instr.{Instr}
use Rattle.rv_instr.specs.declared.Instr.TheVariants.{Lui, Auipc, Jal, Jalr, Branch, Load, Store, Immediate, Shift, Arithmetic, Fence, Ecall, Ebreak}
use Rattle.rv_instr.specs.declared.LoadKind.{LoadKind}
use Rattle.rv_instr.specs.declared.LoadKind.TheVariants as load_kind
use Rattle.rv_instr.specs.declared.StoreKind.{StoreKind}
use Rattle.rv_instr.specs.declared.StoreKind.TheVariants as store_kind
use Rattle.rv_instr.specs.declared.ShiftOperation.{ShiftOperation}
use Rattle.rv_instr.specs.declared.ShiftOperation.TheVariants.{Left, RightLogical, RightArithmetic}
use Rattle.rv_instr.specs.declared.ArithmeticOperation.{ArithmeticOperation}
use Rattle.rv_instr.specs.declared.ArithmeticOperation.TheVariants.{Add, Subtract, ShiftLeft, SetLess, SetLessUnsigned, Xor, ShiftRightLogical, ShiftRightArithmetic, Or, And, Multiply, MultiplyHigh, MultiplyHighSignedUnsigned, MultiplyHighUnsigned, Divide, DivideUnsigned, Remainder, RemainderUnsigned}
use Rattle.rv_machine_spec.specs.Arithmetic.{word, arithmetic, of_immediate, of_shift, holds}
use Rattle.memory_spec.specs.Memory.{Memory, byte_at}
use Rattle.rv_machine_spec.specs.Machine.{Machine, IsMachine, read_register, write_register, past, load_half, load_word, store_byte, store_half, store_word}
use Rattle.rv_machine_spec.specs.Step.{next, put, load, store, execute, step, after, goto, link, address}

-- ---- words

word_below : (z : ℤ) → word z < 2 ^ 32
word_below (pos n) = omega arith
word_below (negsuc n) = omega arith

chosen : (b : Bool) (x y limit : ℕ) → x < limit → y < limit → cond b x y < limit
chosen true x y limit first second = first
chosen false x y limit first second = second

quotient_below : (a d : ℕ) → a < 2 ^ 32 → a / d < 2 ^ 32
quotient_below a d below = omega (arith, div-le_self a d)

remainder_below : (a d : ℕ) → a < 2 ^ 32 → a % d < 2 ^ 32
remainder_below a d below = omega (arith, mod-le a d)

high_below : (a b : ℕ) → a < 2 ^ 32 → b < 2 ^ 32 → a * b / 2 ^ 32 < 2 ^ 32
high_below a b first second =
    let left : a ≤ 2 ^ 32 - 1 = omega arith in
    let right : b ≤ 2 ^ 32 - 1 = omega arith in
    let wide : a * b ≤ (2 ^ 32 - 1) * (2 ^ 32 - 1) = mul-le-mul left right in
    omega arith

pub arithmetic-below : (operation : ArithmeticOperation) (a b : ℕ) → a < 2 ^ 32 → b < 2 ^ 32 → arithmetic operation a b < 2 ^ 32
unfolding arithmetic
arithmetic-below Add a b first second = omega arith
arithmetic-below Subtract a b first second = omega arith
arithmetic-below ShiftLeft a b first second = omega arith
arithmetic-below SetLess a b first second = chosen _ 1 0 (2 ^ 32) (omega arith) (omega arith)
arithmetic-below SetLessUnsigned a b first second = chosen _ 1 0 (2 ^ 32) (omega arith) (omega arith)
arithmetic-below Xor a b first second = xor_lt 32 a b first second
arithmetic-below ShiftRightLogical a b first second = quotient_below a (2 ^ (b % 32)) first
arithmetic-below ShiftRightArithmetic a b first second = word_below _
arithmetic-below Or a b first second = or_lt 32 a b first second
arithmetic-below And a b first second = omega (arith, and_le_l a b)
arithmetic-below Multiply a b first second = omega arith
arithmetic-below MultiplyHigh a b first second = word_below _
arithmetic-below MultiplyHighSignedUnsigned a b first second = word_below _
arithmetic-below MultiplyHighUnsigned a b first second = high_below a b first second
arithmetic-below Divide a b first second = chosen (b == 0) _ _ (2 ^ 32) (omega arith) (word_below _)
arithmetic-below DivideUnsigned a b first second = chosen (b == 0) _ _ (2 ^ 32) (omega arith) (quotient_below a b first)
arithmetic-below Remainder a b first second = chosen (b == 0) _ _ (2 ^ 32) first (word_below _)
arithmetic-below RemainderUnsigned a b first second = chosen (b == 0) _ _ (2 ^ 32) first (remainder_below a b first)

shift_below : (operation : ShiftOperation) (a n : ℕ) → a < 2 ^ 32 → arithmetic (of_shift operation) a n < 2 ^ 32
unfolding arithmetic
shift_below Left a n first = omega arith
shift_below RightLogical a n first = quotient_below a (2 ^ (n % 32)) first
shift_below RightArithmetic a n first = word_below _

-- ---- registers

pub read_below : (m : Machine) (r : ℕ) → IsMachine m → read_register m r < 2 ^ 32
unfolding read_register
read_below m r machine = chosen (r == 0) 0 (get_or m.registers r 0) (2 ^ 32) (omega arith) (inside (nat_lt r (length m.registers)) refl)
  where
    inside : (b : Bool) → nat_lt r (length m.registers) ≡ b → get_or m.registers r 0 < 2 ^ 32
    inside true e = All-get_or (λ x. x < 2 ^ 32) m.registers r 0 (omega (arith, ltb-true _ _ e)) machine.words
    inside false e = rw (get_or-eq_default m.registers 0 (ltb-false _ _ e)) (omega arith)

pub write_keeps : (m : Machine) (r value : ℕ) → IsMachine m → value < 2 ^ 32 → IsMachine (write_register m r value)
unfolding write_register
write_keeps m r value machine below = either_way (r == 0)
  where
    either_way : (b : Bool) → IsMachine (cond b m (record m { registers = set m.registers r value }))
    either_way true = machine
    either_way false = record {
      count = length-set m.registers r value ∙ machine.count;
      words = All-set (λ x. x < 2 ^ 32) m.registers r value below machine.words;
      pc_word = machine.pc_word;
      cells = machine.cells;
    }

pub moved_keeps : (m : Machine) (target : ℕ) → IsMachine m → target < 2 ^ 32 → IsMachine (record m { pc = target })
moved_keeps m target machine below = record { count = machine.count; words = machine.words; pc_word = below; cells = machine.cells }

pub put_keeps : (m : Machine) (r value : ℕ) → IsMachine m → value < 2 ^ 32 → IsMachine (put r value m)
put_keeps m r value machine below = moved_keeps (write_register m r value) _ (write_keeps m r value machine below) (omega arith)

-- ---- memory

Cells : Memory → Type 0
Cells memory = (a b : ℕ) → get memory a ≡ Some b → (a < 2 ^ 32) × (b < 256)

pub byte_below : (m : Machine) (a : ℕ) → IsMachine m → byte_at m.memory a < 256
unfolding byte_at
byte_below m a machine = of_cell (get m.memory a) refl
  where
    of_cell : (o : Option ℕ) → get m.memory a ≡ o → unwrap_or o 0 < 256
    of_cell None e = omega arith
    of_cell (Some b) e = (machine.cells a b e).1

where_aligned : (b : Bool) (x : ℕ) → x < 2 ^ 32 → IfSome (cond b (Some x) None) (λ value. value < 2 ^ 32)
where_aligned true x below = below
where_aligned false x below = tt

where_cells : (b : Bool) (memory : Memory) → Cells memory → IfSome (cond b (Some memory) None) Cells
where_cells true memory cells = cells
where_cells false memory cells = tt

half_at : (m : Machine) (a : ℕ) → IsMachine m → load_half m.memory a < 2 ^ 32
unfolding load_half
half_at m a machine = omega (arith, byte_below m a machine, byte_below m (past a 1) machine)

word_at : (m : Machine) (a : ℕ) → IsMachine m → load_word m.memory a < 2 ^ 32
unfolding load_word
word_at m a machine = omega (arith, byte_below m a machine, byte_below m (past a 1) machine, byte_below m (past a 2) machine, byte_below m (past a 3) machine)

-- what a load puts into a register
load_below : (m : Machine) (kind : LoadKind) (a : ℕ) → IsMachine m → IfSome (load kind m.memory a) (λ value. value < 2 ^ 32)
unfolding load
load_below m load_kind.Byte a machine = word_below _
load_below m load_kind.Half a machine = where_aligned (a % 2 == 0) _ (word_below _)
load_below m load_kind.Word a machine = where_aligned (a % 4 == 0) _ (word_at m a machine)
load_below m load_kind.ByteUnsigned a machine = omega (arith, byte_below m a machine)
load_below m load_kind.HalfUnsigned a machine = where_aligned (a % 2 == 0) _ (half_at m a machine)

store_byte_keeps : (memory : Memory) (a value : ℕ) → a < 2 ^ 32 → Cells memory → Cells (store_byte memory a value)
unfolding store_byte Cells
store_byte_keeps memory a value below cells q b = rw (get-insert {X = ℕ} nat_cmp_total, unsigned_tied q a) (either_cell (q == a) refl)
  where
    either_cell : (t : Bool) → (q == a) ≡ t → cond t (Some (value % 256)) (get memory q) ≡ Some b → (q < 2 ^ 32) × (b < 256)
    either_cell true e here =
        let same : value % 256 ≡ b = cc in
        (omega (arith, eqb-true q a e), omega arith)
    either_cell false e here = cells q b here

store_keeps : (memory : Memory) (kind : StoreKind) (a value : ℕ) → a < 2 ^ 32 → Cells memory → IfSome (store kind memory a value) Cells
unfolding store store_half store_word
store_keeps memory store_kind.Byte a value below cells = store_byte_keeps memory a value below cells
store_keeps memory store_kind.Half a value below cells = where_cells (a % 2 == 0) _ (store_byte_keeps _ _ _ (omega arith) (store_byte_keeps memory a value below cells))
store_keeps memory store_kind.Word a value below cells =
    where_cells (a % 4 == 0) _ (store_byte_keeps _ _ _ (omega arith) (store_byte_keeps _ _ _ (omega arith) (store_byte_keeps _ _ _ (omega arith) (store_byte_keeps memory a value below cells))))

-- ---- an instruction, a step, a run

where_machine : (b : Bool) (m : Machine) → IsMachine m → IfSome (cond b (Some m) None) IsMachine
where_machine true m machine = machine
where_machine false m machine = tt

by_pc : (b : Bool) (m : Machine) (o : Option Machine) → IsMachine m → IfSome o IsMachine → IfSome (cond b (Some m) o) IsMachine
by_pc true m o machine h = machine
by_pc false m o machine h = h

by_step : (o : Option Machine) (f : Machine → Option Machine) → ((n : Machine) → IsMachine n → IfSome (f n) IsMachine) → IfSome o IsMachine → IfSome (option_and_then f o) IsMachine
by_step None f kept h = tt
by_step (Some n) f kept h = kept n h

link_keeps : (m : Machine) (r target : ℕ) → IsMachine m → target < 2 ^ 32 → IfSome (link r target m) IsMachine
link_keeps m r target machine below = where_machine (target % 4 == 0) _ (moved_keeps (write_register m r _) target (write_keeps m r _ machine (omega arith)) below)

branch_keeps : (taken : Bool) (m : Machine) (target : ℕ) → IsMachine m → target < 2 ^ 32 → IfSome (cond taken (goto target m) (Some (next m))) IsMachine
branch_keeps true m target machine below = where_machine (target % 4 == 0) _ (moved_keeps m target machine below)
branch_keeps false m target machine below = moved_keeps m _ machine (omega arith)

loaded : (m : Machine) (r : ℕ) (o : Option ℕ) → IsMachine m → IfSome o (λ value. value < 2 ^ 32) → IfSome (option_map (λ value. put r value m) o) IsMachine
loaded m r None machine h = tt
loaded m r (Some value) machine h = put_keeps m r value machine h

stored : (m : Machine) (o : Option Memory) → IsMachine m → IfSome o Cells → IfSome (option_map (λ memory. next (record m { memory = memory })) o) IsMachine
unfolding Cells
stored m None machine h = tt
stored m (Some memory) machine h = record { count = machine.count; words = machine.words; pc_word = omega arith; cells = h }

pub execute_keeps : (i : Instr) (m : Machine) → IsMachine m → IfSome (execute i m) IsMachine
unfolding execute Cells
execute_keeps (Lui rd imm) m machine = put_keeps m rd _ machine (omega arith)
execute_keeps (Auipc rd imm) m machine = put_keeps m rd _ machine (omega arith)
execute_keeps (Jal rd offset) m machine = link_keeps m rd _ machine (omega arith)
execute_keeps (Jalr rd base offset) m machine = link_keeps m rd _ machine (omega arith)
execute_keeps (Branch test left right offset) m machine = branch_keeps (holds test (read_register m left) (read_register m right)) m _ machine (omega arith)
execute_keeps (Load kind rd base offset) m machine = loaded m rd (load kind m.memory (address m base offset)) machine (load_below m kind _ machine)
execute_keeps (Store kind base source offset) m machine = stored m (store kind m.memory (address m base offset) (read_register m source)) machine (store_keeps m.memory kind _ _ (omega arith) machine.cells)
execute_keeps (Immediate operation rd source imm) m machine = put_keeps m rd _ machine (arithmetic-below (of_immediate operation) _ _ (read_below m source machine) (word_below imm))
execute_keeps (Shift operation rd source amount) m machine = put_keeps m rd _ machine (shift_below operation _ amount (read_below m source machine))
execute_keeps (Arithmetic operation rd left right) m machine = put_keeps m rd _ machine (arithmetic-below operation _ _ (read_below m left machine) (read_below m right machine))
execute_keeps (Fence rd source bits) m machine = moved_keeps m _ machine (omega arith)
execute_keeps Ecall m machine = tt
execute_keeps Ebreak m machine = tt

pub step_keeps : (m : Machine) → IsMachine m → IfSome (step m) IsMachine
unfolding step
step_keeps m machine = of_instruction (instr (load_word m.memory m.pc))
  where
    of_instruction : (o : Option Instr) → IfSome (option_and_then (λ i. execute i m) o) IsMachine
    of_instruction None = tt
    of_instruction (Some i) = execute_keeps i m machine

pub after_keeps : (m : Machine) (stop k : ℕ) → IsMachine m → IfSome (after m stop k) IsMachine
unfolding after
after_keeps m stop zero machine = machine
after_keeps m stop (suc k) machine = by_pc (m.pc == stop) m (option_and_then (λ n. after n stop k) (step m)) machine (by_step (step m) (λ n. after n stop k) (λ n kept. after_keeps n stop k kept) (step_keeps m machine))
