-- One instruction of a run-up: the machine after it has what is followed past it.
use Rattle.std.proofs.Common.{◌≡◌, ◌≢◌, ◌∙◌, ◌⊎◌, inl, inr, ℕ, zero, suc, ◌+◌, ◌-◌, ◌*◌, ◌%◌, ◌^◌, ◌<◌, ◌≤◌, ◌==◌, ◌&&◌, not, if◌then◌else◌, Bool, true, false, refl, sym, ap, ap₂, subst, arith, length, get_or, List, [], ◌∷◌, Option, Some, None, ℤ, pos, negsuc, eqb-true}
use Rattle.std.specs.Prelude.{⊤, Contains, option_map, bit_and, nat_lt}
use Rattle.std.proofs.lemmas.Bool.{eqb-false, ltb-true, ltb-false}
use Rattle.std.proofs.lemmas.Option.{same_Some}
use Rattle.rv_instr.specs.declared.Instr.{Instr}
use Rattle.rv_instr.specs.declared.Instr.TheVariants.{Lui, Auipc, Jal, Jalr, Branch, Load, Store, Immediate, Shift, Arithmetic, Fence, Ecall, Ebreak}
use Rattle.rv_instr.specs.declared.BranchTest.{BranchTest}
use Rattle.rv_instr.specs.declared.BranchTest.TheVariants as branch
use Rattle.rv_instr.specs.declared.StoreKind.{StoreKind}
use Rattle.rv_instr.specs.declared.LoadKind.{LoadKind}
use Rattle.rv_instr.specs.declared.LoadKind.TheVariants as load_kind
use Rattle.rv_instr.specs.declared.ImmediateOperation.{ImmediateOperation}
use Rattle.rv_instr.specs.declared.ImmediateOperation.TheVariants as immediate
use Rattle.rv_instr.specs.declared.ShiftOperation.{ShiftOperation}
use Rattle.rv_instr.specs.declared.ShiftOperation.TheVariants as shift
use Rattle.rv_instr.specs.declared.ArithmeticOperation.{ArithmeticOperation}
use Rattle.rv_instr.specs.declared.ArithmeticOperation.TheVariants as arithmetic_op
use Rattle.rv_machine_spec.specs.Arithmetic.{word, arithmetic, of_immediate, of_shift, holds}
use Rattle.memory_spec.specs.Memory.{Memory}
use Rattle.rv_machine_spec.specs.Machine.{Machine, IsMachine, read_register, write_register, past, load_word}
use Rattle.rv_machine_spec.specs.Step.{execute, put, next, goto, address, load, store}
use Rattle.rv_machine_spec.proofs.Registers.{read_zero, read-write_same, read-write_other}
use Rattle.rv_machine_spec.proofs.Kept.{arithmetic-below, read_below}
use Rattle.elf_read_spec.specs.Image.{Image}
use Rattle.code_reach_spec.specs.RunUp.{Symbolic, Constant, Initial, Unknown, Sum, Difference, Shifted, Masked, sum, difference, shifted, masked, Registers, at_most, less_than, bound_at, with_result, is_into, result_of, source_of, bound_of, source_after, with_bound, Bound, Followed, follow}
use Rattle.code_reach_spec.specs.Code.{word_at, HoldsFixed}
use Rattle.code_reach_spec.specs.RunUp.{is_straight}
use Rattle.decompile_laws.specs.RunUps.{Free, number_of, IsBefore, Has}
use Rattle.decompile_laws.proofs.RunUpTerms.{number-small, number-sum, number-difference, number-shifted, number-masked}
use Rattle.decompile_laws.proofs.RunUpFree.{with_value, number-before, number-here, before-later, before-constant, before-sum, before-difference, before-shifted, before-masked}
use Rattle.decompile_laws.proofs.Fields.{AreFields}
use Rattle.decompile_laws.proofs.Fetched.{word_fetched}

word-below : (z : ℤ) → word z < 2 ^ 32
word-below (pos n) = omega arith
word-below (negsuc n) = omega arith

constant-number : (free : Free) (n : ℕ) → number_of free (Constant n) ≡ n % 2 ^ 32
unfolding number_of
constant-number free n = refl

-- where `put` puts a value
put_same : (m : Machine) (r value : ℕ) → r ≢ 0 → r < length m.registers → read_register (put r value m) r ≡ value
unfolding read_register
put_same m r value nonzero below = read-write_same m r value nonzero below

put_other : (m : Machine) (r s value : ℕ) → s ≢ r → read_register (put r value m) s ≡ read_register m s
unfolding read_register
put_other m r s value other = read-write_other m r s value other

-- the registers after an instruction, whose result has this number
module _ (m : Machine) (x : Registers) (free after : Free) (count : length m.registers ≡ 32)
    (were : (s : ℕ) → read_register m s ≡ number_of free (x s)) (same : (s : ℕ) → number_of after (x s) ≡ number_of free (x s)) where
  pub put_registers : (rd value : ℕ) (result : Symbolic) → rd < 32 → (rd ≢ 0 → number_of after result ≡ value) → (s : ℕ)
      → read_register (put rd value m) s ≡ number_of after (with_result (Some (rd, result)) x s)
  put_registers rd value result below is s = by (s == rd) (s == 0) refl refl
    where
      by : (e z : Bool) → (s == rd) ≡ e → (s == 0) ≡ z → read_register (put rd value m) s ≡ number_of after (if e && not z then result else x s)
      by true true here none =
          let zero_is : s ≡ 0 = eqb-true s 0 none in
          subst (λ k. read_register (put rd value m) k ≡ number_of after (x k)) (sym zero_is)
          (read_zero (put rd value m) ∙ (sym (read_zero m) ∙ (were 0 ∙ sym (same 0))))
      by true false here some =
          let there : s ≡ rd = eqb-true s rd here in
          let nonzero : rd ≢ 0 = λ e. let zero_is : s ≡ 0 = there ∙ e in eqb-false s 0 some zero_is in
          ap (λ k. read_register (put rd value m) k) there ∙ (put_same m rd value nonzero (omega (arith, count, below)) ∙ sym (is nonzero))
      by false z off known = put_other m rd s value (eqb-false s rd off) ∙ (were s ∙ sym (same s))

-- ---- a step

-- a branch isn't taken
abbrev pub IsNotTaken : Machine → Instr → Type 0
IsNotTaken m (Branch test left right offset) = holds test (read_register m left) (read_register m right) ≡ false
IsNotTaken m i = ⊤

pub record Stepped (image : Image) (m now : Machine) (free : Free) (r : ℕ) (i : Instr) (f : Followed) : Type 0 where
  pub after : Free
  pub has : Has image now after r (follow r m.pc i f)
  pub same : (s : Symbolic) → IsBefore m.pc s → number_of after s ≡ number_of free s

module _ (image : Image) (m now : Machine) (free : Free) (r : ℕ) (f : Followed) (has : Has image m free r f) (is_machine : IsMachine m) (onward : now.pc ≡ m.pc + 4) where
  later : (s : Symbolic) → IsBefore m.pc s → IsBefore now.pc s
  later s is = before-later s m.pc now.pc (omega (arith, onward)) is

  none_in : {X : Type 0} (x : X) → Contains [] x → ⊥
  none_in x (k, below, e) = absurd (omega (arith, below))

  -- an instruction that puts a value into its register, and bounds nothing
  pub puts : (after : Free) (i : Instr) (rd value : ℕ) (result : Symbolic) (source : Option Symbolic)
      → ((s : Symbolic) → IsBefore m.pc s → number_of after s ≡ number_of free s)
      → result_of f.registers m.pc i ≡ Some (rd, result) → bound_of f.registers m.pc i ≡ None → source_of f.registers r i ≡ source
      → ((t : Symbolic) (w : ℕ) → source ≡ Some t → word_at image (number_of after t) ≡ Some w → value ≡ w)
      → ((t : Symbolic) → source ≡ Some t → IsBefore now.pc t)
      → rd < 32 → (rd ≢ 0 → number_of after result ≡ value) → IsBefore now.pc result → now ≡ put rd value m → Stepped image m now free r i f
  unfolding follow
  puts after i rd value result source same gives no_bound source_is loads comes below is before does = record {
    after = after;
    has = record {
      registers = registers;
      loaded = loaded;
      below = bounds;
      register_before = register_before;
      source_before = source_before;
      bound_before = bound_before;
    };
    same = same;
  }
    where
      registers : (s : ℕ) → read_register now s ≡ number_of after (with_result (result_of f.registers m.pc i) f.registers s)
      registers s =
          ap (λ (n : Machine). read_register n s) does
          ∙ (put_registers m f.registers free after is_machine.count has.registers (λ k. same (f.registers k) (has.register_before k)) rd value result below is s
          ∙ ap (λ (o : Option (ℕ × Symbolic)). number_of after (with_result o f.registers s)) (sym gives))

      register_before : (s : ℕ) → IsBefore now.pc (with_result (result_of f.registers m.pc i) f.registers s)
      register_before s = subst (λ (o : Option (ℕ × Symbolic)). IsBefore now.pc (with_result o f.registers s)) (sym gives) (by ((s == rd) && not (s == 0)))
        where
          by : (b : Bool) → IsBefore now.pc (if b then result else f.registers s)
          by true = before
          by false = later (f.registers s) (has.register_before s)

      sources : Option Symbolic
      sources = source_after r (Some (rd, result)) source f.source

      sources_are : source_after r (result_of f.registers m.pc i) (source_of f.registers r i) f.source ≡ sources
      sources_are = ap₂ (λ (o : Option (ℕ × Symbolic)) (l : Option Symbolic). source_after r o l f.source) gives source_is

      -- r is written, or it is as it was
      either_source : (t : Symbolic) → sources ≡ Some t
          → ((source ≡ Some t) × (read_register now r ≡ value)) ⊎ ((f.source ≡ Some t) × (read_register now r ≡ read_register m r))
      either_source t e = by (r == rd) (r == 0) refl refl e
        where
          by : (a z : Bool) → (r == rd) ≡ a → (r == 0) ≡ z → (if a && not z then source else f.source) ≡ Some t
              → ((source ≡ Some t) × (read_register now r ≡ value)) ⊎ ((f.source ≡ Some t) × (read_register now r ≡ read_register m r))
          by true true here none h =
              let zero_is : r ≡ 0 = eqb-true r 0 none in
              inr (h, subst (λ k. read_register now k ≡ read_register m k) (sym zero_is) (read_zero now ∙ sym (read_zero m)))
          by true false here some h =
              let there : r ≡ rd = eqb-true r rd here in
              let nonzero : rd ≢ 0 = λ e0. let zero_is : r ≡ 0 = there ∙ e0 in eqb-false r 0 some zero_is in
              inl (
                h,
                ap (λ (n : Machine). read_register n r) does
                    ∙ (ap (λ k. read_register (put rd value m) k) there ∙ put_same m rd value nonzero (omega (arith, is_machine.count, below))),
              )
          by false z off known h = inr (h, ap (λ (n : Machine). read_register n r) does ∙ put_other m rd r value (eqb-false r rd off))

      loaded : (t : Symbolic) (w : ℕ) → source_after r (result_of f.registers m.pc i) (source_of f.registers r i) f.source ≡ Some t
          → word_at image (number_of after t) ≡ Some w → read_register now r ≡ w
      loaded t w e at = elim (either_source t (sym sources_are ∙ e)) [
        | inl fresh ↦ fresh.1 ∙ loads t w fresh.0 at
        | inr old ↦ old.1 ∙ has.loaded t w old.0 (ap (λ a. word_at image a) (sym (same t (has.source_before t old.0))) ∙ at)
      ]

      source_before : (t : Symbolic) → source_after r (result_of f.registers m.pc i) (source_of f.registers r i) f.source ≡ Some t → IsBefore now.pc t
      source_before t e = elim (either_source t (sym sources_are ∙ e)) [
        | inl fresh ↦ comes t fresh.0
        | inr old ↦ later t (has.source_before t old.0)
      ]

      bounds_are : with_bound (bound_of f.registers m.pc i) f.bounds ≡ f.bounds
      bounds_are = ap (λ (o : Option Bound). with_bound o f.bounds) no_bound

      bounds : (bound : Bound) → Contains (with_bound (bound_of f.registers m.pc i) f.bounds) bound → number_of after bound.index < bound.count
      bounds bound among =
          let there : Contains f.bounds bound = subst (λ (bs : List Bound). Contains bs bound) bounds_are among in
          let small = has.below bound there in
          let equal = same bound.index (has.bound_before bound there) in
          omega (arith, small, equal)

      bound_before : (bound : Bound) → Contains (with_bound (bound_of f.registers m.pc i) f.bounds) bound → IsBefore now.pc bound.index
      bound_before bound among = later bound.index (has.bound_before bound (subst (λ (bs : List Bound). Contains bs bound) bounds_are among))

  -- and loads no word into r
  puts_only : (after : Free) (i : Instr) (rd value : ℕ) (result : Symbolic) → ((s : Symbolic) → IsBefore m.pc s → number_of after s ≡ number_of free s)
      → result_of f.registers m.pc i ≡ Some (rd, result) → bound_of f.registers m.pc i ≡ None → source_of f.registers r i ≡ None
      → rd < 32 → number_of after result ≡ value → IsBefore now.pc result → now ≡ put rd value m → Stepped image m now free r i f
  puts_only after i rd value result same gives no_bound no_source below is before does =
      puts after i rd value result None same gives no_bound no_source (λ t w e at. absurd (cc)) (λ t e. absurd (cc)) below (λ nonzero. is) before does

  unchanged : (s : Symbolic) → IsBefore m.pc s → number_of free s ≡ number_of free s
  unchanged s is = refl

  here_before : IsBefore now.pc (Unknown m.pc)
  unfolding IsBefore
  here_before = omega (arith, onward)

  -- where the result is not followed
  unknown : (i : Instr) (rd value : ℕ) → result_of f.registers m.pc i ≡ Some (rd, Unknown m.pc) → bound_of f.registers m.pc i ≡ None
      → source_of f.registers r i ≡ None → rd < 32 → value < 2 ^ 32 → now ≡ put rd value m → Stepped image m now free r i f
  unknown i rd value gives no_bound no_source below small does =
      puts_only (with_value free m.pc value) i rd value (Unknown m.pc) (number-before free m.pc value) gives no_bound no_source below
      (number-here free m.pc value ∙ (omega (arith, small))) here_before does

  put_is : {n : Machine} → Some n ≡ Some now → now ≡ n
  put_is {n} e = sym (same_Some n now e)

  by_lui : (rd imm : ℕ) → rd < 32 → execute (Lui rd imm) m ≡ Some now → Stepped image m now free r (Lui rd imm) f
  unfolding execute result_of bound_of
  by_lui rd imm below does =
      let value : ℕ = imm * 2 ^ 12 % 2 ^ 32 in
      puts_only free (Lui rd imm) rd value (Constant value) unchanged refl refl refl below (constant-number free value ∙ (omega arith)) (before-constant now.pc value) (put_is does)

  by_auipc : (rd imm : ℕ) → rd < 32 → execute (Auipc rd imm) m ≡ Some now → Stepped image m now free r (Auipc rd imm) f
  unfolding execute result_of bound_of
  by_auipc rd imm below does =
      let value : ℕ = past m.pc (imm * 2 ^ 12) in
      puts_only free (Auipc rd imm) rd value (Constant value) unchanged refl refl refl below (constant-number free value ∙ (omega arith)) (before-constant now.pc value) (put_is does)

  before_of : (s : ℕ) → IsBefore now.pc (f.registers s)
  before_of s = later (f.registers s) (has.register_before s)

  by_immediate : (operation : ImmediateOperation) (rd source : ℕ) (imm : ℤ) → (rd < 32) × (source < 32) → execute (Immediate operation rd source imm) m ≡ Some now
      → Stepped image m now free r (Immediate operation rd source imm) f
  unfolding execute result_of bound_of arithmetic
  by_immediate immediate.Add rd source imm fields does =
      let small = word-below imm in
      let constant : number_of free (Constant (word imm)) ≡ word imm = constant-number free (word imm) ∙ (omega (arith, small)) in
      puts_only free (Immediate immediate.Add rd source imm) rd ((read_register m source + word imm) % 2 ^ 32) (sum (f.registers source) (Constant (word imm))) unchanged refl refl refl fields.0
      (number-sum free (f.registers source) (Constant (word imm)) ∙ ap₂ (λ (a b : ℕ). (a + b) % 2 ^ 32) (sym (has.registers source)) constant)
      (before-sum now.pc (f.registers source) (Constant (word imm)) (before_of source) (before-constant now.pc (word imm))) (put_is does)
  by_immediate immediate.And rd source imm fields does =
      puts_only free (Immediate immediate.And rd source imm) rd (bit_and (read_register m source) (word imm)) (masked (f.registers source) (word imm)) unchanged refl refl refl fields.0
      (number-masked free (f.registers source) (word imm) (word-below imm) ∙ ap (λ a. bit_and a (word imm)) (sym (has.registers source)))
      (before-masked now.pc (f.registers source) (word imm) (before_of source)) (put_is does)
  by_immediate immediate.SetLess rd source imm fields does = unknown (Immediate immediate.SetLess rd source imm) rd (arithmetic (of_immediate immediate.SetLess) (read_register m source) (word imm)) refl refl refl fields.0 (arithmetic-below (of_immediate immediate.SetLess) (read_register m source) (word imm) (read_below m source is_machine) (word-below imm)) (put_is does)
  by_immediate immediate.SetLessUnsigned rd source imm fields does = unknown (Immediate immediate.SetLessUnsigned rd source imm) rd (arithmetic (of_immediate immediate.SetLessUnsigned) (read_register m source) (word imm)) refl refl refl fields.0 (arithmetic-below (of_immediate immediate.SetLessUnsigned) (read_register m source) (word imm) (read_below m source is_machine) (word-below imm)) (put_is does)
  by_immediate immediate.Xor rd source imm fields does = unknown (Immediate immediate.Xor rd source imm) rd (arithmetic (of_immediate immediate.Xor) (read_register m source) (word imm)) refl refl refl fields.0 (arithmetic-below (of_immediate immediate.Xor) (read_register m source) (word imm) (read_below m source is_machine) (word-below imm)) (put_is does)
  by_immediate immediate.Or rd source imm fields does = unknown (Immediate immediate.Or rd source imm) rd (arithmetic (of_immediate immediate.Or) (read_register m source) (word imm)) refl refl refl fields.0 (arithmetic-below (of_immediate immediate.Or) (read_register m source) (word imm) (read_below m source is_machine) (word-below imm)) (put_is does)

  by_shift : (operation : ShiftOperation) (rd source amount : ℕ) → (rd < 32) × (source < 32) × (amount < 32) → execute (Shift operation rd source amount) m ≡ Some now
      → Stepped image m now free r (Shift operation rd source amount) f
  unfolding execute result_of bound_of arithmetic
  by_shift shift.Left rd source amount fields does =
      let few : amount ≡ amount % 32 = omega (arith, fields.2) in
      puts_only free (Shift shift.Left rd source amount) rd (read_register m source * 2 ^ (amount % 32) % 2 ^ 32) (shifted (f.registers source) amount) unchanged refl refl refl fields.0
      (number-shifted free (f.registers source) amount ∙ ap₂ (λ (a k : ℕ). a * 2 ^ k % 2 ^ 32) (sym (has.registers source)) few)
      (before-shifted now.pc (f.registers source) amount (before_of source)) (put_is does)
  by_shift shift.RightLogical rd source amount fields does = unknown (Shift shift.RightLogical rd source amount) rd (arithmetic (of_shift shift.RightLogical) (read_register m source) amount) refl refl refl fields.0 (arithmetic-below (of_shift shift.RightLogical) (read_register m source) amount (read_below m source is_machine) (omega (arith, fields.2))) (put_is does)
  by_shift shift.RightArithmetic rd source amount fields does = unknown (Shift shift.RightArithmetic rd source amount) rd (arithmetic (of_shift shift.RightArithmetic) (read_register m source) amount) refl refl refl fields.0 (arithmetic-below (of_shift shift.RightArithmetic) (read_register m source) amount (read_below m source is_machine) (omega (arith, fields.2))) (put_is does)

  by_arithmetic : (operation : ArithmeticOperation) (rd left right : ℕ) → (rd < 32) × (left < 32) × (right < 32) → execute (Arithmetic operation rd left right) m ≡ Some now
      → Stepped image m now free r (Arithmetic operation rd left right) f
  unfolding execute result_of bound_of arithmetic
  by_arithmetic arithmetic_op.Add rd left right fields does =
      puts_only free (Arithmetic arithmetic_op.Add rd left right) rd ((read_register m left + read_register m right) % 2 ^ 32) (sum (f.registers left) (f.registers right)) unchanged refl refl refl fields.0
      (number-sum free (f.registers left) (f.registers right) ∙ ap₂ (λ (a b : ℕ). (a + b) % 2 ^ 32) (sym (has.registers left)) (sym (has.registers right)))
      (before-sum now.pc (f.registers left) (f.registers right) (before_of left) (before_of right)) (put_is does)
  by_arithmetic arithmetic_op.Subtract rd left right fields does =
      puts_only free (Arithmetic arithmetic_op.Subtract rd left right) rd ((read_register m left + (2 ^ 32 - read_register m right)) % 2 ^ 32) (difference (f.registers left) (f.registers right)) unchanged refl refl refl fields.0
      (number-difference free (f.registers left) (f.registers right) ∙ ap₂ (λ (a b : ℕ). (a + (2 ^ 32 - b)) % 2 ^ 32) (sym (has.registers left)) (sym (has.registers right)))
      (before-difference now.pc (f.registers left) (f.registers right) (before_of left) (before_of right)) (put_is does)
  by_arithmetic arithmetic_op.ShiftLeft rd left right fields does = unknown (Arithmetic arithmetic_op.ShiftLeft rd left right) rd (arithmetic arithmetic_op.ShiftLeft (read_register m left) (read_register m right)) refl refl refl fields.0 (arithmetic-below arithmetic_op.ShiftLeft (read_register m left) (read_register m right) (read_below m left is_machine) (read_below m right is_machine)) (put_is does)
  by_arithmetic arithmetic_op.SetLess rd left right fields does = unknown (Arithmetic arithmetic_op.SetLess rd left right) rd (arithmetic arithmetic_op.SetLess (read_register m left) (read_register m right)) refl refl refl fields.0 (arithmetic-below arithmetic_op.SetLess (read_register m left) (read_register m right) (read_below m left is_machine) (read_below m right is_machine)) (put_is does)
  by_arithmetic arithmetic_op.SetLessUnsigned rd left right fields does = unknown (Arithmetic arithmetic_op.SetLessUnsigned rd left right) rd (arithmetic arithmetic_op.SetLessUnsigned (read_register m left) (read_register m right)) refl refl refl fields.0 (arithmetic-below arithmetic_op.SetLessUnsigned (read_register m left) (read_register m right) (read_below m left is_machine) (read_below m right is_machine)) (put_is does)
  by_arithmetic arithmetic_op.Xor rd left right fields does = unknown (Arithmetic arithmetic_op.Xor rd left right) rd (arithmetic arithmetic_op.Xor (read_register m left) (read_register m right)) refl refl refl fields.0 (arithmetic-below arithmetic_op.Xor (read_register m left) (read_register m right) (read_below m left is_machine) (read_below m right is_machine)) (put_is does)
  by_arithmetic arithmetic_op.ShiftRightLogical rd left right fields does = unknown (Arithmetic arithmetic_op.ShiftRightLogical rd left right) rd (arithmetic arithmetic_op.ShiftRightLogical (read_register m left) (read_register m right)) refl refl refl fields.0 (arithmetic-below arithmetic_op.ShiftRightLogical (read_register m left) (read_register m right) (read_below m left is_machine) (read_below m right is_machine)) (put_is does)
  by_arithmetic arithmetic_op.ShiftRightArithmetic rd left right fields does = unknown (Arithmetic arithmetic_op.ShiftRightArithmetic rd left right) rd (arithmetic arithmetic_op.ShiftRightArithmetic (read_register m left) (read_register m right)) refl refl refl fields.0 (arithmetic-below arithmetic_op.ShiftRightArithmetic (read_register m left) (read_register m right) (read_below m left is_machine) (read_below m right is_machine)) (put_is does)
  by_arithmetic arithmetic_op.Or rd left right fields does = unknown (Arithmetic arithmetic_op.Or rd left right) rd (arithmetic arithmetic_op.Or (read_register m left) (read_register m right)) refl refl refl fields.0 (arithmetic-below arithmetic_op.Or (read_register m left) (read_register m right) (read_below m left is_machine) (read_below m right is_machine)) (put_is does)
  by_arithmetic arithmetic_op.And rd left right fields does = unknown (Arithmetic arithmetic_op.And rd left right) rd (arithmetic arithmetic_op.And (read_register m left) (read_register m right)) refl refl refl fields.0 (arithmetic-below arithmetic_op.And (read_register m left) (read_register m right) (read_below m left is_machine) (read_below m right is_machine)) (put_is does)
  by_arithmetic arithmetic_op.Multiply rd left right fields does = unknown (Arithmetic arithmetic_op.Multiply rd left right) rd (arithmetic arithmetic_op.Multiply (read_register m left) (read_register m right)) refl refl refl fields.0 (arithmetic-below arithmetic_op.Multiply (read_register m left) (read_register m right) (read_below m left is_machine) (read_below m right is_machine)) (put_is does)
  by_arithmetic arithmetic_op.MultiplyHigh rd left right fields does = unknown (Arithmetic arithmetic_op.MultiplyHigh rd left right) rd (arithmetic arithmetic_op.MultiplyHigh (read_register m left) (read_register m right)) refl refl refl fields.0 (arithmetic-below arithmetic_op.MultiplyHigh (read_register m left) (read_register m right) (read_below m left is_machine) (read_below m right is_machine)) (put_is does)
  by_arithmetic arithmetic_op.MultiplyHighSignedUnsigned rd left right fields does = unknown (Arithmetic arithmetic_op.MultiplyHighSignedUnsigned rd left right) rd (arithmetic arithmetic_op.MultiplyHighSignedUnsigned (read_register m left) (read_register m right)) refl refl refl fields.0 (arithmetic-below arithmetic_op.MultiplyHighSignedUnsigned (read_register m left) (read_register m right) (read_below m left is_machine) (read_below m right is_machine)) (put_is does)
  by_arithmetic arithmetic_op.MultiplyHighUnsigned rd left right fields does = unknown (Arithmetic arithmetic_op.MultiplyHighUnsigned rd left right) rd (arithmetic arithmetic_op.MultiplyHighUnsigned (read_register m left) (read_register m right)) refl refl refl fields.0 (arithmetic-below arithmetic_op.MultiplyHighUnsigned (read_register m left) (read_register m right) (read_below m left is_machine) (read_below m right is_machine)) (put_is does)
  by_arithmetic arithmetic_op.Divide rd left right fields does = unknown (Arithmetic arithmetic_op.Divide rd left right) rd (arithmetic arithmetic_op.Divide (read_register m left) (read_register m right)) refl refl refl fields.0 (arithmetic-below arithmetic_op.Divide (read_register m left) (read_register m right) (read_below m left is_machine) (read_below m right is_machine)) (put_is does)
  by_arithmetic arithmetic_op.DivideUnsigned rd left right fields does = unknown (Arithmetic arithmetic_op.DivideUnsigned rd left right) rd (arithmetic arithmetic_op.DivideUnsigned (read_register m left) (read_register m right)) refl refl refl fields.0 (arithmetic-below arithmetic_op.DivideUnsigned (read_register m left) (read_register m right) (read_below m left is_machine) (read_below m right is_machine)) (put_is does)
  by_arithmetic arithmetic_op.Remainder rd left right fields does = unknown (Arithmetic arithmetic_op.Remainder rd left right) rd (arithmetic arithmetic_op.Remainder (read_register m left) (read_register m right)) refl refl refl fields.0 (arithmetic-below arithmetic_op.Remainder (read_register m left) (read_register m right) (read_below m left is_machine) (read_below m right is_machine)) (put_is does)
  by_arithmetic arithmetic_op.RemainderUnsigned rd left right fields does = unknown (Arithmetic arithmetic_op.RemainderUnsigned rd left right) rd (arithmetic arithmetic_op.RemainderUnsigned (read_register m left) (read_register m right)) refl refl refl fields.0 (arithmetic-below arithmetic_op.RemainderUnsigned (read_register m left) (read_register m right) (read_below m left is_machine) (read_below m right is_machine)) (put_is does)

  -- ---- loads

  -- what another load than LW puts
  by_other_load : (kind : LoadKind) (rd base : ℕ) (offset : ℤ) → result_of f.registers m.pc (Load kind rd base offset) ≡ Some (rd, Unknown m.pc)
      → (source : Option Symbolic) → source_of f.registers r (Load kind rd base offset) ≡ source → bound_of f.registers m.pc (Load kind rd base offset) ≡ None
      → rd < 32 → IsMachine now → (v : ℕ) → now ≡ put rd v m
      → ((t : Symbolic) (w : ℕ) → source ≡ Some t → word_at image (number_of free t) ≡ Some w → v ≡ w)
      → ((t : Symbolic) → source ≡ Some t → IsBefore m.pc t) → Stepped image m now free r (Load kind rd base offset) f
  by_other_load kind rd base offset gives source source_is no_bound below then_machine v does loads comes =
      puts (with_value free m.pc v) (Load kind rd base offset) rd v (Unknown m.pc) source (number-before free m.pc v) gives no_bound source_is
      (λ t w e at. loads t w e (ap (λ a. word_at image a) (sym (number-before free m.pc v t (comes t e))) ∙ at))
      (λ t e. later t (comes t e)) below number here_before does
    where
      number : rd ≢ 0 → number_of (with_value free m.pc v) (Unknown m.pc) ≡ v
      number nonzero =
          let small : read_register now rd < 2 ^ 32 = read_below now rd then_machine in
          let same_value : read_register now rd ≡ v =
          ap (λ (n : Machine). read_register n rd) does ∙ put_same m rd v nonzero (omega (arith, is_machine.count, below)) in
          number-here free m.pc v ∙ (omega (arith, small, same_value))

  -- ---- instructions that put nothing

  first_or_rest : {X : Type 0} (x : X) (xs : List X) (y : X) → Contains (x ∷ xs) y → (x ≡ y) ⊎ Contains xs y
  first_or_rest x xs y (zero, within, e) = inl e
  first_or_rest x xs y (suc k, within, e) = inr (k, omega (arith, within), e)

  quiet : (i : Instr) (new : Option Bound) → result_of f.registers m.pc i ≡ None → bound_of f.registers m.pc i ≡ new
      → ((s : ℕ) → read_register now s ≡ read_register m s)
      → ((b : Bound) → new ≡ Some b → (number_of free b.index < b.count) × IsBefore m.pc b.index) → Stepped image m now free r i f
  unfolding follow
  quiet i new none bound_is same_registers each_holds = record {
    after = free;
    has = record {
      registers = λ s.
          same_registers s ∙ (has.registers s ∙ ap (λ (o : Option (ℕ × Symbolic)). number_of free (with_result o f.registers s)) (sym none));
      loaded = λ t w e at. same_registers r ∙ has.loaded t w (old_source t e) at;
      below = λ b among. (each b among).0;
      register_before = λ s. subst (λ (o : Option (ℕ × Symbolic)). IsBefore now.pc (with_result o f.registers s)) (sym none) (later (f.registers s) (has.register_before s));
      source_before = λ t e. later t (has.source_before t (old_source t e));
      bound_before = λ b among. later b.index (each b among).1;
    };
    same = unchanged;
  }
    where
      old_source : (t : Symbolic) → source_after r (result_of f.registers m.pc i) (source_of f.registers r i) f.source ≡ Some t → f.source ≡ Some t
      old_source t e = sym (ap (λ (o : Option (ℕ × Symbolic)). source_after r o (source_of f.registers r i) f.source) none) ∙ e

      each_of : (o : Option Bound) → ((b : Bound) → o ≡ Some b → (number_of free b.index < b.count) × IsBefore m.pc b.index)
          → (b : Bound) → Contains (with_bound o f.bounds) b → (number_of free b.index < b.count) × IsBefore m.pc b.index
      each_of None all b among = (has.below b among, has.bound_before b among)
      each_of (Some first) all b among = elim (first_or_rest first f.bounds b among) [
        | inl e ↦ all b (ap (λ (x : Bound). Some x) e)
        | inr rest ↦ (has.below b rest, has.bound_before b rest)
      ]

      each : (b : Bound) → Contains (with_bound (bound_of f.registers m.pc i) f.bounds) b → (number_of free b.index < b.count) × IsBefore m.pc b.index
      each b among = each_of new each_holds b (subst (λ (o : Option Bound). Contains (with_bound o f.bounds) b) bound_is among)

  abbrev IsBounded : Bound → Type 0
  IsBounded b = (number_of free b.index < b.count) × IsBefore m.pc b.index

  -- a branch that falls through bounds an index
  bound_holds : (test : BranchTest) (left right : ℕ) (offset : ℤ) → holds test (read_register m left) (read_register m right) ≡ false
      → (b : Bound) → bound_of f.registers m.pc (Branch test left right offset) ≡ Some b → IsBounded b
  unfolding bound_of holds
  bound_holds branch.LessUnsigned left right offset off b e = by (f.registers left) refl e
    where
      by : (s : Symbolic) → f.registers left ≡ s → at_most m.pc s (f.registers right) ≡ Some b → IsBounded b
      by (Constant c) is h =
          let made : bound_at m.pc (c + 1) (f.registers right) ≡ b = same_Some (bound_at m.pc (c + 1) (f.registers right)) b h in
          let order : read_register m right ≤ read_register m left = ltb-false (read_register m left) (read_register m right) off in
          let known : read_register m left ≡ c % 2 ^ 32 =
          has.registers left ∙ (ap (λ (x : Symbolic). number_of free x) is ∙ constant-number free c) in
          let index : read_register m right ≡ number_of free (f.registers right) = has.registers right in
          let small : number_of free (f.registers right) < c + 1 = omega (arith, order, known, index) in
          subst IsBounded made (small, has.register_before right)
      by (Initial k) is h = absurd (cc)
      by (Unknown k) is h = absurd (cc)
      by (Sum x y) is h = absurd (cc)
      by (Difference x y) is h = absurd (cc)
      by (Shifted x k) is h = absurd (cc)
      by (Masked x k) is h = absurd (cc)
  bound_holds branch.GreaterOrEqualUnsigned left right offset off b e = by (f.registers right) refl e
    where
      lower : (z : Bool) → nat_lt (read_register m left) (read_register m right) ≡ z → not z ≡ false → read_register m left < read_register m right
      lower true is h = ltb-true (read_register m left) (read_register m right) is
      lower false is h = absurd (cc)

      by : (s : Symbolic) → f.registers right ≡ s → less_than m.pc (f.registers left) s ≡ Some b → IsBounded b
      by (Constant n) is h =
          let made : bound_at m.pc n (f.registers left) ≡ b = same_Some (bound_at m.pc n (f.registers left)) b h in
          let order = lower (nat_lt (read_register m left) (read_register m right)) refl off in
          let known : read_register m right ≡ n % 2 ^ 32 =
          has.registers right ∙ (ap (λ (x : Symbolic). number_of free x) is ∙ constant-number free n) in
          let index : read_register m left ≡ number_of free (f.registers left) = has.registers left in
          let small : number_of free (f.registers left) < n = omega (arith, order, known, index) in
          subst IsBounded made (small, has.register_before left)
      by (Initial k) is h = absurd (cc)
      by (Unknown k) is h = absurd (cc)
      by (Sum x y) is h = absurd (cc)
      by (Difference x y) is h = absurd (cc)
      by (Shifted x k) is h = absurd (cc)
      by (Masked x k) is h = absurd (cc)
  bound_holds branch.Equal left right offset off b e = absurd (cc)
  bound_holds branch.NotEqual left right offset off b e = absurd (cc)
  bound_holds branch.Less left right offset off b e = absurd (cc)
  bound_holds branch.GreaterOrEqual left right offset off b e = absurd (cc)

  moved_registers : (n : Machine) → n.registers ≡ m.registers → now ≡ n → (s : ℕ) → read_register now s ≡ read_register m s
  unfolding read_register
  moved_registers n kept is s =
      ap (λ (x : Machine). if s == 0 then 0 else get_or x.registers s 0) is ∙ ap (λ (l : List ℕ). if s == 0 then 0 else get_or l s 0) kept

  by_branch : (test : BranchTest) (left right : ℕ) (offset : ℤ) → holds test (read_register m left) (read_register m right) ≡ false
      → execute (Branch test left right offset) m ≡ Some now → Stepped image m now free r (Branch test left right offset) f
  unfolding execute result_of
  by_branch test left right offset off does =
      quiet (Branch test left right offset) (bound_of f.registers m.pc (Branch test left right offset)) none refl (moved_registers (next m) refl there)
      (bound_holds test left right offset off)
    where
      none : result_of f.registers m.pc (Branch test left right offset) ≡ None
      none = refl

      falls : execute (Branch test left right offset) m ≡ Some (next m)
      falls = ap (λ b. if b then goto (past m.pc (word offset)) m else Some (next m)) off

      there : now ≡ next m
      there = sym (same_Some (next m) now (sym falls ∙ does))

  by_fence : (rd source bits : ℕ) → execute (Fence rd source bits) m ≡ Some now → Stepped image m now free r (Fence rd source bits) f
  unfolding execute result_of bound_of
  by_fence rd source bits does = quiet (Fence rd source bits) None refl refl (moved_registers (next m) refl (put_is does)) (λ b e. absurd (cc))

  by_store : (kind : StoreKind) (base source : ℕ) (offset : ℤ) → execute (Store kind base source offset) m ≡ Some now → Stepped image m now free r (Store kind base source offset) f
  unfolding execute result_of bound_of
  by_store kind base source offset does = by (store kind m.memory (address m base offset) (read_register m source)) does
    where
      by : (o : Option Memory) → option_map (λ (memory : Memory). next (record m { memory = memory })) o ≡ Some now → Stepped image m now free r (Store kind base source offset) f
      by None e = absurd (cc)
      by (Some memory) e =
          quiet (Store kind base source offset) None refl refl (moved_registers (next (record m { memory = memory })) refl (put_is e)) (λ b h. absurd (cc))

  -- ---- loads of words

  unaligned : (b : Bool) (v w : ℕ) → (if b then Some w else None) ≡ Some v → (b ≡ true) × (w ≡ v)
  unaligned true v w e = (refl, same_Some w v e)
  unaligned false v w e = absurd (cc)

  chosen : (b : Bool) (s t : Symbolic) → (if b then Some s else None) ≡ Some t → s ≡ t
  chosen true s t e = same_Some s t e
  chosen false s t e = absurd (cc)

  by_word : (rd base : ℕ) (offset : ℤ) → rd < 32 → IsMachine now → HoldsFixed image m.memory → (v : ℕ)
      → load load_kind.Word m.memory (address m base offset) ≡ Some v → now ≡ put rd v m → Stepped image m now free r (Load load_kind.Word rd base offset) f
  unfolding result_of bound_of load
  by_word rd base offset below then_machine fixed v is does =
      by_other_load load_kind.Word rd base offset gives source source_is no_bound below then_machine v does loads comes
    where
      a : ℕ
      a = address m base offset

      index : Symbolic
      index = sum (f.registers base) (Constant (word offset))

      source : Option Symbolic
      source = if (r == rd) && not (r == 0) then Some index else None

      gives : result_of f.registers m.pc (Load load_kind.Word rd base offset) ≡ Some (rd, Unknown m.pc)
      gives = refl

      source_is : source_of f.registers r (Load load_kind.Word rd base offset) ≡ source
      source_is = refl

      no_bound : bound_of f.registers m.pc (Load load_kind.Word rd base offset) ≡ None
      no_bound = refl

      number : number_of free index ≡ a
      number =
          let small = word-below offset in
          let constant : number_of free (Constant (word offset)) ≡ word offset = constant-number free (word offset) ∙ (omega (arith, small)) in
          number-sum free (f.registers base) (Constant (word offset)) ∙ ap₂ (λ (x y : ℕ). (x + y) % 2 ^ 32) (sym (has.registers base)) constant

      parts : ((a % 4 == 0) ≡ true) × (load_word m.memory a ≡ v)
      parts = unaligned (a % 4 == 0) v (load_word m.memory a) is

      loads : (t : Symbolic) (w : ℕ) → source ≡ Some t → word_at image (number_of free t) ≡ Some w → v ≡ w
      loads t w e at =
          let same_source : index ≡ t = chosen ((r == rd) && not (r == 0)) index t e in
          let there : number_of free t ≡ a = ap (λ (x : Symbolic). number_of free x) (sym same_source) ∙ number in
          let even : a % 4 ≡ 0 = eqb-true (a % 4) 0 parts.0 in
          let within : a + 4 ≤ 2 ^ 32 = omega (arith, even) in
          sym parts.1 ∙ word_fetched image m.memory a w fixed within (ap (λ k. word_at image k) (sym there) ∙ at)

      comes : (t : Symbolic) → source ≡ Some t → IsBefore m.pc t
      comes t e =
          subst (λ (x : Symbolic). IsBefore m.pc x) (chosen ((r == rd) && not (r == 0)) index t e)
          (before-sum m.pc (f.registers base) (Constant (word offset)) (has.register_before base) (before-constant m.pc (word offset)))

  by_load : (kind : LoadKind) (rd base : ℕ) (offset : ℤ) → rd < 32 → IsMachine now → HoldsFixed image m.memory
      → execute (Load kind rd base offset) m ≡ Some now → Stepped image m now free r (Load kind rd base offset) f
  unfolding execute result_of bound_of
  by_load kind rd base offset below then_machine fixed does = by (load kind m.memory (address m base offset)) refl does
    where
      at : (k : LoadKind) (v : ℕ) → load k m.memory (address m base offset) ≡ Some v → now ≡ put rd v m → Stepped image m now free r (Load k rd base offset) f
      at load_kind.Word v is there = by_word rd base offset below then_machine fixed v is there
      at load_kind.Byte v is there =
          by_other_load load_kind.Byte rd base offset refl None refl refl below then_machine v there (λ t w e h. absurd (cc)) (λ t e. absurd (cc))
      at load_kind.Half v is there =
          by_other_load load_kind.Half rd base offset refl None refl refl below then_machine v there (λ t w e h. absurd (cc)) (λ t e. absurd (cc))
      at load_kind.ByteUnsigned v is there =
          by_other_load load_kind.ByteUnsigned rd base offset refl None refl refl below then_machine v there (λ t w e h. absurd (cc)) (λ t e. absurd (cc))
      at load_kind.HalfUnsigned v is there =
          by_other_load load_kind.HalfUnsigned rd base offset refl None refl refl below then_machine v there (λ t w e h. absurd (cc)) (λ t e. absurd (cc))

      by : (o : Option ℕ) → load kind m.memory (address m base offset) ≡ o → option_map (λ value. put rd value m) o ≡ Some now
          → Stepped image m now free r (Load kind rd base offset) f
      by None is e = absurd (cc)
      by (Some v) is e = at kind v is (put_is e)

  -- ---- any straight instruction

  pub stepped : (i : Instr) → is_straight i ≡ true → AreFields i → IsNotTaken m i → IsMachine now → HoldsFixed image m.memory → execute i m ≡ Some now
      → Stepped image m now free r i f
  stepped (Lui rd imm) s fields n t fixed does = by_lui rd imm fields does
  stepped (Auipc rd imm) s fields n t fixed does = by_auipc rd imm fields does
  stepped (Jal rd offset) s fields n t fixed does = absurd (cc)
  stepped (Jalr rd base offset) s fields n t fixed does = absurd (cc)
  stepped (Branch test left right offset) s fields n t fixed does = by_branch test left right offset n does
  stepped (Load kind rd base offset) s fields n t fixed does = by_load kind rd base offset fields.0 t fixed does
  stepped (Store kind base source offset) s fields n t fixed does = by_store kind base source offset does
  stepped (Immediate operation rd source imm) s fields n t fixed does = by_immediate operation rd source imm fields does
  stepped (Shift operation rd source amount) s fields n t fixed does = by_shift operation rd source amount fields does
  stepped (Arithmetic operation rd left right) s fields n t fixed does = by_arithmetic operation rd left right fields does
  stepped (Fence rd source bits) s fields n t fixed does = by_fence rd source bits does
  stepped Ecall s fields n t fixed does = absurd (cc)
  stepped Ebreak s fields n t fixed does = absurd (cc)
