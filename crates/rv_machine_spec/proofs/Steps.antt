-- What a step at a known instruction is, and how runs compose.
use Rattle.std.proofs.Common.{ap, ◌∙◌, ◌^◌, ◌<◌, ◌%◌, arith, pos, ◌≡◌, ℕ, zero, suc, ◌+◌, ◌/◌, ◌*◌, ◌==◌, refl, sym, cond, Bool, true, false, eq-eqb, eqb-true}
use Rattle.std.proofs.Math.Nat.{zero-add, suc-add}
use Rattle.std.specs.Prelude.{Option, Some, None, option_and_then, ℤ}
use Rattle.rv_instr.specs.Instr.{instr}
use Rattle.rv_instr.specs.declared.Instr.{Instr}
use Rattle.rv_instr.specs.declared.Instr.TheVariants.{Jalr, Immediate, Arithmetic}
use Rattle.rv_instr.specs.declared.ImmediateOperation.{ImmediateOperation}
use Rattle.rv_instr.specs.declared.ArithmeticOperation.{ArithmeticOperation}
use Rattle.rv_machine_spec.specs.Arithmetic.{arithmetic, of_immediate, word}
use Rattle.rv_machine_spec.specs.Machine.{Machine, read_register, write_register, load_word}
use Rattle.rv_machine_spec.specs.Step.{execute, step, after, put, link, address}

-- the instruction of the word at pc
abbrev pub fetched : Machine → Option Instr
fetched m = instr (load_word m.memory m.pc)

pub step_at : (m : Machine) (i : Instr) → fetched m ≡ Some i → step m ≡ execute i m
unfolding step
step_at m i here = rw here refl

pub step_none : (m : Machine) → fetched m ≡ None → step m ≡ None
unfolding step
step_none m here = rw here refl

pub step_arithmetic : (m : Machine) (operation : ArithmeticOperation) (rd left right : ℕ) → fetched m ≡ Some (Arithmetic operation rd left right)
    → step m ≡ Some (put rd (arithmetic operation (read_register m left) (read_register m right)) m)
unfolding step execute
step_arithmetic m operation rd left right here = rw here refl

pub step_immediate : (m : Machine) (operation : ImmediateOperation) (rd source : ℕ) (imm : ℤ) → fetched m ≡ Some (Immediate operation rd source imm)
    → step m ≡ Some (put rd (arithmetic (of_immediate operation) (read_register m source) (word imm)) m)
unfolding step execute
step_immediate m operation rd source imm here = rw here refl

pub step_indirect_jump : (m : Machine) (rd base : ℕ) (offset : ℤ) → fetched m ≡ Some (Jalr rd base offset)
    → step m ≡ link rd (address m base offset / 2 * 2) m
unfolding step execute
step_indirect_jump m rd base offset here = rw here refl

-- a return to an aligned address
pub step_return : (m : Machine) → fetched m ≡ Some (Jalr 0 1 (pos 0)) → read_register m 1 < 2 ^ 32 → read_register m 1 % 4 ≡ 0
    → step m ≡ Some (record m { pc = read_register m 1 })
unfolding write_register
step_return m here below aligned =
    let target : address m 1 (pos 0) / 2 * 2 ≡ read_register m 1 = omega arith in
    step_indirect_jump m 0 1 (pos 0) here ∙ ap (λ t. link 0 t m) target ∙ ap (λ b. cond b (Some (record m { pc = read_register m 1 })) None) (eq-eqb _ _ aligned)

-- ---- runs

pub after_zero : (m : Machine) (stop : ℕ) → after m stop 0 ≡ Some m
unfolding after
after_zero m stop = refl

pub after_stopped : (m : Machine) (stop k : ℕ) → m.pc ≡ stop → after m stop k ≡ Some m
unfolding after
after_stopped m stop zero here = refl
after_stopped m stop (suc k) here = rw (eq-eqb m.pc stop here) refl

pub after_step : (m : Machine) (stop k : ℕ) → (m.pc == stop) ≡ false → after m stop (suc k) ≡ option_and_then (λ n. after n stop k) (step m)
unfolding after
after_step m stop k there = rw there refl

-- a run of k + j steps is a run of k, and then one of j
pub after-add : (m : Machine) (stop k j : ℕ) → after m stop (k + j) ≡ option_and_then (λ n. after n stop j) (after m stop k)
unfolding after
after-add m stop zero j = rw (zero-add j) refl
after-add m stop (suc k) j = rw (suc-add k j) (here (m.pc == stop) refl (λ n. after-add n stop k j))
  where
    again : (o : Option Machine) → ((n : Machine) → after n stop (k + j) ≡ option_and_then (λ l. after l stop j) (after n stop k))
        → option_and_then (λ n. after n stop (k + j)) o ≡ option_and_then (λ n. after n stop j) (option_and_then (λ n. after n stop k) o)
    again None composes = refl
    again (Some n) composes = composes n

    here : (b : Bool) → (m.pc == stop) ≡ b → ((n : Machine) → after n stop (k + j) ≡ option_and_then (λ l. after l stop j) (after n stop k))
        → cond b (Some m) (option_and_then (λ n. after n stop (k + j)) (step m)) ≡ option_and_then (λ n. after n stop j) (cond b (Some m) (option_and_then (λ n. after n stop k) (step m)))
    here true e composes = sym (after_stopped m stop j (eqb-true _ _ e))
    here false e composes = again (step m) composes
