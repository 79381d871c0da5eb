-- What an instruction does is what executing it is.
use Rattle.std.proofs.Common.{◌≡◌, ℕ, ◌%◌, ◌==◌, Bool, true, false, cond, refl, sym, ap, subst, arith, eq-eqb, ◌∙◌}
use Rattle.std.specs.Prelude.{Some, None, option_map}
use Rattle.memory_spec.specs.Memory.{Memory}
use Rattle.rv_instr.specs.declared.Instr.{Instr}
use Rattle.rv_instr.specs.declared.Instr.TheVariants.{Lui, Auipc, Jal, Jalr, Branch, Load, Store, Immediate, Shift, Arithmetic, Fence, Ecall, Ebreak}
use Rattle.rv_instr.specs.declared.LoadKind.{LoadKind}
use Rattle.rv_instr.specs.declared.LoadKind.TheVariants as load_kind
use Rattle.rv_instr.specs.declared.StoreKind.{StoreKind}
use Rattle.rv_instr.specs.declared.StoreKind.TheVariants as store_kind
use Rattle.rv_machine_spec.specs.Arithmetic.{holds}
use Rattle.rv_machine_spec.specs.Machine.{Machine, read_register}
use Rattle.rv_machine_spec.specs.Step.{next, put, load, store, goto, link, execute}
use Rattle.rv_machine.specs.Stores.{load_size, store_size}
use Rattle.rv_machine.specs.Effects.{attempted, is_aligned, effect_of, applied, IsEffectOf, first_source, second_source}
use Rattle.rv_machine.specs.declared.Effect.{Effect}
use Rattle.rv_machine.specs.declared.Effect.TheVariants.{Link, Goto, Nothing, Trap}
use Rattle.rv_machine.specs.declared.Effect.TheVariants as effects

-- an attempt, or a trap where it is misaligned
abbrev checked : Effect → Effect
checked e = cond (is_aligned e) e Trap

link_done : (rd target : ℕ) (m : Machine) → link rd target m ≡ applied (checked (Link rd target)) m
link_done rd target m = at (target % 4 == 0)
  where
    at : (b : Bool) → cond b (applied (Link rd target) m) None ≡ applied (cond b (Link rd target) Trap) m
    at true = refl
    at false = refl

branch_done : (taken : Bool) (target : ℕ) (m : Machine)
    → cond taken (goto target m) (Some (next m)) ≡ applied (checked (cond taken (Goto target) Nothing)) m
branch_done false target m = refl
branch_done true target m = at (target % 4 == 0)
  where
    at : (b : Bool) → cond b (applied (Goto target) m) None ≡ applied (cond b (Goto target) Trap) m
    at true = refl
    at false = refl

-- every address is a multiple of 1
one : {X : Type 0} (address : ℕ) → (address % 1 == 0) ≡ false → X
one address e = let yes = eq-eqb (address % 1) 0 (omega arith) in absurd (cc)

load_none : (kind : LoadKind) (memory : Memory) (address : ℕ) → (address % load_size kind == 0) ≡ false → load kind memory address ≡ None
unfolding load
load_none load_kind.Byte memory address e = one address e
load_none load_kind.Half memory address e = rw e refl
load_none load_kind.Word memory address e = rw e refl
load_none load_kind.ByteUnsigned memory address e = one address e
load_none load_kind.HalfUnsigned memory address e = rw e refl

load_done : (kind : LoadKind) (rd address : ℕ) (m : Machine)
    → option_map (λ value. put rd value m) (load kind m.memory address) ≡ applied (checked (effects.Load kind rd address)) m
load_done kind rd address m = at (address % load_size kind == 0) refl
  where
    at : (b : Bool) → (address % load_size kind == 0) ≡ b
        → option_map (λ value. put rd value m) (load kind m.memory address) ≡ applied (cond b (effects.Load kind rd address) Trap) m
    at true e = refl
    at false e = ap (option_map (λ value. put rd value m)) (load_none kind m.memory address e)

store_none : (kind : StoreKind) (memory : Memory) (address value : ℕ) → (address % store_size kind == 0) ≡ false
    → store kind memory address value ≡ None
unfolding store
store_none store_kind.Byte memory address value e = one address e
store_none store_kind.Half memory address value e = rw e refl
store_none store_kind.Word memory address value e = rw e refl

store_done : (kind : StoreKind) (address value : ℕ) (m : Machine)
    → option_map (λ memory. next (record m { memory = memory })) (store kind m.memory address value)
    ≡ applied (checked (effects.Store kind address value)) m
store_done kind address value m = at (address % store_size kind == 0) refl
  where
    at : (b : Bool) → (address % store_size kind == 0) ≡ b
        → option_map (λ memory. next (record m { memory = memory })) (store kind m.memory address value)
        ≡ applied (cond b (effects.Store kind address value) Trap) m
    at true e = refl
    at false e = ap (option_map (λ memory. next (record m { memory = memory }))) (store_none kind m.memory address value e)

effect_done : (i : Instr) (m : Machine) → execute i m ≡ applied (effect_of i (read_register m (first_source i)) (read_register m (second_source i)) m.pc) m
unfolding execute effect_of attempted
effect_done (Lui rd imm) m = refl
effect_done (Auipc rd imm) m = refl
effect_done (Jal rd offset) m = link_done rd _ m
effect_done (Jalr rd base offset) m = link_done rd _ m
effect_done (Branch test left right offset) m = branch_done (holds test (read_register m left) (read_register m right)) _ m
effect_done (Load kind rd base offset) m = load_done kind rd _ m
effect_done (Store kind base source offset) m = store_done kind _ _ m
effect_done (Immediate operation rd source imm) m = refl
effect_done (Shift operation rd source amount) m = refl
effect_done (Arithmetic operation rd left right) m = refl
effect_done (Fence rd source bits) m = refl
effect_done Ecall m = refl
effect_done Ebreak m = refl

-- an effect that is computed is one
pub is_effect : (i : Instr) (a b pc : ℕ) (e : Effect) → e ≡ effect_of i a b pc → IsEffectOf i a b pc e
is_effect i a b pc e same m here first second =
    subst (λ x. execute i m ≡ applied x m) (sym same)
    (subst (λ n. execute i m ≡ applied (effect_of i a b n) m) here
    (subst (λ n. execute i m ≡ applied (effect_of i a n m.pc) m) second
    (subst (λ n. execute i m ≡ applied (effect_of i n (read_register m (second_source i)) m.pc) m) first (effect_done i m))))

-- what is attempted, or a trap where that is misaligned
pub did : (i : Instr) (a b pc : ℕ) (e : Effect) → e ≡ attempted i a b pc → (t : Bool) → t ≡ is_aligned e → IsEffectOf i a b pc (cond t e Trap)
unfolding effect_of
did i a b pc e is t aligned = is_effect i a b pc (cond t e Trap) (ap (λ x. cond x e Trap) aligned ∙ ap checked is)
