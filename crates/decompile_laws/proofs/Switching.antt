-- What is known of an instruction that jumps by a table, and of one that doesn't.
use Rattle.std.proofs.Common.{◌≡◌, ◌∙◌, ◌⊎◌, inl, inr, ℕ, ◌+◌, ◌-◌, ◌/◌, ◌==◌, ◌&&◌, not, Bool, true, false, cond, refl, sym, ap, ap₂, eqb-true, Option, Some, None, ℤ, pos, negsuc}
use Rattle.std.proofs.lemmas.Bool.{and_parts}
use Rattle.std.proofs.lemmas.Option.{same_Some}
use Rattle.std.specs.Prelude.{option_and_then}
use Rattle.rv_instr.specs.declared.Instr.{Instr}
use Rattle.rv_instr.specs.declared.Instr.TheVariants.{Lui, Auipc, Jal, Jalr, Branch, Load, Store, Immediate, Shift, Arithmetic, Fence, Ecall, Ebreak}
use Rattle.elf_read_spec.specs.Image.{Image}
use Rattle.code_reach_spec.specs.RunUp.{is_straight}
use Rattle.code_reach_spec.specs.Code.{Flow, Falls, Branches, Jumps, Calls, Links, Returns, Switches, Stops, TableJump, flow_of, flow_of_pair, pair_target, with_table, is_zero, table_jump, table_at, instr_at, instr_before, flow_at}

-- ---- the flow of an instruction is that without its table, unless it jumps by one

jumps_no_switch : (b c : Bool) (t u v : ℕ) (jump : TableJump) → cond b (Jumps t) (cond c (Calls u) (Links v)) ≡ Switches jump → ⊥
jumps_no_switch true c t u v jump e = absurd (cc)
jumps_no_switch false true t u v jump e = absurd (cc)
jumps_no_switch false false t u v jump e = absurd (cc)

pairs_no_switch : (b : Bool) (t : ℕ) (jump : TableJump) → cond b (Jumps t) (Calls t) ≡ Switches jump → ⊥
pairs_no_switch true t jump e = absurd (cc)
pairs_no_switch false t jump e = absurd (cc)

returns_no_switch : (b : Bool) (o : Option ℕ) (rd : ℕ) (jump : TableJump) → cond b Returns (flow_of_pair o rd) ≡ Switches jump → ⊥
returns_no_switch true o rd jump e = absurd (cc)
returns_no_switch false None rd jump e = absurd (cc)
returns_no_switch false (Some t) rd jump e = absurd (pairs_no_switch (rd == 0) t jump e)

no_switch : (previous : Option Instr) (i : Instr) (address : ℕ) (jump : TableJump) → flow_of previous address i ≡ Switches jump → ⊥
no_switch previous (Lui rd imm) address jump e = absurd (cc)
no_switch previous (Auipc rd imm) address jump e = absurd (cc)
no_switch previous (Jal rd offset) address jump e = absurd (jumps_no_switch (rd == 0) (rd == 1) _ _ _ jump e)
no_switch previous (Jalr rd base offset) address jump e = absurd (returns_no_switch _ (pair_target previous address rd base offset) rd jump e)
no_switch previous (Branch test left right offset) address jump e = absurd (cc)
no_switch previous (Load kind rd base offset) address jump e = absurd (cc)
no_switch previous (Store kind base source offset) address jump e = absurd (cc)
no_switch previous (Immediate operation rd source imm) address jump e = absurd (cc)
no_switch previous (Shift operation rd source amount) address jump e = absurd (cc)
no_switch previous (Arithmetic operation rd left right) address jump e = absurd (cc)
no_switch previous (Fence rd source bits) address jump e = absurd (cc)
no_switch previous Ecall address jump e = absurd (cc)
no_switch previous Ebreak address jump e = absurd (cc)

untabled : (table : Option TableJump) (bare flow : Flow) → with_table table bare ≡ flow → ((jump : TableJump) → flow ≡ Switches jump → ⊥) → bare ≡ flow
untabled None bare flow e other = e
untabled (Some jump) Falls flow e other = e
untabled (Some jump) (Branches target) flow e other = e
untabled (Some jump) (Jumps target) flow e other = e
untabled (Some jump) (Calls target) flow e other = e
untabled (Some jump) (Links target) flow e other = e
untabled (Some jump) Returns flow e other = e
untabled (Some jump) (Switches another) flow e other = e
untabled (Some jump) Stops flow e other = absurd (other jump (sym e))

tabled : (table : Option TableJump) (bare : Flow) (jump : TableJump) → with_table table bare ≡ Switches jump → (bare ≡ Switches jump → ⊥) → table ≡ Some jump
tabled None bare jump e none = absurd (none e)
tabled (Some other) Falls jump e none = absurd (cc)
tabled (Some other) (Branches target) jump e none = absurd (cc)
tabled (Some other) (Jumps target) jump e none = absurd (cc)
tabled (Some other) (Calls target) jump e none = absurd (cc)
tabled (Some other) (Links target) jump e none = absurd (cc)
tabled (Some other) Returns jump e none = absurd (cc)
tabled (Some other) (Switches another) jump e none = absurd (none e)
tabled (Some other) Stops jump e none = let same : other ≡ jump = cc in ap Some same

abbrev pub tabled_flow : Image → (entry address : ℕ) → Instr → Flow
tabled_flow image entry address i = with_table (table_at image entry address i) (flow_of (instr_before image entry address) address i)

-- the flow of an instruction, given the one before it
pub flow_with_table : (image : Image) (entry address : ℕ) (i : Instr) (flow : Flow) → instr_at image address ≡ Some i → flow_at image entry address ≡ Some flow
    → tabled_flow image entry address i ≡ flow
unfolding flow_at
flow_with_table image entry address i flow there is =
    same_Some (tabled_flow image entry address i) flow
    (sym (ap (λ (o : Option Instr). option_and_then (λ j. Some (tabled_flow image entry address j)) o) there) ∙ is)

pub flow_there : (image : Image) (entry address : ℕ) (i : Instr) (flow : Flow) → instr_at image address ≡ Some i → flow_at image entry address ≡ Some flow
    → ((jump : TableJump) → flow ≡ Switches jump → ⊥) → flow_of (instr_before image entry address) address i ≡ flow
flow_there image entry address i flow there is other =
    untabled (table_at image entry address i) (flow_of (instr_before image entry address) address i) flow (flow_with_table image entry address i flow there is) other

pub has_flow : (image : Image) (entry address : ℕ) (i : Instr) → instr_at image address ≡ Some i → (flow : Flow) × (flow_at image entry address ≡ Some flow)
unfolding flow_at
has_flow image entry address i there = (
  tabled_flow image entry address i,
  ap (λ (o : Option Instr). option_and_then (λ j. Some (tabled_flow image entry address j)) o) there,
)

-- ---- a jump by a table

-- JALR to x0 of a register as it is, with a run-up before it
pub record IsTable (image : Image) (entry address : ℕ) (i : Instr) (jump : TableJump) : Type 0 where
  pub r : ℕ
  pub is : i ≡ Jalr 0 r (pos 0)
  pub by : table_jump image r address ((address - entry) / 4) ≡ Some jump

zero_is : (z : ℤ) → is_zero z ≡ true → z ≡ pos 0
zero_is (pos n) e = ap pos (eqb-true n 0 e)
zero_is (negsuc n) e = absurd (cc)

table_is : (image : Image) (entry address : ℕ) (i : Instr) (jump : TableJump) → table_at image entry address i ≡ Some jump → IsTable image entry address i jump
table_is image entry address (Jalr rd base offset) jump e = by ((rd == 0) && not (base == 1) && is_zero offset) refl e
  where
    by : (b : Bool) → ((rd == 0) && not (base == 1) && is_zero offset) ≡ b → cond b (table_jump image base address ((address - entry) / 4)) None ≡ Some jump
        → IsTable image entry address (Jalr rd base offset) jump
    by true all h =
        let outer = and_parts ((rd == 0) && not (base == 1)) (is_zero offset) all in
        let inner = and_parts (rd == 0) (not (base == 1)) outer.0 in
        record { r = base; is = ap₂ (λ (k : ℕ) (z : ℤ). Jalr k base z) (eqb-true rd 0 inner.0) (zero_is offset outer.1); by = h }
    by false all h = absurd (cc)
table_is image entry address (Lui rd imm) jump e = absurd (cc)
table_is image entry address (Auipc rd imm) jump e = absurd (cc)
table_is image entry address (Jal rd offset) jump e = absurd (cc)
table_is image entry address (Branch test left right offset) jump e = absurd (cc)
table_is image entry address (Load kind rd base offset) jump e = absurd (cc)
table_is image entry address (Store kind base source offset) jump e = absurd (cc)
table_is image entry address (Immediate operation rd source imm) jump e = absurd (cc)
table_is image entry address (Shift operation rd source amount) jump e = absurd (cc)
table_is image entry address (Arithmetic operation rd left right) jump e = absurd (cc)
table_is image entry address (Fence rd source bits) jump e = absurd (cc)
table_is image entry address Ecall jump e = absurd (cc)
table_is image entry address Ebreak jump e = absurd (cc)

pub switch_is : (image : Image) (entry address : ℕ) (i : Instr) (jump : TableJump) → instr_at image address ≡ Some i
    → flow_at image entry address ≡ Some (Switches jump) → IsTable image entry address i jump
switch_is image entry address i jump there is =
    table_is image entry address i jump
    (tabled (table_at image entry address i) (flow_of (instr_before image entry address) address i) jump (flow_with_table image entry address i (Switches jump) there is)
    (λ e. no_switch (instr_before image entry address) i address jump e))

-- ---- an instruction before a jump

-- it continues at the next instruction, or is a branch
pub straight_flow : (image : Image) (entry address : ℕ) (i : Instr) (flow : Flow) → is_straight i ≡ true → tabled_flow image entry address i ≡ flow
    → (flow ≡ Falls) ⊎ ((target : ℕ) × (flow ≡ Branches target))
straight_flow image entry address (Lui rd imm) flow s e = inl (sym e)
straight_flow image entry address (Auipc rd imm) flow s e = inl (sym e)
straight_flow image entry address (Jal rd offset) flow s e = absurd (cc)
straight_flow image entry address (Jalr rd base offset) flow s e = absurd (cc)
straight_flow image entry address (Branch test left right offset) flow s e = inr (_, sym e)
straight_flow image entry address (Load kind rd base offset) flow s e = inl (sym e)
straight_flow image entry address (Store kind base source offset) flow s e = inl (sym e)
straight_flow image entry address (Immediate operation rd source imm) flow s e = inl (sym e)
straight_flow image entry address (Shift operation rd source amount) flow s e = inl (sym e)
straight_flow image entry address (Arithmetic operation rd left right) flow s e = inl (sym e)
straight_flow image entry address (Fence rd source bits) flow s e = inl (sym e)
straight_flow image entry address Ecall flow s e = absurd (cc)
straight_flow image entry address Ebreak flow s e = absurd (cc)
