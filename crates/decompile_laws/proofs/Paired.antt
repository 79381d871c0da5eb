-- Where the JALR of an AUIPC pair is reached, its register has what the AUIPC put there.
use Rattle.std.proofs.Common.{◌≡◌, ◌≢◌, ◌∙◌, ℕ, ◌+◌, ◌-◌, ◌*◌, ◌^◌, ◌<◌, ◌≤◌, cond, sym, ap, subst, arith, length, Option, Some, None}
use Rattle.std.proofs.lemmas.Bool.{le-leb, lt-leb}
use Rattle.rv_instr.specs.declared.Instr.{Instr}
use Rattle.rv_instr.specs.declared.Instr.TheVariants.{Auipc}
use Rattle.rv_machine_spec.specs.Machine.{Machine, read_register, past}
use Rattle.rv_machine_spec.specs.Step.{execute, put}
use Rattle.rv_machine_spec.proofs.Registers.{read-write_same}
use Rattle.elf_read_spec.specs.Image.{Image}
use Rattle.code_reach_spec.specs.Code.{Flow, Falls, flow_of, instr_at, instr_before, flow_at, IsReachable}
use Rattle.code_reach_spec.specs.Faults.{IsTarget, HasNoFault}
use Rattle.term_core_spec.specs.declared.Width.TheVariants.{W32}
use Rattle.term_core_spec.specs.Value.{Number, Assignment}
use Rattle.decompile_spec.specs.State.{register, Alike}
use Rattle.decompile_laws.specs.Together.{IsAfterAuipc}
use Rattle.decompile_laws.proofs.Fields.{AreFields}
use Rattle.decompile_laws.proofs.Reached.{no_target}

-- what an instruction asks of the values with which it is reached
abbrev pub IsPaired : Image → (entry : ℕ) → Assignment → (address : ℕ) → Type 0
IsPaired image entry values address = (i : Instr) (flow : Flow) → instr_at image address ≡ Some i → flow_at image entry address ≡ Some flow
    → IsAfterAuipc values (instr_before image entry address) address i flow

-- a target is no JALR of a pair
pub at_target : (image : Image) (entry size address : ℕ) (values : Assignment) → HasNoFault image entry size → IsReachable image entry size address
    → IsTarget image entry size address → IsPaired image entry values address
at_target image entry size address values sound reached target =
    λ i flow there is r imm auipc pair nonzero. absurd (no_target image entry size address sound reached i flow there is pair target)

-- nothing is before the entry
nothing_before : (image : Image) (entry : ℕ) → instr_before image entry entry ≡ None
nothing_before image entry = ap (λ b. cond b (instr_at image (entry - 4)) None) (lt-leb (entry + 4) entry (omega arith))

no_more : (o : Option Instr) (i : Instr) → o ≡ None → o ≡ Some i → ⊥
no_more o i e f = absurd (cc)

pub at_entry : (image : Image) (entry : ℕ) (values : Assignment) → IsPaired image entry values entry
at_entry image entry values =
    λ i flow there is r imm auipc pair nonzero. absurd (no_more (instr_before image entry entry) (Auipc r imm) (nothing_before image entry) auipc)

previous_is : (image : Image) (entry address : ℕ) (i : Instr) → entry ≤ address → instr_at image address ≡ Some i → instr_before image entry (address + 4) ≡ Some i
previous_is image entry address i from there =
    let same : address + 4 - 4 ≡ address = omega arith in
    ap (λ b. cond b (instr_at image (address + 4 - 4)) None) (le-leb (entry + 4) (address + 4) (omega (arith, from))) ∙ ap (instr_at image) same ∙ there

once : (o : Option Instr) (i j : Instr) → o ≡ Some i → o ≡ Some j → i ≡ j
once o i j e f = cc

-- from the instruction before, which puts its own address and an immediate into its register where it is an AUIPC
pub at_next : (image : Image) (entry address : ℕ) (values : Assignment) (i : Instr) → entry ≤ address → instr_at image address ≡ Some i
    → ((r imm : ℕ) → i ≡ Auipc r imm → r ≢ 0 → values (register r) ≡ Number W32 (past address (imm * 2 ^ 12))) → IsPaired image entry values (address + 4)
at_next image entry address values i from there known =
    λ j flow there_too is r imm auipc pair nonzero.
    let same : address + 4 - 4 ≡ address = omega arith in
    subst (λ a. values (register r) ≡ Number W32 (past a (imm * 2 ^ 12))) (sym same)
    (known r imm (once (instr_before image entry (address + 4)) i (Auipc r imm) (previous_is image entry address i from there) auipc) nonzero)

-- an instruction that doesn't fall through is no AUIPC
pub no_auipc : (previous : Option Instr) (address : ℕ) (i : Instr) (flow : Flow) → flow_of previous address i ≡ flow → (flow ≡ Falls → ⊥) → (r imm : ℕ) → i ≡ Auipc r imm → ⊥
no_auipc previous address i flow e no_fall r imm is = no_fall (sym e ∙ ap (λ j. flow_of previous address j) is)

put_there : (m then : Machine) (r imm : ℕ) → length m.registers ≡ 32 → r < 32 → r ≢ 0 → execute (Auipc r imm) m ≡ Some then
    → read_register then r ≡ past m.pc (imm * 2 ^ 12)
unfolding execute read_register
put_there m then r imm count below nonzero does =
    let is : put r (past m.pc (imm * 2 ^ 12)) m ≡ then = cc in
    ap (λ (x : Machine). read_register x r) (sym is) ∙ read-write_same m r (past m.pc (imm * 2 ^ 12)) nonzero (omega (arith, count, below))

-- by falling through
pub after_falling : (image : Image) (entry : ℕ) (m then : Machine) (values : Assignment) (i : Instr) → entry ≤ m.pc → instr_at image m.pc ≡ Some i → AreFields i
    → length m.registers ≡ 32 → execute i m ≡ Some then → Alike then values → IsPaired image entry values (m.pc + 4)
after_falling image entry m then values i from there fields count does alike = at_next image entry m.pc values i from there (λ r imm is nonzero. known r imm is nonzero)
  where
    known : (r imm : ℕ) → i ≡ Auipc r imm → r ≢ 0 → values (register r) ≡ Number W32 (past m.pc (imm * 2 ^ 12))
    known r imm is nonzero =
        let below : r < 32 = subst AreFields is fields in
        alike.registers r nonzero below
        ∙ ap (λ v. Number W32 v) (put_there m then r imm count below nonzero (ap (λ j. execute j m) (sym is) ∙ does))
