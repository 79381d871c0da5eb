-- Variables that are bound as the machine changes stay like it.
use Rattle.std.proofs.Common.{◌≡◌, ◌∙◌, ◌≢◌, inl, inr, ℕ, ◌<◌, ◌==◌, ◌&&◌, Bool, true, false, cond, refl, sym, ap, subst, arith, eq-eqb, ne_eqb, List, [], ◌∷◌, length, map}
use Rattle.std.proofs.lemmas.Bool.{cases_eq}
use Rattle.rv_instr.specs.declared.Instr.{Instr}
use Rattle.rv_instr.specs.declared.Instr.TheVariants as instr
use Rattle.memory_spec.specs.Memory.{Memory, byte_at}
use Rattle.rv_machine_spec.specs.Machine.{Machine, read_register, write_register}
use Rattle.rv_machine_spec.proofs.Registers.{read-write_same, read-write_other, memory-write}
use Rattle.term_core_spec.specs.declared.Width.TheVariants.{W32}
use Rattle.term_core_spec.specs.Term.{Term}
use Rattle.term_core_spec.specs.Value.{Number, Bytes, Assignment, value}
use Rattle.graph_core_spec.specs.Graph.{Binding}
use Rattle.graph_core_spec.specs.Run.{bound, entered, resumed, is_shared, unset}
use Rattle.decompile_spec.specs.State.{register, entry_register, table_index, memory, Alike}
use Rattle.decompile_spec.specs.InstructionTerms as instruction_terms
use Rattle.decompile_spec.specs.Blocks.{entry_binding, other_registers, call_inputs, tail_inputs}
use Rattle.decompile_laws.specs.Together.{Began}
use Rattle.decompile_laws.proofs.Fields.{AreFields}

-- ---- one register

module _ (s : Assignment) (r : ℕ) (term : Term) (result : ℕ) (is : value s term ≡ Number W32 result) where
  abbrev one : List Binding
  one = record { variable = register r; term = term } ∷ []

  bound_same : bound one s s (register r) ≡ Number W32 result
  unfolding bound
  bound_same = ap (λ (b : Bool). cond (b && true) (value s term) (s (register r))) (eq-eqb r r refl) ∙ is

  bound_other : (q : ℕ) → q ≢ r → bound one s s (register q) ≡ s (register q)
  unfolding bound
  bound_other q other = ap (λ (b : Bool). cond (b && true) (value s term) (s (register q))) (ne_eqb q r other)

  bound_memory : bound one s s memory ≡ s memory
  unfolding bound
  bound_memory = refl

  bound_entry : (q : ℕ) → bound one s s (entry_register q) ≡ s (entry_register q)
  unfolding bound
  bound_entry q = refl

put_nothing : (s : Assignment) (m : Machine) (result : ℕ) → Alike m s → Alike (write_register m 0 result) (bound [] s s)
unfolding bound write_register
put_nothing s m result alike = record { registers = alike.registers; bytes = alike.bytes }

-- a register that is put
pub put_alike : (s : Assignment) (m : Machine) (r : ℕ) (term : Term) (result : ℕ) → length m.registers ≡ 32 → r < 32 → Alike m s → value s term ≡ Number W32 result
    → Alike (write_register m r result) (bound (instruction_terms.put r term) s s)
put_alike s m r term result count below alike is = elim (cases_eq r 0) [
  | inl e ↦ subst (λ z. Alike (write_register m z result) (bound (instruction_terms.put z term) s s)) (sym e) (put_nothing s m result alike)
  | inr other ↦ record {
    registers = λ q some inside. at_register q some inside other;
    bytes = rw (ne_eqb r 0 other) (bound_memory s r term result is ∙ alike.bytes ∙ ap (λ (b : Memory). Bytes (byte_at b)) (sym (memory-write m r result)));
  }
]
  where
    at_register : (q : ℕ) → q ≢ 0 → q < 32 → r ≢ 0 → bound (instruction_terms.put r term) s s (register q) ≡ Number W32 (read_register (write_register m r result) q)
    at_register q some inside other = elim (cases_eq q r) [
      | inl e ↦ subst (λ z. bound (instruction_terms.put r term) s s (register z) ≡ Number W32 (read_register (write_register m r result) z)) (sym e)
          (rw (ne_eqb r 0 other) (bound_same s r term result is ∙ ap (λ n. Number W32 n) (sym (read-write_same m r result other (omega arith)))))
      | inr apart ↦
          rw (ne_eqb r 0 other) (bound_other s r term result is q apart ∙ alike.registers q some inside ∙ ap (λ n. Number W32 n) (sym (read-write_other m r q result apart)))
    ]

pub put_began : (s : Assignment) (r : ℕ) (term : Term) (back : ℕ) → Began s back → Began (bound (instruction_terms.put r term) s s) back
unfolding bound
put_began s r term back began = at (r == 0)
  where
    at : (b : Bool) → bound (cond b [] (record { variable = register r; term = term } ∷ [])) s s (entry_register 1) ≡ Number W32 back
    at true = began
    at false = began

-- ---- the index of a table

abbrev index_only : Term → List Binding
index_only term = record { variable = table_index; term = term } ∷ []

pub index_is : (s : Assignment) (term : Term) (result : ℕ) → value s term ≡ Number W32 result → bound (index_only term) s s table_index ≡ Number W32 result
index_is s term result is = bound_same s 32 term result is

pub index_alike : (s : Assignment) (m : Machine) (term : Term) (result : ℕ) → value s term ≡ Number W32 result → Alike m s → Alike m (bound (index_only term) s s)
index_alike s m term result is alike = record {
  registers = λ q some below. bound_other s 32 term result is q (λ e. absurd (omega (arith, e, below))) ∙ alike.registers q some below;
  bytes = bound_memory s 32 term result is ∙ alike.bytes;
}

pub index_began : (s : Assignment) (term : Term) (result back : ℕ) → value s term ≡ Number W32 result → Began s back → Began (bound (index_only term) s s) back
index_began s term result back is began = bound_entry s 32 term result is 1 ∙ began

put_index : (s : Assignment) (r : ℕ) (term : Term) → r < 32 → bound (instruction_terms.put r term) s s table_index ≡ s table_index
unfolding bound
put_index s r term below = at (r == 0)
  where
    at : (b : Bool) → bound (cond b [] (record { variable = register r; term = term } ∷ [])) s s table_index ≡ s table_index
    at true = refl
    at false = ap (λ (b : Bool). cond (b && true) (value s term) (s table_index)) (ne_eqb 32 r (λ e. absurd (omega (arith, e, below))))

-- no instruction that continues at the next one changes it
pub effects_index : (s : Assignment) (a : ℕ) (i : Instr) → AreFields i → bound (instruction_terms.effects a i) s s table_index ≡ s table_index
unfolding bound instruction_terms.effects
effects_index s a (instr.Lui rd imm) fields = put_index s rd _ fields
effects_index s a (instr.Auipc rd imm) fields = put_index s rd _ fields
effects_index s a (instr.Jal rd offset) fields = refl
effects_index s a (instr.Jalr rd base offset) fields = refl
effects_index s a (instr.Branch test left right offset) fields = refl
effects_index s a (instr.Load kind rd base offset) fields = put_index s rd _ fields.0
effects_index s a (instr.Store kind base source offset) fields = refl
effects_index s a (instr.Immediate operation rd source imm) fields = put_index s rd _ fields.0
effects_index s a (instr.Shift operation rd source amount) fields = put_index s rd _ fields.0
effects_index s a (instr.Arithmetic operation rd left right) fields = put_index s rd _ fields.0
effects_index s a (instr.Fence rd source bits) fields = refl
effects_index s a instr.Ecall fields = refl
effects_index s a instr.Ebreak fields = refl

-- ---- memory

pub store_alike : (s : Assignment) (m : Machine) (term : Term) (bytes : Memory) → Alike m s → value s term ≡ Bytes (byte_at bytes)
    → Alike (record m { memory = bytes }) (bound (record { variable = memory; term = term } ∷ []) s s)
unfolding bound read_register
store_alike s m term bytes alike is = record { registers = alike.registers; bytes = is }

pub store_began : (s : Assignment) (term : Term) (back : ℕ) → Began s back → Began (bound (record { variable = memory; term = term } ∷ []) s s) back
unfolding bound
store_began s term back began = began

-- ---- pc is no variable

pub moved_alike : (s : Assignment) (m : Machine) (target : ℕ) → Alike m s → Alike (record m { pc = target }) s
unfolding read_register
moved_alike s m target alike = record { registers = alike.registers; bytes = alike.bytes }

-- ---- calls

-- bindings of entry registers bind no register and no memory
entries_registers : (s rest : Assignment) (rs : List ℕ) (q : ℕ) → bound (map entry_binding rs) s rest (register q) ≡ rest (register q)
unfolding bound
entries_registers s rest [] q = refl
entries_registers s rest (r ∷ rs) q = entries_registers s rest rs q

entries_memory : (s rest : Assignment) (rs : List ℕ) → bound (map entry_binding rs) s rest memory ≡ rest memory
unfolding bound
entries_memory s rest [] = refl
entries_memory s rest (r ∷ rs) = entries_memory s rest rs

-- what is left of the caller's values for a callee
abbrev shared_of : Assignment → Assignment
shared_of s = λ v. cond (is_shared v) (s v) (unset v.sort)

call_memory : (s : Assignment) (m : Machine) (back : ℕ) → Alike m s → entered (call_inputs back) s memory ≡ Bytes (byte_at (write_register m 1 back).memory)
unfolding bound call_inputs
call_memory s m back alike =
    entries_memory s (shared_of s) other_registers ∙ alike.bytes ∙ ap (λ (b : Memory). Bytes (byte_at b)) (sym (memory-write m 1 back))

call_first : (s : Assignment) (back : ℕ) → entered (call_inputs back) s (register 1) ≡ Number W32 back
unfolding bound call_inputs value
call_first s back = refl

call_other : (s : Assignment) (back q : ℕ) → q ≢ 1 → entered (call_inputs back) s (register q) ≡ s (register q)
unfolding bound call_inputs value
call_other s back q apart =
    ap (λ (b : Bool). cond (b && true) (Number W32 back) (bound (map entry_binding other_registers) s (shared_of s) (register q))) (ne_eqb q 1 apart)
    ∙ entries_registers s (shared_of s) other_registers q

-- what the callee starts with
pub call_alike : (s : Assignment) (m : Machine) (back : ℕ) → length m.registers ≡ 32 → Alike m s → Alike (write_register m 1 back) (entered (call_inputs back) s)
call_alike s m back count alike = record {
  registers = λ q some inside. at_register q some inside;
  bytes = call_memory s m back alike;
}
  where
    at_register : (q : ℕ) → q ≢ 0 → q < 32 → entered (call_inputs back) s (register q) ≡ Number W32 (read_register (write_register m 1 back) q)
    at_register q some inside = elim (cases_eq q 1) [
      | inl e ↦ subst (λ z. entered (call_inputs back) s (register z) ≡ Number W32 (read_register (write_register m 1 back) z)) (sym e)
          (call_first s back ∙ ap (λ n. Number W32 n) (sym (read-write_same m 1 back (λ no. absurd (omega arith)) (omega arith))))
      | inr apart ↦
          call_other s back q apart ∙ alike.registers q some inside ∙ ap (λ n. Number W32 n) (sym (read-write_other m 1 q back apart))
    ]

pub call_began : (s : Assignment) (back : ℕ) → Began (entered (call_inputs back) s) back
unfolding bound call_inputs value
call_began s back = refl

-- what a function starts with that another one ends by
pub tail_alike : (s : Assignment) (m : Machine) → Alike m s → Alike m (entered tail_inputs s)
unfolding bound tail_inputs
tail_alike s m alike = record {
  registers = λ q some inside. entries_registers s (shared_of s) (1 ∷ other_registers) q ∙ alike.registers q some inside;
  bytes = entries_memory s (shared_of s) (1 ∷ other_registers) ∙ alike.bytes;
}

pub tail_began : (s : Assignment) (back : ℕ) → s (register 1) ≡ Number W32 back → Began (entered tail_inputs s) back
unfolding bound tail_inputs value
tail_began s back is = is

-- what the caller continues with
pub resumed_alike : (s waited : Assignment) (m : Machine) → Alike m s → Alike m (resumed [] s waited)
unfolding bound
resumed_alike s waited m alike = record { registers = alike.registers; bytes = alike.bytes }

pub resumed_began : (s waited : Assignment) (back : ℕ) → Began waited back → Began (resumed [] s waited) back
unfolding bound
resumed_began s waited back began = began
