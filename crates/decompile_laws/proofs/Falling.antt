-- Instructions that continue at the next one: what the machine does, and what their nodes bind.
use Rattle.std.proofs.Common.{◌≡◌, ℕ, ◌*◌, ◌%◌, ◌^◌, ◌<◌, ◌==◌, Bool, true, false, cond, refl, sym, ap, subst, arith, List, [], ◌∷◌, map, Option, Some, None, ℤ, pos, negsuc}
use Rattle.std.specs.Prelude.{option_map}
use Rattle.rv_instr.specs.declared.Instr.{Instr}
use Rattle.rv_instr.specs.declared.Instr.TheVariants.{Lui, Auipc, Jal, Jalr, Branch, Load, Store, Immediate, Shift, Arithmetic, Fence, Ecall, Ebreak}
use Rattle.rv_instr.specs.declared.LoadKind.{LoadKind}
use Rattle.rv_instr.specs.declared.StoreKind.{StoreKind}
use Rattle.rv_machine_spec.specs.Arithmetic.{word, arithmetic, of_immediate, of_shift}
use Rattle.memory_spec.specs.Memory.{Memory, byte_at}
use Rattle.rv_machine_spec.specs.Machine.{Machine, read_register, write_register, past}
use Rattle.rv_machine_spec.specs.Step as step
use Rattle.rv_machine_spec.specs.Step.{execute, put, next}
use Rattle.rv_machine_spec.proofs.Registers.{pc-write, memory-write}
use Rattle.rv_machine_spec.proofs.Kept.{read_below, byte_below}
use Rattle.elf_read_spec.specs.Image.{Image}
use Rattle.memory_spec.specs.Runs.{Run}
use Rattle.elf_read_spec.specs.Runs.{AreRuns}
use Rattle.code_reach_spec.specs.RunUp.{Registers, is_straight, bound_of}
use Rattle.code_reach_spec.specs.Code.{HoldsFixed, Falls, Jumps, Calls, Links, Returns, flow_of, flow_of_pair, pair_target}
use Rattle.term_core_spec.specs.Term.{Term}
use Rattle.term_core_spec.specs.Value.{Bytes, Assignment, value}
use Rattle.graph_core_spec.specs.Graph.{Binding}
use Rattle.graph_core_spec.specs.Run.{bound}
use Rattle.decompile_spec.specs.State.{memory, Alike}
use Rattle.decompile_spec.specs.InstructionTerms as instruction_terms
use Rattle.decompile_spec.specs.InstructionTerms.{operand, number, address, effects, access_tests, load_tests, store_tests, computed, loaded, stored, aligned_for, avoids, last_written}
use Rattle.decompile_laws.proofs.InstructionTerms.{constant_evaluates, computed_evaluates}
use Rattle.decompile_laws.specs.Evaluation.{EvaluatesTo, all_hold}
use Rattle.decompile_laws.proofs.Access.{operand_evaluates, address_evaluates, memory_evaluates, loaded_evaluates, stored_evaluates}
use Rattle.decompile_laws.specs.Together.{Began, IsSound}
use Rattle.decompile_laws.proofs.Bound.{put_alike, put_began, store_alike, store_began, moved_alike}
use Rattle.decompile_laws.proofs.Stored.{parts_hold, store_keeps}
use Rattle.decompile_laws.proofs.Fields.{AreFields}
use Rattle.decompile_laws.proofs.RunUpSteps.{IsNotTaken}

-- the machine after the instruction, and the variables after its node
pub record Fell (image : Image) (m : Machine) (s : Assignment) (i : Instr) (back : ℕ) : Type 0 where
  pub then : Machine
  pub does : execute i m ≡ Some then
  pub pc_is : then.pc ≡ past m.pc 4
  pub fixed : HoldsFixed image then.memory
  pub alike : Alike then (bound (effects m.pc i) s s)
  pub began : Began (bound (effects m.pc i) s s) back

-- no jump continues at the next instruction
no_jump : (b c : Bool) (t u v : ℕ) → cond b (Jumps t) (cond c (Calls u) (Links v)) ≡ Falls → ⊥
no_jump true c t u v e = absurd (cc)
no_jump false true t u v e = absurd (cc)
no_jump false false t u v e = absurd (cc)

no_pair : (b : Bool) (t : ℕ) → cond b (Jumps t) (Calls t) ≡ Falls → ⊥
no_pair true t e = absurd (cc)
no_pair false t e = absurd (cc)

no_return : (b : Bool) (o : Option ℕ) (rd : ℕ) → cond b Returns (flow_of_pair o rd) ≡ Falls → ⊥
no_return true o rd e = absurd (cc)
no_return false None rd e = absurd (cc)
no_return false (Some t) rd e = absurd (no_pair (rd == 0) t e)

-- an instruction that continues at the next one may stand before a jump by a table, and bounds nothing
pub record IsPlain (i : Instr) : Type 0 where
  pub straight : is_straight i ≡ true
  pub no_bound : (x : Registers) (address : ℕ) → bound_of x address i ≡ None
  pub not_taken : (m : Machine) → IsNotTaken m i

pub plain : (previous : Option Instr) (address : ℕ) (i : Instr) → flow_of previous address i ≡ Falls → IsPlain i
unfolding bound_of
plain previous address (Lui rd imm) flow = record { straight = refl; no_bound = λ x a. refl; not_taken = λ m. tt }
plain previous address (Auipc rd imm) flow = record { straight = refl; no_bound = λ x a. refl; not_taken = λ m. tt }
plain previous address (Jal rd offset) flow = absurd (no_jump (rd == 0) (rd == 1) _ _ _ flow)
plain previous address (Jalr rd base offset) flow = absurd (no_return _ (pair_target previous address rd base offset) rd flow)
plain previous address (Branch test left right offset) flow = absurd (cc)
plain previous address (Load kind rd base offset) flow = record { straight = refl; no_bound = λ x a. refl; not_taken = λ m. tt }
plain previous address (Store kind base source offset) flow = record { straight = refl; no_bound = λ x a. refl; not_taken = λ m. tt }
plain previous address (Immediate operation rd source imm) flow = record { straight = refl; no_bound = λ x a. refl; not_taken = λ m. tt }
plain previous address (Shift operation rd source amount) flow = record { straight = refl; no_bound = λ x a. refl; not_taken = λ m. tt }
plain previous address (Arithmetic operation rd left right) flow = record { straight = refl; no_bound = λ x a. refl; not_taken = λ m. tt }
plain previous address (Fence rd source bits) flow = record { straight = refl; no_bound = λ x a. refl; not_taken = λ m. tt }
plain previous address Ecall flow = absurd (cc)
plain previous address Ebreak flow = absurd (cc)

word_below : (z : ℤ) → word z < 2 ^ 32
word_below (pos n) = omega arith
word_below (negsuc n) = omega arith

module _ (image : Image) (m : Machine) (s : Assignment) (back : ℕ) (sound : IsSound image m) (alike : Alike m s) (began : Began s back) where
  -- a register is put
  put_fell : (i : Instr) (r : ℕ) (term : Term) (result : ℕ) → r < 32 → EvaluatesTo s term result → execute i m ≡ Some (put r result m) → effects m.pc i ≡ instruction_terms.put r term
      → Fell image m s i back
  put_fell i r term result below is does binds = record {
    then = put r result m;
    does = does;
    pc_is = ap (λ p. past p 4) (pc-write m r result);
    fixed = subst (HoldsFixed image) (sym (memory-write m r result)) sound.fixed;
    alike = subst (λ (bs : List Binding). Alike (put r result m) (bound bs s s)) (sym binds)
        (moved_alike _ (write_register m r result) _ (put_alike s m r term result sound.is_machine.count below alike is));
    began = subst (λ (bs : List Binding). Began (bound bs s s) back) (sym binds) (put_began s r term back began);
  }

  store_fell : (i : Instr) (term : Term) (bytes : Memory) → execute i m ≡ Some (next (record m { memory = bytes })) → HoldsFixed image bytes
      → effects m.pc i ≡ record { variable = memory; term = term } ∷ [] → value s term ≡ Bytes (byte_at bytes) → Fell image m s i back
  store_fell i term bytes does fixed binds is = record {
    then = next (record m { memory = bytes });
    does = does;
    pc_is = refl;
    fixed = fixed;
    alike = subst (λ (bs : List Binding). Alike (next (record m { memory = bytes })) (bound bs s s)) (sym binds)
        (moved_alike _ (record m { memory = bytes }) _ (store_alike s m term bytes alike is));
    began = subst (λ (bs : List Binding). Began (bound bs s s) back) (sym binds) (store_began s term back began);
  }

  nothing_fell : (i : Instr) → execute i m ≡ Some (next m) → effects m.pc i ≡ [] → Fell image m s i back
  unfolding bound
  nothing_fell i does binds = record {
    then = next m;
    does = does;
    pc_is = refl;
    fixed = sound.fixed;
    alike = subst (λ (bs : List Binding). Alike (next m) (bound bs s s)) (sym binds) (moved_alike s m _ alike);
    began = subst (λ (bs : List Binding). Began (bound bs s s) back) (sym binds) began;
  }

  read : (r : ℕ) → read_register m r < 2 ^ 32
  read r = read_below m r sound.is_machine

  operand_is : (r : ℕ) → r < 32 → EvaluatesTo s (operand r) (read_register m r)
  operand_is r below = operand_evaluates s m alike r below

  small : (q : ℕ) → byte_at m.memory q < 2 ^ 8
  small q = byte_below m q sound.is_machine

  loads : (kind : LoadKind) (rd base : ℕ) (offset : ℤ) → rd < 32 → base < 32 → all_hold s (load_tests kind (address base offset)) ≡ true
      → Fell image m s (Load kind rd base offset) back
  unfolding execute effects
  loads kind rd base offset low lower h =
      let found = loaded_evaluates s m.memory small (memory_evaluates s m alike) (address base offset) (step.address m base offset) (omega arith)
      (address_evaluates s m alike base offset lower) kind h in
      put_fell (Load kind rd base offset) rd (loaded kind (address base offset)) found.0 low found.2
      (ap (option_map (λ result. put rd result m)) found.1) refl

  stores : (runs : List Run) → AreRuns image runs → (kind : StoreKind) (base source : ℕ) (offset : ℤ) → base < 32 → source < 32
      → all_hold s (store_tests runs kind (address base offset)) ≡ true → Fell image m s (Store kind base source offset) back
  unfolding execute effects
  stores runs are kind base source offset low lower h =
      let found = stored_evaluates s m.memory (memory_evaluates s m alike) (address base offset) (operand source) (step.address m base offset) (read_register m source) (omega arith)
      (address_evaluates s m alike base offset low) (operand_is source lower) kind (parts_hold s (aligned_for kind (address base offset)) (map (avoids (address base offset) (last_written kind (address base offset))) runs) h).0 in
      store_fell (Store kind base source offset) (stored kind (address base offset) (operand source)) found.0
      (ap (option_map (λ bytes. next (record m { memory = bytes }))) found.1)
      (store_keeps image runs are s kind (address base offset) m.memory found.0 (step.address m base offset) (read_register m source) (omega arith)
      (address_evaluates s m alike base offset low) h found.1 sound.fixed)
      refl found.2

  pub falls : (runs : List Run) → AreRuns image runs → (previous : Option Instr) (i : Instr) → AreFields i → flow_of previous m.pc i ≡ Falls
      → all_hold s (access_tests runs i) ≡ true → Fell image m s i back
  unfolding execute effects
  falls runs are previous (Lui rd imm) fields flow h = put_fell (Lui rd imm) rd _ ((imm * 2 ^ 12) % 2 ^ 32) fields (constant_evaluates s _) refl refl
  falls runs are previous (Auipc rd imm) fields flow h = put_fell (Auipc rd imm) rd _ (past m.pc (imm * 2 ^ 12)) fields (constant_evaluates s _) refl refl
  falls runs are previous (Jal rd offset) fields flow h = absurd (no_jump (rd == 0) (rd == 1) _ _ _ flow)
  falls runs are previous (Jalr rd base offset) fields flow h = absurd (no_return _ (pair_target previous m.pc rd base offset) rd flow)
  falls runs are previous (Branch test left right offset) fields flow h = absurd (cc)
  falls runs are previous (Load kind rd base offset) fields flow h = loads kind rd base offset fields.0 fields.1 h
  falls runs are previous (Store kind base source offset) fields flow h = stores runs are kind base source offset fields.0 fields.1 h
  falls runs are previous (Immediate operation rd source imm) fields flow h =
      put_fell (Immediate operation rd source imm) rd _ (arithmetic (of_immediate operation) (read_register m source) (word imm)) fields.0
      (computed_evaluates s (of_immediate operation) (operand source) (number (word imm)) (read_register m source) (word imm) (read source) (word_below imm)
      (operand_is source fields.1) (constant_evaluates s (word imm))) refl refl
  falls runs are previous (Shift operation rd source amount) fields flow h =
      put_fell (Shift operation rd source amount) rd _ (arithmetic (of_shift operation) (read_register m source) amount) fields.0
      (computed_evaluates s (of_shift operation) (operand source) (number amount) (read_register m source) amount (read source) (omega (arith, fields.2))
      (operand_is source fields.1) (constant_evaluates s amount)) refl refl
  falls runs are previous (Arithmetic operation rd left right) fields flow h =
      put_fell (Arithmetic operation rd left right) rd _ (arithmetic operation (read_register m left) (read_register m right)) fields.0
      (computed_evaluates s operation (operand left) (operand right) (read_register m left) (read_register m right) (read left) (read right)
      (operand_is left fields.1) (operand_is right fields.2)) refl refl
  falls runs are previous (Fence rd source bits) fields flow h = nothing_fell (Fence rd source bits) refl refl
  falls runs are previous Ecall fields flow h = absurd (cc)
  falls runs are previous Ebreak fields flow h = absurd (cc)
