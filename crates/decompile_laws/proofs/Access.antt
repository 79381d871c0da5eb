-- Operands, loads and stores.
use Rattle.std.proofs.Common.{◌≡◌, ◌∙◌, ◌≢◌, inl, inr, ℕ, ◌+◌, ◌-◌, ◌*◌, ◌/◌, ◌%◌, ◌^◌, ◌<◌, ◌==◌, Bool, true, refl, sym, ap, subst, arith, ne_eqb, Some, [], ◌∷◌, ℤ}
use Rattle.std.specs.Prelude.{bit_and}
use Rattle.std.proofs.Math.Path.{fun_ext}
use Rattle.std.proofs.lemmas.Bool.{cases_eq, and_parts}
use Rattle.std.proofs.lemmas.Nat.{and_mask}
use Rattle.rv_instr.specs.declared.LoadKind.{LoadKind}
use Rattle.rv_instr.specs.declared.LoadKind.TheVariants as load_kind
use Rattle.rv_instr.specs.declared.StoreKind.{StoreKind}
use Rattle.rv_instr.specs.declared.StoreKind.TheVariants as store_kind
use Rattle.rv_machine_spec.specs.Arithmetic.{word, extended}
use Rattle.rv_machine_spec.specs.Machine as machine
use Rattle.memory_spec.specs.Memory.{Memory, byte_at}
use Rattle.rv_machine_spec.specs.Machine.{Machine, read_register}
use Rattle.rv_machine_spec.specs.Step as step
use Rattle.rv_machine_spec.proofs.Memory.{byte_at-store_byte}
use Rattle.term_core_spec.specs.declared.Width.TheVariants.{W8, W16, W32}
use Rattle.term_core_spec.specs.declared.WordOperator.TheVariants as word_op
use Rattle.term_core_spec.specs.Term.{Term, constant, open_term, load, store, byte, bit_and as and_words}
use Rattle.term_core_spec.specs.Shapes.{past, load_half, load_word, store_byte, store_half, store_word}
use Rattle.term_core_spec.specs.Value.{Truth, Number, Bytes, Assignment, value, operation, low_bits}
use Rattle.graph_core_spec.specs.Run.{is_truth}
use Rattle.decompile_spec.specs.State.{register, memory, Alike}
use Rattle.decompile_spec.specs.InstructionTerms.{number, operand, address, loaded, stored, is_multiple, load_tests, aligned_for}
use Rattle.decompile_laws.proofs.Words.{byte_extended, half_extended}
use Rattle.decompile_laws.proofs.Values.{words_evaluates, equal_evaluates, zero_extend_evaluates, byte_sign_evaluates, half_sign_evaluates, byte_evaluates, join_two_evaluates, join_four_evaluates, load_evaluates, store_evaluates}
use Rattle.decompile_laws.specs.Evaluation.{EvaluatesTo, all_hold}
use Rattle.decompile_laws.proofs.InstructionTerms.{constant_evaluates}

-- ---- operands

zero_operand : (s : Assignment) (m : Machine) → EvaluatesTo s (operand 0) (read_register m 0)
unfolding value read_register
zero_operand s m = refl

other_operand : (s : Assignment) (r n : ℕ) → r ≢ 0 → s (register r) ≡ Number W32 n → EvaluatesTo s (operand r) n
unfolding value
other_operand s r n other e = rw (ne_eqb r 0 other) e

pub operand_evaluates : (s : Assignment) (m : Machine) → Alike m s → (r : ℕ) → r < 32 → EvaluatesTo s (operand r) (read_register m r)
operand_evaluates s m alike r below = elim (cases_eq r 0) [
  | inl e ↦ subst (λ z. EvaluatesTo s (operand z) (read_register m z)) (sym e) (zero_operand s m)
  | inr other ↦ other_operand s r (read_register m r) other (alike.registers r other below)
]

pub address_evaluates : (s : Assignment) (m : Machine) → Alike m s → (base : ℕ) (offset : ℤ) → base < 32 → EvaluatesTo s (address base offset) (step.address m base offset)
unfolding operation
address_evaluates s m alike base offset below =
    words_evaluates s word_op.Add (operand base) (number (word offset)) (read_register m base) (word offset) (operand_evaluates s m alike base below) (constant_evaluates s (word offset))

pub memory_evaluates : (s : Assignment) (m : Machine) → Alike m s → value s (open_term memory) ≡ Bytes (byte_at m.memory)
unfolding value
memory_evaluates s m alike = alike.bytes

-- ---- alignment

pub multiple_evaluates : (s : Assignment) (a : Term) (n k : ℕ) → EvaluatesTo s a n → value s (is_multiple (2 ^ k - 1) a) ≡ Truth (n % 2 ^ k == 0)
unfolding operation
multiple_evaluates s a n k ea =
    equal_evaluates s (and_words a (number (2 ^ k - 1))) (number 0) (bit_and n (2 ^ k - 1)) 0
    (words_evaluates s word_op.And a (number (2 ^ k - 1)) n (2 ^ k - 1) ea (constant_evaluates s (2 ^ k - 1))) (constant_evaluates s 0)
    ∙ ap (λ r. Truth (r == 0)) (and_mask n k)

-- a single test that holds
one_holds : (s : Assignment) (t : Term) (b : Bool) → value s t ≡ Truth b → all_hold s (t ∷ []) ≡ true → b ≡ true
one_holds s t b e h = sym (ap is_truth e) ∙ (and_parts (is_truth (value s t)) true h).0

-- ---- addresses and bytes

past_evaluates : (s : Assignment) (a : Term) (n k : ℕ) → EvaluatesTo s a n → EvaluatesTo s (past a k) (machine.past n k)
unfolding operation
past_evaluates s a n k ea = words_evaluates s word_op.Add a (constant W32 k) n k ea (constant_evaluates s k)

module _ (s : Assignment) (bytes : Memory) (small : (q : ℕ) → byte_at bytes q < 2 ^ 8) (is : value s (open_term memory) ≡ Bytes (byte_at bytes))
    (a : Term) (n : ℕ) (below : n < 2 ^ 32) (ea : EvaluatesTo s a n) where
  first_byte : value s (load (open_term memory) a) ≡ Number W8 (byte_at bytes n)
  first_byte = load_evaluates s (open_term memory) a (byte_at bytes) n below is ea

  further_byte : (k : ℕ) → value s (load (open_term memory) (past a k)) ≡ Number W8 (byte_at bytes (machine.past n k))
  further_byte k = load_evaluates s (open_term memory) (past a k) (byte_at bytes) (machine.past n k) (omega arith) is (past_evaluates s a n k ea)

  half_evaluates : value s (load_half (open_term memory) a) ≡ Number W16 (machine.load_half bytes n)
  unfolding machine.load_half
  half_evaluates =
      join_two_evaluates s (load (open_term memory) a) (load (open_term memory) (past a 1)) (byte_at bytes n) (byte_at bytes (machine.past n 1))
      (small n) (small (machine.past n 1)) first_byte (further_byte 1)

  half_small : machine.load_half bytes n < 2 ^ 16
  unfolding machine.load_half
  half_small = omega (arith, small n, small (machine.past n 1))

  word_evaluates : EvaluatesTo s (load_word (open_term memory) a) (machine.load_word bytes n)
  unfolding machine.load_word
  word_evaluates =
      join_four_evaluates s (load (open_term memory) a) (load (open_term memory) (past a 1)) (load (open_term memory) (past a 2)) (load (open_term memory) (past a 3))
      (byte_at bytes n) (byte_at bytes (machine.past n 1)) (byte_at bytes (machine.past n 2)) (byte_at bytes (machine.past n 3))
      (small n) (small (machine.past n 1)) (small (machine.past n 2)) (small (machine.past n 3))
      first_byte (further_byte 1) (further_byte 2) (further_byte 3)
      ∙ ap (λ v. Number W32 v) {y = byte_at bytes n + 2 ^ 8 * byte_at bytes (machine.past n 1) + 2 ^ 16 * byte_at bytes (machine.past n 2) + 2 ^ 24 * byte_at bytes (machine.past n 3)} (omega arith)

  -- ---- loads

  -- where its tests hold, a load puts what its term evaluates to
  pub loaded_evaluates : (kind : LoadKind) → all_hold s (load_tests kind a) ≡ true → (v : ℕ) × (step.load kind bytes n ≡ Some v) × EvaluatesTo s (loaded kind a) v
  unfolding loaded step.load
  loaded_evaluates load_kind.Byte h = (extended 8 (byte_at bytes n), refl, byte_sign_evaluates s (load (open_term memory) a) (byte_at bytes n) first_byte ∙ ap (λ v. Number W32 v) (byte_extended (byte_at bytes n) (small n)))
  loaded_evaluates load_kind.Half h =
      let even : (n % 2 == 0) ≡ true = one_holds s (is_multiple 1 a) (n % 2 == 0) (multiple_evaluates s a n 1 ea) h in (
        extended 16 (machine.load_half bytes n),
        rw even refl,
        half_sign_evaluates s (load_half (open_term memory) a) (machine.load_half bytes n) half_evaluates ∙ ap (λ v. Number W32 v) (half_extended (machine.load_half bytes n) half_small),
      )
  loaded_evaluates load_kind.Word h =
      let whole : (n % 4 == 0) ≡ true = one_holds s (is_multiple 3 a) (n % 4 == 0) (multiple_evaluates s a n 2 ea) h in
      (machine.load_word bytes n, rw whole refl, word_evaluates)
  loaded_evaluates load_kind.ByteUnsigned h = (byte_at bytes n, refl, zero_extend_evaluates s (load (open_term memory) a) W8 W32 (byte_at bytes n) first_byte)
  loaded_evaluates load_kind.HalfUnsigned h =
      let even : (n % 2 == 0) ≡ true = one_holds s (is_multiple 1 a) (n % 2 == 0) (multiple_evaluates s a n 1 ea) h in
      (machine.load_half bytes n, rw even refl, zero_extend_evaluates s (load_half (open_term memory) a) W16 W32 (machine.load_half bytes n) half_evaluates)

-- ---- stores

byte_stored : (s : Assignment) (m a x : Term) (bytes : Memory) (n v place : ℕ) → n < 2 ^ 32 → value s m ≡ Bytes (byte_at bytes) → EvaluatesTo s a n → EvaluatesTo s x v
    → value s (store m a (byte place x)) ≡ Bytes (byte_at (machine.store_byte bytes n (v / 2 ^ (8 * place))))
byte_stored s m a x bytes n v place below em ea ex =
    store_evaluates s m a (byte place x) (byte_at bytes) n (low_bits 8 (v / 2 ^ (8 * place))) below (omega arith) em ea (byte_evaluates s place x W32 v ex)
    ∙ ap (λ (f : ℕ → ℕ). Bytes f) (fun_ext (λ q. sym (byte_at-store_byte bytes n (v / 2 ^ (8 * place)) q)))

module _ (s : Assignment) (bytes : Memory) (is : value s (open_term memory) ≡ Bytes (byte_at bytes))
    (a x : Term) (n v : ℕ) (below : n < 2 ^ 32) (ea : EvaluatesTo s a n) (ex : EvaluatesTo s x v) where
  lowest_stored : value s (store_byte (open_term memory) a x) ≡ Bytes (byte_at (machine.store_byte bytes n v))
  lowest_stored = byte_stored s (open_term memory) a x bytes n v 0 below is ea ex ∙ ap (λ w. Bytes (byte_at (machine.store_byte bytes n w))) {y = v} (omega arith)

  half_stored : value s (store_half (open_term memory) a x) ≡ Bytes (byte_at (machine.store_half bytes n v))
  unfolding machine.store_half
  half_stored = byte_stored s (store_byte (open_term memory) a x) (past a 1) x _ (machine.past n 1) v 1 (omega arith) lowest_stored (past_evaluates s a n 1 ea) ex

  word_stored : value s (store_word (open_term memory) a x) ≡ Bytes (byte_at (machine.store_word bytes n v))
  unfolding machine.store_half machine.store_word
  word_stored =
      byte_stored s (store (store_half (open_term memory) a x) (past a 2) (byte 2 x)) (past a 3) x _ (machine.past n 3) v 3 (omega arith)
      (byte_stored s (store_half (open_term memory) a x) (past a 2) x _ (machine.past n 2) v 2 (omega arith) half_stored (past_evaluates s a n 2 ea) ex)
      (past_evaluates s a n 3 ea) ex

  -- where its alignment test holds, a store leaves the memory that its term evaluates to
  pub stored_evaluates : (kind : StoreKind) → all_hold s (aligned_for kind a) ≡ true → (after : Memory) × (step.store kind bytes n v ≡ Some after) × (value s (stored kind a x) ≡ Bytes (byte_at after))
  unfolding stored step.store
  stored_evaluates store_kind.Byte h = (machine.store_byte bytes n v, refl, lowest_stored)
  stored_evaluates store_kind.Half h =
      let even : (n % 2 == 0) ≡ true = one_holds s (is_multiple 1 a) (n % 2 == 0) (multiple_evaluates s a n 1 ea) h in
      (machine.store_half bytes n v, rw even refl, half_stored)
  stored_evaluates store_kind.Word h =
      let whole : (n % 4 == 0) ≡ true = one_holds s (is_multiple 3 a) (n % 4 == 0) (multiple_evaluates s a n 2 ea) h in
      (machine.store_word bytes n v, rw whole refl, word_stored)
