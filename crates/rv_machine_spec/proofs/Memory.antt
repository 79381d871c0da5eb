-- Reading memory after a store.
use Rattle.std.proofs.Common.{◌∙◌, ◌/◌, ◌^◌, ◌<◌, eq-eqb, ne_eqb, ap, arith, ◌≢◌, ◌≡◌, ℕ, ◌%◌, ◌==◌, cond, Bool, true, false, refl}
use Rattle.std.specs.Prelude.{if◌then◌else◌, unwrap_or, Some}
use Rattle.std.specs.FinMap.{get, get-insert}
use Rattle.std.specs.Cmp.{nat_cmp_total, unsigned_tied}
use Rattle.memory_spec.specs.Memory.{Memory, byte_at}
use Rattle.rv_machine_spec.specs.Machine.{past, store_byte, store_word, load_word}

-- whichever address is read
pub byte_at-store_byte : (memory : Memory) (a value q : ℕ) → byte_at (store_byte memory a value) q ≡ (if q == a then value % 256 else byte_at memory q)
unfolding byte_at store_byte
byte_at-store_byte memory a value q = rw (get-insert {X = ℕ} nat_cmp_total, unsigned_tied q a) (read-either (q == a))
  where
    read-either : (b : Bool) → unwrap_or (cond b (Some (value % 256)) (get memory q)) 0 ≡ cond b (value % 256) (unwrap_or (get memory q) 0)
    read-either true = refl
    read-either false = refl

pub byte_here : (memory : Memory) (a value : ℕ) → byte_at (store_byte memory a value) a ≡ value % 256
byte_here memory a value = byte_at-store_byte memory a value a ∙ ap (λ b. cond b (value % 256) (byte_at memory a)) (eq-eqb a a refl)

pub byte_elsewhere : (memory : Memory) (a value q : ℕ) → q ≢ a → byte_at (store_byte memory a value) q ≡ byte_at memory q
byte_elsewhere memory a value q apart = byte_at-store_byte memory a value q ∙ ap (λ b. cond b (value % 256) (byte_at memory q)) (ne_eqb q a apart)

-- the bytes of a stored word, and everything else
module _ (memory : Memory) (a value : ℕ) (below : a < 2 ^ 32) where
  pub word_elsewhere : (q : ℕ) → q ≢ a → q ≢ past a 1 → q ≢ past a 2 → q ≢ past a 3 → byte_at (store_word memory a value) q ≡ byte_at memory q
  unfolding store_word
  word_elsewhere q a0 a1 a2 a3 =
      byte_elsewhere _ (past a 3) _ q a3 ∙ byte_elsewhere _ (past a 2) _ q a2 ∙ byte_elsewhere _ (past a 1) _ q a1 ∙ byte_elsewhere memory a value q a0

  byte_0 : byte_at (store_word memory a value) a ≡ value % 256
  unfolding store_word
  byte_0 =
      byte_elsewhere _ (past a 3) _ a (omega arith) ∙ byte_elsewhere _ (past a 2) _ a (omega arith) ∙ byte_elsewhere _ (past a 1) _ a (omega arith) ∙ byte_here memory a value

  byte_1 : byte_at (store_word memory a value) (past a 1) ≡ value / 2 ^ 8 % 256
  unfolding store_word
  byte_1 = byte_elsewhere _ (past a 3) _ _ (omega arith) ∙ byte_elsewhere _ (past a 2) _ _ (omega arith) ∙ byte_here _ (past a 1) _

  byte_2 : byte_at (store_word memory a value) (past a 2) ≡ value / 2 ^ 16 % 256
  unfolding store_word
  byte_2 = byte_elsewhere _ (past a 3) _ _ (omega arith) ∙ byte_here _ (past a 2) _

  byte_3 : byte_at (store_word memory a value) (past a 3) ≡ value / 2 ^ 24 % 256
  unfolding store_word
  byte_3 = byte_here _ (past a 3) _

  -- a stored word reads back
  pub load_word-store_word : value < 2 ^ 32 → load_word (store_word memory a value) a ≡ value
  unfolding load_word
  load_word-store_word fits = omega (arith, byte_0, byte_1, byte_2, byte_3)
