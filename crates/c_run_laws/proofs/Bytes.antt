-- What reads and writes of several bytes leave as it was.
use Rattle.std.proofs.Common.{◌≡◌, ℕ, zero, suc, ◌==◌, ◌||◌, ◌+◌, ◌*◌, Bool, true, false, cond, Option, Some, refl, sym, ap, subst, ◌∙◌, eqb-true}
use Rattle.std.specs.Prelude.{◌%◌, ◌/◌, ◌^◌, unwrap_or}
use Rattle.std.specs.FinMap.{get, insert, get-insert}
use Rattle.std.specs.Cmp.{nat_cmp_total, unsigned_tied}
use Rattle.memory_spec.specs.Memory.{Memory, byte_at}
use Rattle.c_run_spec.specs.Accesses.{some_byte, bytes_at, with_bytes}

unwrap_cond : (b : Bool) (v : ℕ) (o : Option ℕ) → unwrap_or (cond b (Some v) o) 0 ≡ cond b v (unwrap_or o 0)
unwrap_cond true v o = refl
unwrap_cond false v o = refl

pub byte_inserted : (memory : Memory) (k v q : ℕ) → byte_at (insert memory k v) q ≡ cond (q == k) v (byte_at memory q)
unfolding byte_at
byte_inserted memory k v q =
    ap (λ o. unwrap_or o 0) (get-insert {X = ℕ} nat_cmp_total memory k v q)
    ∙ ap (λ b. unwrap_or (cond b (Some v) (get memory q)) 0) (unsigned_tied q k)
    ∙ unwrap_cond (q == k) v (get memory q)

or_left : (a b : Bool) → (a || b) ≡ false → a ≡ false
or_left true b h = h
or_left false b h = refl

or_right : (a b : Bool) → (a || b) ≡ false → b ≡ false
or_right true b h = cc
or_right false b h = h

apart : (test : ℕ → Bool) (q k : ℕ) → test k ≡ false → test q ≡ true → (q == k) ≡ false
apart test q k off on = differ (q == k) refl where
  differ : (b : Bool) → (q == k) ≡ b → (q == k) ≡ false
  differ true e = let same : q ≡ k = eqb-true q k e in let both : test q ≡ test k = ap test same in cc
  differ false e = e

-- bytes that a test picks, of which none is written
pub bytes_elsewhere : (test : ℕ → Bool) (size address : ℕ) (memory : Memory) (number q : ℕ) → some_byte test size address ≡ false → test q ≡ true
    → byte_at (with_bytes memory size address number) q ≡ byte_at memory q
unfolding some_byte with_bytes
bytes_elsewhere test zero address memory number q off on = refl
bytes_elsewhere test (suc size) address memory number q off on =
    bytes_elsewhere test size (suc address) (insert memory address (number % 2 ^ 8)) (number / 2 ^ 8) q (or_right _ _ off) on
    ∙ byte_inserted memory address (number % 2 ^ 8) q
    ∙ ap (λ b. cond b (number % 2 ^ 8) (byte_at memory q)) (apart test q address (or_left _ _ off) on)

-- a test that picks fewer bytes
pub some_byte-weaker : (test other : ℕ → Bool) → ((address : ℕ) → test address ≡ true → other address ≡ true) → (size address : ℕ) → some_byte other size address ≡ false → some_byte test size address ≡ false
unfolding some_byte
some_byte-weaker test other implies zero address off = refl
some_byte-weaker test other implies (suc size) address off =
    subst (λ b. (b || some_byte test size (suc address)) ≡ false) (sym (first (test address) (implies address) (or_left _ _ off)))
    (some_byte-weaker test other implies size (suc address) (or_right _ _ off)) where
      first : (b : Bool) → (b ≡ true → other address ≡ true) → other address ≡ false → b ≡ false
      first true on off = let up : other address ≡ true = on refl in cc
      first false on off = refl

-- the bytes outside a test are the same
abbrev pub SameOutside : (ℕ → Bool) → Memory → Memory → Type 0
SameOutside test memory other = (address : ℕ) → test address ≡ false → byte_at memory address ≡ byte_at other address

pub bytes_read_alike : (test : ℕ → Bool) (memory other : Memory) → SameOutside test memory other → (size address : ℕ) → some_byte test size address ≡ false → bytes_at memory size address ≡ bytes_at other size address
unfolding some_byte bytes_at
bytes_read_alike test memory other same zero address off = refl
bytes_read_alike test memory other same (suc size) address off =
    ap (λ b. b + 2 ^ 8 * bytes_at memory size (suc address)) (same address (or_left _ _ off))
    ∙ ap (λ n. byte_at other address + 2 ^ 8 * n) (bytes_read_alike test memory other same size (suc address) (or_right _ _ off))

inserted_alike : (test : ℕ → Bool) (memory other : Memory) (k v : ℕ) → SameOutside test memory other → SameOutside test (insert memory k v) (insert other k v)
inserted_alike test memory other k v same q off =
    byte_inserted memory k v q ∙ ap (cond (q == k) v) (same q off) ∙ sym (byte_inserted other k v q)

pub bytes_written_alike : (test : ℕ → Bool) (size address number : ℕ) (memory other : Memory) → SameOutside test memory other → SameOutside test (with_bytes memory size address number) (with_bytes other size address number)
unfolding with_bytes
bytes_written_alike test zero address number memory other same = same
bytes_written_alike test (suc size) address number memory other same =
    bytes_written_alike test size (suc address) (number / 2 ^ 8) (insert memory address (number % 2 ^ 8)) (insert other address (number % 2 ^ 8))
    (inserted_alike test memory other address (number % 2 ^ 8) same)
