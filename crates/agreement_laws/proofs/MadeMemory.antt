-- A memory with given bytes.
use Rattle.std.proofs.Common.{◌≡◌, ◌∙◌, ℕ, zero, suc, ◌^◌, ◌<◌, ◌≤◌, sym, ap, inl, inr, arith}
use Rattle.std.specs.Prelude.{Option, unwrap_or}
use Rattle.std.specs.Ordering.{nat_cmp}
use Rattle.std.specs.FinMap.{empty, get-empty}
use Rattle.std.proofs.Math.Nat.{mod-eq_of_lt}
use Rattle.std.proofs.lemmas.Bool.{cases_lt}
use Rattle.memory_spec.specs.Memory.{Memory, byte_at}
use Rattle.rv_machine_spec.specs.Machine.{store_byte}
use Rattle.rv_machine_spec.proofs.Memory.{byte_here, byte_elsewhere}

-- the bytes below an address, and none from it on
made : (ℕ → ℕ) → ℕ → Memory
made bytes zero = empty
made bytes (suc n) = store_byte (made bytes n) n (bytes n)

made_past : (bytes : ℕ → ℕ) (n q : ℕ) → n ≤ q → byte_at (made bytes n) q ≡ 0
unfolding made byte_at
made_past bytes zero q past = ap (λ (o : Option ℕ). unwrap_or o 0) (get-empty {X = ℕ} nat_cmp q)
made_past bytes (suc n) q past = byte_elsewhere (made bytes n) n (bytes n) q (λ same. omega arith) ∙ made_past bytes n q (omega arith)

made_below : (bytes : ℕ → ℕ) → ((q : ℕ) → bytes q < 2 ^ 8) → (n q : ℕ) → q < n → byte_at (made bytes n) q ≡ bytes q
unfolding made
made_below bytes small zero q below = absurd (omega arith)
made_below bytes small (suc n) q below = elim (cases_lt q n) [
  | inl before ↦ byte_elsewhere (made bytes n) n (bytes n) q (λ same. omega arith) ∙ made_below bytes small n q before
  | inr last ↦
      let same : q ≡ n = omega arith in
      ap (byte_at (store_byte (made bytes n) n (bytes n))) same ∙ byte_here (made bytes n) n (bytes n) ∙ mod-eq_of_lt (small n) ∙ ap bytes (sym same)
]

-- for bytes that are 0 from 2 ^ 32 on there is a memory
pub made_memory : (bytes : ℕ → ℕ) → ((q : ℕ) → bytes q < 2 ^ 8) → ((q : ℕ) → 2 ^ 32 ≤ q → bytes q ≡ 0) → (memory : Memory) × ((q : ℕ) → byte_at memory q ≡ bytes q)
made_memory bytes small far = (
  made bytes (2 ^ 32),
  λ q. elim (cases_lt q (2 ^ 32)) [
    | inl below ↦ made_below bytes small (2 ^ 32) q below
    | inr past ↦ made_past bytes (2 ^ 32) q past ∙ sym (far q past)
  ],
)
