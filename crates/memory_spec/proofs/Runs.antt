-- Runs and the bytes that they have.
use Rattle.std.proofs.Common.{◌≡◌, ◌⊎◌, ◌-◌, ◌^◌, ◌<◌, ◌≤◌, ℕ, zero, suc, Bool, true, false, cond, List, [], ◌∷◌, All, slice_get, Option, Some, None, IsSome, refl, ◌∙◌, subst, arith, inl, inr}
use Rattle.std.specs.Prelude.{Contains, nat_le}
use Rattle.std.specs.Option.{option_or}
use Rattle.std.proofs.lemmas.Option.{slice_get_within, get_or_from_slice_get}
use Rattle.std.proofs.lemmas.List.Elements.{All-contains, Contains-append_cases, Contains-append_right}
use Rattle.memory_spec.specs.Runs.{Run, byte_in, fixed_byte, AreBytes}

-- one of the runs has the byte at the address
pub record HasByte (runs : List Run) (address byte : ℕ) : Type 0 where
  pub run : Run
  pub among : Contains runs run
  pub read : byte_in run address ≡ Some byte

pub byte_of_run : (runs : List Run) (address byte : ℕ) → fixed_byte runs address ≡ Some byte → HasByte runs address byte
unfolding fixed_byte
byte_of_run [] address byte e = absurd (cc)
byte_of_run (run ∷ rest) address byte e = at (byte_in run address) refl e (byte_of_run rest address byte)
  where
    at : (o : Option ℕ) → byte_in run address ≡ o → option_or o (fixed_byte rest address) ≡ Some byte
        → (fixed_byte rest address ≡ Some byte → HasByte rest address byte) → HasByte (run ∷ rest) address byte
    at (Some b) r e again = record { run = run; among = (0, omega arith, refl); read = r ∙ e }
    at None r e again =
        let there = again e in
        record { run = there.run; among = Contains-append_right (run ∷ []) rest there.run there.among; read = there.read }

only_one : (first run : Run) → Contains (first ∷ []) run → first ≡ run
only_one first run (zero, below, here) = here
only_one first run (suc k, below, here) = absurd (omega (arith, below))

nothing : IsSome {T = ℕ} None → ⊥
nothing some = cc

-- where one of the runs has a byte, they have one
pub some_byte : (runs : List Run) (run : Run) (address : ℕ) → Contains runs run → IsSome (byte_in run address) → IsSome (fixed_byte runs address)
unfolding fixed_byte
some_byte [] run address among some = absurd (omega (arith, among.1))
some_byte (first ∷ rest) run address among some =
    at (byte_in first address) refl (Contains-append_cases (first ∷ []) rest run among) (some_byte rest run address)
  where
    at : (o : Option ℕ) → byte_in first address ≡ o → Contains (first ∷ []) run ⊎ Contains rest run
        → (Contains rest run → IsSome (byte_in run address) → IsSome (fixed_byte rest address)) → IsSome (option_or o (fixed_byte rest address))
    at (Some b) r place again = refl
    at None r (inr later) again = again later some
    at None r (inl here) again = absurd (nothing (subst IsSome (subst (λ x. byte_in x address ≡ None) (only_one first run here) r) some))

-- the byte of a run is at its offset
pub byte_at_offset : (run : Run) (address byte : ℕ) → byte_in run address ≡ Some byte → slice_get run.bytes (address - run.start) ≡ Some byte
byte_at_offset run address byte e = at (nat_le run.start address) e
  where
    at : (b : Bool) → cond b (slice_get run.bytes (address - run.start)) None ≡ Some byte → slice_get run.bytes (address - run.start) ≡ Some byte
    at true e = e
    at false e = absurd (cc)

pub le_true : (a b : ℕ) → a ≤ b → nat_le a b ≡ true
le_true a b h = grind (arith, h)

-- and the address is not below the run's start
pub byte_after : (run : Run) (address byte : ℕ) → byte_in run address ≡ Some byte → run.start ≤ address
byte_after run address byte e = at (nat_le run.start address) refl e
  where
    at : (b : Bool) → nat_le run.start address ≡ b → cond b (slice_get run.bytes (address - run.start)) None ≡ Some byte → run.start ≤ address
    at true le e = grind (arith, le)
    at false le e = absurd (cc)

-- what runs of bytes have are bytes
pub are_bytes : (runs : List Run) → All (λ run. All (λ b. b < 2 ^ 8) run.bytes) runs → AreBytes runs
are_bytes runs each address byte e =
    let there = byte_of_run runs address byte e in
    let read = byte_at_offset there.run address byte there.read in
    let small = All-contains (λ run. All (λ b. b < 2 ^ 8) run.bytes) runs there.run each there.among in
    subst (λ b. b < 2 ^ 8) (get_or_from_slice_get there.run.bytes (address - there.run.start) byte 0 read)
    (small (address - there.run.start) 0 (slice_get_within there.run.bytes (address - there.run.start) byte read))
