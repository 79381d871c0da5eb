-- One byte of an access after the other, as the program counts them.
use Rattle.std.proofs.Common.{◌≡◌, ℕ, zero, suc, ◌+◌, ◌-◌, ◌*◌, ◌<◌, ◌≤◌, ◌||◌, Bool, false, refl, sym, ap, ◌∙◌, arith}
use Rattle.std.specs.Prelude.{◌%◌, ◌/◌, ◌^◌}
use Rattle.std.proofs.lemmas.Nat.{pow-add}
use Rattle.std.proofs.Math.Pow.{pow_mono}
use Rattle.std.specs.FinMap.{insert}
use Rattle.memory_spec.specs.Memory.{Memory, byte_at}
use Rattle.c_run_spec.specs.Accesses.{some_byte, bytes_at, with_bytes}

pub some-zero : (test : ℕ → Bool) (address : ℕ) → some_byte test 0 address ≡ false
unfolding some_byte
some-zero test address = refl

pub some-step : (test : ℕ → Bool) (size address : ℕ) → 0 < size → some_byte test size address ≡ (test address || some_byte test (size - 1) (address + 1))
unfolding some_byte
some-step test zero address h = absurd (omega arith)
some-step test (suc size) address h =
    let less : suc size - 1 ≡ size = omega arith in
    let next : address + 1 ≡ suc address = omega arith in
    sym (ap (λ n. test address || some_byte test n (address + 1)) less ∙ ap (λ a. test address || some_byte test size a) next)

pub bytes-zero : (memory : Memory) (address : ℕ) → bytes_at memory 0 address ≡ 0
unfolding bytes_at
bytes-zero memory address = refl

pub bytes-step : (memory : Memory) (size address : ℕ) → 0 < size → bytes_at memory size address ≡ byte_at memory address + 2 ^ 8 * bytes_at memory (size - 1) (address + 1)
unfolding bytes_at
bytes-step memory zero address h = absurd (omega arith)
bytes-step memory (suc size) address h =
    let less : suc size - 1 ≡ size = omega arith in
    let next : address + 1 ≡ suc address = omega arith in
    sym (ap (λ n. byte_at memory address + 2 ^ 8 * bytes_at memory n (address + 1)) less ∙ ap (λ a. byte_at memory address + 2 ^ 8 * bytes_at memory size a) next)

pub with-zero : (memory : Memory) (address number : ℕ) → with_bytes memory 0 address number ≡ memory
unfolding with_bytes
with-zero memory address number = refl

pub with-step : (memory : Memory) (size address number : ℕ) → 0 < size → with_bytes memory size address number ≡ with_bytes (insert memory address (number % 2 ^ 8)) (size - 1) (address + 1) (number / 2 ^ 8)
unfolding with_bytes
with-step memory zero address number h = absurd (omega arith)
with-step memory (suc size) address number h =
    let less : suc size - 1 ≡ size = omega arith in
    let next : address + 1 ≡ suc address = omega arith in
    sym (ap (λ n. with_bytes (insert memory address (number % 2 ^ 8)) n (address + 1) (number / 2 ^ 8)) less ∙ ap (λ a. with_bytes (insert memory address (number % 2 ^ 8)) size a (number / 2 ^ 8)) next)

eight_more : (size : ℕ) → 0 < size → 2 ^ (8 * size) ≡ 256 * 2 ^ (8 * (size - 1))
eight_more size h = let e : 8 * size ≡ 8 + 8 * (size - 1) = omega arith in ap (λ n. 2 ^ n) e ∙ pow-add 2 8 (8 * (size - 1))

-- one more byte below the others
pub more_bytes : (size low high : ℕ) → 0 < size → low < 256 → high < 2 ^ (8 * (size - 1)) → low + 256 * high < 2 ^ (8 * size)
more_bytes size low high some byte below = let power : 2 ^ (8 * size) ≡ 256 * 2 ^ (8 * (size - 1)) = eight_more size some in omega arith

pub bytes_fit : (size : ℕ) → size ≤ 8 → 2 ^ (8 * size) ≤ 2 ^ 64
bytes_fit size h = let le : 8 * size ≤ 64 = omega arith in pow_mono le

pub bits_fit : (size width bits : ℕ) → size ≡ width / 8 → bits < 2 ^ (8 * size) → bits < 2 ^ width
bits_fit size width bits is below = let le : 8 * size ≤ width = omega arith in let power : 2 ^ (8 * size) ≤ 2 ^ width = pow_mono le in omega arith

pub ruleset some_steps = (some-zero, some-step)

pub ruleset bytes_steps = (bytes-zero, bytes-step)

pub ruleset with_steps = (with-zero, with-step)

pub ruleset byte_bounds = (more_bytes, bytes_fit)
