-- What is stored is read, and all else stays.
use Rattle.std.proofs.Common.{◌≡◌, ◌⊎◌, ℕ, zero, suc, ◌+◌, ◌*◌, ◌<◌, ◌≤◌, ◌==◌, Bool, true, false, cond, IsTrue, Option, Some, None, refl, sym, ap, ◌∙◌, inl, inr, arith, eqb-true, eq-eqb}
use Rattle.std.specs.Prelude.{ℤ, ◌%◌, ◌/◌, ◌^◌, Result, Ok}
use Rattle.std.specs.FinMap.{insert}
use Rattle.std.proofs.lemmas.Nat.{mod-pow-add}
use Rattle.std.proofs.Math.Nat.{mod-eq_of_lt}
use Rattle.memory_spec.specs.Memory.{Memory, byte_at}
use Rattle.c_types_spec.specs.declared.Scalar.{Scalar}
use Rattle.c_types_spec.specs.Values.{bits_of, of_bits, converted, is_of}
use Rattle.c_run_spec.specs.declared.Guard.{Guard}
use Rattle.c_run_spec.specs.Setting.{Setting, Broken}
use Rattle.c_run_spec.specs.Accesses.{size_of, read_guard, write_guard, bytes_at, with_bytes, object_value, stored, unless}
use Rattle.c_run_laws.proofs.Bytes.{byte_inserted}
use Rattle.c_run_laws.proofs.Guards.{write_readable}
use Rattle.c_run_laws.proofs.Ranges.{same_equal, bits_below}

differs : (q a : ℕ) → (q ≡ a → ⊥) → (b : Bool) → (q == a) ≡ b → (q == a) ≡ false
differs q a apart true e = absurd (apart (eqb-true q a e))
differs q a apart false e = e

abbrev pub IsOutside : (size address q : ℕ) → Type 0
IsOutside size address q = (q < address) ⊎ (address + size ≤ q)

further : (size address q : ℕ) → IsOutside (suc size) address q → IsOutside size (suc address) q
further size address q (inl h) = inl (omega arith)
further size address q (inr h) = inr (omega arith)

not_first : (size address q : ℕ) → IsOutside (suc size) address q → q ≡ address → ⊥
not_first size address q (inl h) e = absurd (omega arith)
not_first size address q (inr h) e = absurd (omega arith)

pub byte_outside : (size address : ℕ) (memory : Memory) (number q : ℕ) → IsOutside size address q → byte_at (with_bytes memory size address number) q ≡ byte_at memory q
unfolding with_bytes
byte_outside zero address memory number q out = refl
byte_outside (suc size) address memory number q out =
    byte_outside size (suc address) (insert memory address (number % 2 ^ 8)) (number / 2 ^ 8) q (further size address q out)
    ∙ byte_inserted memory address (number % 2 ^ 8) q
    ∙ ap (λ b. cond b (number % 2 ^ 8) (byte_at memory q)) (differs q address (not_first size address q out) (q == address) refl)

one_more : (size number : ℕ) → number % 2 ^ 8 + 2 ^ 8 * (number / 2 ^ 8 % 2 ^ (8 * size)) ≡ number % 2 ^ (8 * suc size)
one_more size number =
    let e : 8 * suc size ≡ 8 * size + 8 = omega arith in
    let whole : number % 2 ^ (8 * size + 8) ≡ (number / 2 ^ 8 % 2 ^ (8 * size)) * 2 ^ 8 + number % 2 ^ 8 = mod-pow-add number (8 * size) 8 in
    let turned : number % 2 ^ 8 + 2 ^ 8 * (number / 2 ^ 8 % 2 ^ (8 * size)) ≡ (number / 2 ^ 8 % 2 ^ (8 * size)) * 2 ^ 8 + number % 2 ^ 8 = omega arith in
    turned ∙ sym whole ∙ ap (λ k. number % 2 ^ k) (sym e)

pub bytes_back : (size address : ℕ) (memory : Memory) (number : ℕ) → bytes_at (with_bytes memory size address number) size address ≡ number % 2 ^ (8 * size)
unfolding with_bytes bytes_at
bytes_back zero address memory number = omega arith
bytes_back (suc size) address memory number =
    let low : byte_at (with_bytes (insert memory address (number % 2 ^ 8)) size (suc address) (number / 2 ^ 8)) address ≡ number % 2 ^ 8 =
    byte_outside size (suc address) (insert memory address (number % 2 ^ 8)) (number / 2 ^ 8) address (inl (omega arith))
    ∙ byte_inserted memory address (number % 2 ^ 8) address
    ∙ ap (λ b. cond b (number % 2 ^ 8) (byte_at memory address)) (eq-eqb address address refl) in
    let high : bytes_at (with_bytes (insert memory address (number % 2 ^ 8)) size (suc address) (number / 2 ^ 8)) size (suc address) ≡ number / 2 ^ 8 % 2 ^ (8 * size) =
    bytes_back size (suc address) (insert memory address (number % 2 ^ 8)) (number / 2 ^ 8) in
    ap (λ n. n + 2 ^ 8 * bytes_at (with_bytes (insert memory address (number % 2 ^ 8)) size (suc address) (number / 2 ^ 8)) size (suc address)) low
    ∙ ap (λ n. number % 2 ^ 8 + 2 ^ 8 * n) high ∙ one_more size number

-- a store that breaks no guard
unless_ok : (guard : Option Guard) (offset : ℕ) (made after : Memory) → unless guard offset made ≡ Ok after → (guard ≡ None) × (made ≡ after)
unless_ok None offset made after e = (refl, cc)
unless_ok (Some guard) offset made after e = cc

pub stored_outside : (setting : Setting) (memory after : Memory) (type : Scalar) (address offset : ℕ) (v : ℤ) → stored setting memory type address v offset ≡ Ok after
    → (q : ℕ) → IsOutside (size_of type) address q → byte_at after q ≡ byte_at memory q
unfolding stored
stored_outside setting memory after type address offset v e q out =
    let made : (write_guard setting (size_of type) address ≡ None) × (with_bytes memory (size_of type) address (bits_of type.width v) ≡ after) = unless_ok _ offset _ after e in
    ap (λ m. byte_at m q) (sym made.1) ∙ byte_outside (size_of type) address memory (bits_of type.width v) q out

abbrev good : ℤ → Result ℤ Broken
good n = Ok n

pub stored_read : (setting : Setting) (memory after : Memory) (type : Scalar) (address offset : ℕ) (v : ℤ) → type.width % 8 ≡ 0 → IsTrue (is_of type v) → stored setting memory type address v offset ≡ Ok after
    → object_value setting after type address offset ≡ Ok v
unfolding stored object_value converted
stored_read setting memory after type address offset v whole typed e =
    let made : (write_guard setting (size_of type) address ≡ None) × (with_bytes memory (size_of type) address (bits_of type.width v) ≡ after) = unless_ok _ offset _ after e in
    let readable : read_guard setting (size_of type) address ≡ None = write_readable setting (size_of type) address made.0 in
    let width : 8 * (type.width / 8) ≡ type.width = omega arith in
    let bits : bytes_at after (size_of type) address ≡ bits_of type.width v =
    ap (λ m. bytes_at m (size_of type) address) (sym made.1) ∙ bytes_back (size_of type) address memory (bits_of type.width v)
    ∙ ap (λ k. bits_of type.width v % 2 ^ k) width ∙ mod-eq_of_lt (bits_below type.width v) in
    ap (λ g. unless g offset (of_bits type (bytes_at after (size_of type) address))) readable
    ∙ ap (λ n. good (of_bits type n)) bits ∙ ap good (same_equal (of_bits type (bits_of type.width v)) v typed)
