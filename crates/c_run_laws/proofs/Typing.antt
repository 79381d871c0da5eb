-- A value has the type of its expression.
use Rattle.std.proofs.Common.{◌≡◌, ℕ, zero, suc, ◌+◌, ◌*◌, ◌<◌, ◌≤◌, ◌||◌, ◌&&◌, Bool, true, false, not, if◌then◌else◌, IsTrue, Option, Some, None, List, refl, ap, subst, ◌∙◌, arith}
use Rattle.std.specs.Prelude.{ℤ, pos, ◌^◌, slice_get, unwrap_or, int_lt, int_div, bit_and, Ok, Err}
use Rattle.std.proofs.lemmas.Nat.{pow-add, and_le_l, or_lt, xor_lt}
use Rattle.std.proofs.Math.Pow.{pow_mono}
use Rattle.memory_spec.specs.Memory.{Memory, byte_at}
use Rattle.c_types_spec.specs.declared.Scalar.{Scalar}
use Rattle.c_types_spec.specs.declared.Arithmetic.{Arithmetic}
use Rattle.c_types_spec.specs.declared.Arithmetic.TheVariants.{Add, Subtract, Multiply, Divide, Remainder, ShiftLeft, ShiftRight, And, Or, Xor}
use Rattle.c_types_spec.specs.declared.Comparison.{Comparison}
use Rattle.c_types_spec.specs.declared.Order.TheVariants.{PointerFirst, IndexFirst}
use Rattle.c_types_spec.specs.Types.{int, word}
use Rattle.c_types_spec.specs.Values.{same_value, bits_of, of_bits, converted, is_of, computed, can_divide, divided, shifted, arithmetic_value, comparison_value, compares}
use Rattle.c_types_spec.specs.Core.{Core}
use Rattle.c_types_spec.specs.HasType.{Scope, HasType, constant, read_local, global_address, load, stored_to, convert, operate, shift, compare, move, within, aligned, choose, is_shift}
use Rattle.c_run_spec.specs.declared.Guard.{Guard}
use Rattle.c_run_spec.specs.Setting.{Setting}
use Rattle.c_run_spec.specs.Accesses.{size_of, address_of, bytes_at, read_guard, object_value, unless}
use Rattle.c_run_spec.specs.Evaluation.{Evaluated, Locals, value, on_result, tested, or_broken, local_value, guard_of, operated, moved}
use Rattle.c_run_spec.specs.Evaluation.{within as within_rule, aligned as aligned_rule}
use Rattle.c_run_laws.specs.Typing.{LocalsHaveTypes, HasBytes, HasAddresses}
use Rattle.c_run_laws.proofs.Ranges.{bits_below, of_bits_is_of, converted_is_of, unsigned_is_of, remainder_is_of}

-- a value of the type, or a guard
abbrev pub GivesOf : Scalar → Evaluated → Type 0
GivesOf type (Ok v) = IsTrue (is_of type v)
GivesOf type (Err broken) = Unit {0}

OptionOf : Scalar → Option ℤ → Type 0
OptionOf type None = Unit {0}
OptionOf type (Some v) = IsTrue (is_of type v)

on_result_of : (type source : Scalar) (r : Evaluated) (f : ℤ → Evaluated) → GivesOf source r → ((v : ℤ) → IsTrue (is_of source v) → GivesOf type (f v)) → GivesOf type (on_result r f)
on_result_of type source (Ok v) f h each = each v h
on_result_of type source (Err broken) f h each = tt

tested_of : (type : Scalar) (b : Bool) (v : ℤ) (guard : Guard) (offset : ℕ) → (b ≡ true → IsTrue (is_of type v)) → GivesOf type (tested b v guard offset)
tested_of type true v guard offset h = h refl
tested_of type false v guard offset h = tt

either_of : (type : Scalar) (b : Bool) (r q : Evaluated) → GivesOf type r → GivesOf type q → GivesOf type (if b then r else q)
either_of type true r q first second = first
either_of type false r q first second = second

opposite : {b : Bool} → b ≡ true → b ≡ false → ⊥
opposite e f = cc

-- ---- operators

computed_of : (type : Scalar) (v : ℤ) → OptionOf type (computed type v)
unfolding OptionOf
computed_of type v = by_test (type.is_signed && not (is_of type v)) where
  by_test : (b : Bool) → OptionOf type (if b then None else Some (converted type v))
  by_test true = tt
  by_test false = converted_is_of type v

shifted_of : (type : Scalar) (count v : ℤ) → OptionOf type (shifted type count v)
unfolding OptionOf
shifted_of type count v = by_test (int_lt count (pos 0) || not (int_lt count (pos type.width))) where
  by_test : (b : Bool) → OptionOf type (if b then None else Some (converted type v))
  by_test true = tt
  by_test false = converted_is_of type v

and_right : (a b : Bool) → (a && b) ≡ true → b ≡ true
and_right true b h = h
and_right false b h = cc

divided_of : (type : Scalar) (left right result : ℤ) → (can_divide type left right ≡ true → IsTrue (is_of type result)) → OptionOf type (divided type left right result)
unfolding OptionOf
divided_of type left right result h = by_test (can_divide type left right) refl where
  by_test : (b : Bool) → can_divide type left right ≡ b → OptionOf type (if b then Some result else None)
  by_test true e = h e
  by_test false e = tt

arithmetic_of : (operator : Arithmetic) (type : Scalar) (left right : ℤ) → IsTrue (is_of type left) → (is_shift operator ≡ false → IsTrue (is_of type right)) → OptionOf type (arithmetic_value operator type left right)
unfolding arithmetic_value OptionOf
arithmetic_of Add type left right a b = computed_of type _
arithmetic_of Subtract type left right a b = computed_of type _
arithmetic_of Multiply type left right a b = computed_of type _
arithmetic_of Divide type left right a b = divided_of type left right _ (λ e. and_right (not (same_value right (pos 0))) (is_of type (int_div left right)) e)
arithmetic_of Remainder type left right a b = divided_of type left right _ (λ e. remainder_is_of type left right a (b refl) e)
arithmetic_of ShiftLeft type left right a b = shifted_of type right _
arithmetic_of ShiftRight type left right a b = shifted_of type right _
arithmetic_of And type left right a b =
    of_bits_is_of type _ (let h : bit_and (bits_of type.width left) (bits_of type.width right) ≤ bits_of type.width left = and_le_l _ _ in let k : bits_of type.width left < 2 ^ type.width = bits_below type.width left in omega arith)
arithmetic_of Or type left right a b = of_bits_is_of type _ (or_lt type.width _ _ (bits_below type.width left) (bits_below type.width right))
arithmetic_of Xor type left right a b = of_bits_is_of type _ (xor_lt type.width _ _ (bits_below type.width left) (bits_below type.width right))

operated_of : (operator : Arithmetic) (type : Scalar) (left right : ℤ) (offset : ℕ) → IsTrue (is_of type left) → (is_shift operator ≡ false → IsTrue (is_of type right)) → GivesOf type (operated operator type left right offset)
unfolding OptionOf operated
operated_of operator type left right offset a b = by_value (arithmetic_value operator type left right) (arithmetic_of operator type left right a b) where
  by_value : (o : Option ℤ) → OptionOf type o → GivesOf type (or_broken o (guard_of operator) offset)
  by_value None h = tt
  by_value (Some v) h = h

comparison_of : (operator : Comparison) (left right : ℤ) → IsTrue (is_of int (comparison_value operator left right))
unfolding comparison_value converted
comparison_of operator left right = by_test (compares operator left right) where
  by_test : (b : Bool) → IsTrue (is_of int (if b then pos 1 else pos 0))
  by_test true = refl
  by_test false = refl

-- ---- objects

bytes_below : (memory : Memory) → HasBytes memory → (size address : ℕ) → bytes_at memory size address < 2 ^ (8 * size)
unfolding bytes_at
bytes_below memory bytes zero address = omega arith
bytes_below memory bytes (suc size) address =
    let low : byte_at memory address < 2 ^ 8 = bytes address in
    let high : bytes_at memory size (suc address) < 2 ^ (8 * size) = bytes_below memory bytes size (suc address) in
    let power : 2 ^ (8 * suc size) ≡ 2 ^ 8 * 2 ^ (8 * size) = power_more size in
    omega arith where
      power_more : (k : ℕ) → 2 ^ (8 * suc k) ≡ 2 ^ 8 * 2 ^ (8 * k)
      power_more k = let e : 8 * suc k ≡ 8 + 8 * k = omega arith in ap (λ n. 2 ^ n) e ∙ pow-add 2 8 (8 * k)

object_of : (setting : Setting) (memory : Memory) → HasBytes memory → (type : Scalar) (address offset : ℕ) → GivesOf type (object_value setting memory type address offset)
unfolding object_value
object_of setting memory bytes type address offset = by_guard (read_guard setting (size_of type) address) where
  below : bytes_at memory (size_of type) address < 2 ^ type.width
  below =
      let h : bytes_at memory (size_of type) address < 2 ^ (8 * size_of type) = bytes_below memory bytes (size_of type) address in
      let k : 2 ^ (8 * size_of type) ≤ 2 ^ type.width = let le : 8 * size_of type ≤ type.width = omega arith in pow_mono le in
      omega arith

  by_guard : (guard : Option Guard) → GivesOf type (unless guard offset (of_bits type (bytes_at memory (size_of type) address)))
  by_guard (Some guard) = tt
  by_guard None = of_bits_is_of type _ below

-- ---- expressions

module _ (scope : Scope) (setting : Setting) (locals : Locals) (memory : Memory) (types : LocalsHaveTypes scope.locals locals) (bytes : HasBytes memory) (addresses : HasAddresses setting) where
  local_of : (type : Scalar) (local offset : ℕ) → slice_get scope.locals local ≡ Some type → (found : Option (Option ℤ)) → slice_get locals local ≡ found → GivesOf type (local_value found offset)
  unfolding local_value
  local_of type local offset known None e = tt
  local_of type local offset known (Some None) e = tt
  local_of type local offset known (Some (Some v)) e = types local type v known e

  address_is_of : (name : List ℕ) (found : Option ℕ) → setting.globals name ≡ found → IsTrue (is_of word (pos (unwrap_or found 0)))
  address_is_of name None e = unsigned_is_of word 0 refl (omega arith)
  address_is_of name (Some address) e = unsigned_is_of word address refl (addresses name address e)

  value_of : (target : Option Scalar) (place : ℕ) (core : Core) (type : Scalar) → HasType scope target core type → GivesOf type (value setting locals memory place core)
  unfolding value moved within_rule aligned_rule
  value_of target place _ _ (constant type v narrow h) = h
  value_of target place _ _ (read_local type local offset narrow h) = local_of type local offset h (slice_get locals local) refl
  value_of target place _ _ (global_address name h) = address_is_of name (setting.globals name) refl
  value_of target place _ _ (load type address displacement offset narrow h) =
      on_result_of type word _ _ (value_of target place address word h) (λ a k. object_of setting memory bytes type (address_of a + displacement) offset)
  value_of target place _ _ (stored_to type offset narrow h) = object_of setting memory bytes type place offset
  value_of target place _ _ (convert type source operand narrow h) =
      on_result_of type source _ _ (value_of target place operand source h) (λ v k. converted_is_of type v)
  value_of target place _ _ (operate operator type left right offset plain wide h k) =
      on_result_of type type _ _ (value_of target place left type h)
      (λ a ha. on_result_of type type _ _ (value_of target place right type k) (λ b hb. operated_of operator type a b offset ha (λ e. hb)))
  value_of target place _ _ (shift operator type count left right offset is wide h k) =
      on_result_of type type _ _ (value_of target place left type h)
      (λ a ha. on_result_of type count _ _ (value_of target place right count k) (λ b hb. operated_of operator type a b offset ha (λ e. absurd (opposite is e))))
  value_of target place _ _ (compare operator type left right h k) =
      on_result_of int type _ _ (value_of target place left type h) (λ a ha. on_result_of int type _ _ (value_of target place right type k) (λ b hb. comparison_of operator a b))
  value_of target place _ _ (move direction PointerFirst size type pointer index offset h k) =
      on_result_of word word _ _ (value_of target place pointer word h)
      (λ p hp. on_result_of word type _ _ (value_of target place index type k) (λ i hi. tested_of word _ _ _ offset (λ e. e)))
  value_of target place _ _ (move direction IndexFirst size type pointer index offset h k) =
      on_result_of word type _ _ (value_of target place index type k)
      (λ i hi. on_result_of word word _ _ (value_of target place pointer word h) (λ p hp. tested_of word _ _ _ offset (λ e. e)))
  value_of target place _ _ (within bound type index offset h) =
      on_result_of type type _ _ (value_of target place index type h) (λ i hi. tested_of type _ i _ offset (λ e. hi))
  value_of target place _ _ (aligned alignment pointer offset aligns h) =
      on_result_of word word _ _ (value_of target place pointer word h) (λ p hp. tested_of word _ p _ offset (λ e. hp))
  value_of target place _ _ (choose type tested test first second h k l) =
      on_result_of type tested _ _ (value_of target place test tested h)
      (λ t ht. either_of type (same_value t (pos 0)) _ _ (value_of target place second type l) (value_of target place first type k))

pub has_its_type : (scope : Scope) (target : Option Scalar) (core : Core) (type : Scalar) (setting : Setting) (locals : Locals) (memory : Memory) (place : ℕ) (v : ℤ)
    → HasType scope target core type → LocalsHaveTypes scope.locals locals → HasBytes memory → HasAddresses setting → value setting locals memory place core ≡ Ok v → IsTrue (is_of type v)
has_its_type scope target core type setting locals memory place v h types bytes addresses e =
    subst (λ r. GivesOf type r) e (value_of scope setting locals memory types bytes addresses target place core type h)
