-- Where its tests hold, a store is within the addresses, meets no fixed byte, and leaves every byte beside its own.
use Rattle.std.proofs.Common.{◌≡◌, ◌≢◌, ◌∙◌, ◌⊎◌, inl, inr, ℕ, zero, suc, ◌+◌, ◌/◌, ◌%◌, ◌^◌, ◌<◌, ◌≤◌, Bool, true, false, if◌then◌else◌, refl, sym, ap, subst, arith, Option, Some, None, All, length}
use Rattle.std.specs.Prelude.{◌||◌}
use Rattle.std.specs.Option.{option_or}
use Rattle.std.proofs.Math.Nat.{mod-eq_of_lt}
use Rattle.std.proofs.lemmas.Bool.{ne_eqb, cases_lt}
use Rattle.std.proofs.lemmas.List.Elements.{All-weaker}
use Rattle.memory_spec.specs.Runs.{Run}
use Rattle.memory_spec.specs.Zones.{Zone}
use Rattle.term_core_spec.specs.declared.Width.TheVariants.{W8, W16, W32}
use Rattle.term_core_spec.specs.declared.WordOperator.TheVariants as word_op
use Rattle.term_core_spec.specs.declared.Variable.{Variable}
use Rattle.term_core_spec.specs.Term.{Term, constant, open_term, store, byte as byte_term}
use Rattle.term_core_spec.specs.Shapes.{past, store_byte, store_half}
use Rattle.term_core_spec.specs.Value.{Number, Bytes, Assignment, IsAssignment, value, operation, with_byte}
use Rattle.term_core_spec.proofs.Sorts.{as_word}
use Rattle.decompile_laws.proofs.Values.{byte_evaluates, store_evaluates}
use Rattle.c_types_spec.specs.declared.Scalar.{Scalar}
use Rattle.c_types_spec.specs.Core.{Typed}
use Rattle.c_run_spec.specs.declared.Guard.{Guard}
use Rattle.c_run_spec.specs.declared.Guard.TheVariants.{FixedByte}
use Rattle.c_run_spec.specs.Setting.{Setting}
use Rattle.c_run_spec.specs.Accesses.{some_byte, size_of, write_guard}
use Rattle.c_graph_spec.specs.State.{width_of, zone_low, zone_high, memory}
use Rattle.c_graph_spec.specs.Values.{Object, address_of, stored}
use Rattle.c_graph_spec.specs.Guards.{Place, write_tests}
use Rattle.c_graph_laws.specs.Together.{IsPlace, setting_at}
use Rattle.c_graph_laws.proofs.Extents.{IsPlain, byte, half, full}
use Rattle.c_graph_laws.proofs.Steps.{all_hold}
use Rattle.c_graph_laws.proofs.Evaluates.{constant_is, words_is}
use Rattle.c_graph_laws.proofs.Accesses.{is_fixed}
use Rattle.c_graph_laws.proofs.Objects.{Granted, denied, granted, address_is, write_granted}

-- ---- tests of bytes

neither : (x y : Bool) → (x || y) ≡ false → (x ≡ false) × (y ≡ false)
neither true y e = absurd (cc)
neither false y e = (refl, e)

-- no byte of a run of bytes passes a test that none passes
pub none_of : (test : ℕ → Bool) (size a q : ℕ) → some_byte test size a ≡ false → a ≤ q → q < a + size → test q ≡ false
unfolding some_byte
none_of test zero a q e from below = absurd (omega arith)
none_of test (suc size) a q e from below =
    let parts = neither (test a) (some_byte test size (suc a)) e in
    elim (cases_lt a q) [
      | inl less ↦ none_of test size (suc a) q parts.1 (omega arith) (omega arith)
      | inr least ↦ let same : a ≡ q = omega arith in subst (λ (n : ℕ). test n ≡ false) same parts.0
    ]

-- ---- what is left

other_byte : (bytes : ℕ → ℕ) (c n q : ℕ) → q ≢ c → with_byte bytes c n q ≡ bytes q
other_byte bytes c n q other = ap (λ (b : Bool). if b then n else bytes q) (ne_eqb q c other)

module _ (s : Assignment) (o : Object) (b : ℕ) (below : b < 2 ^ 32) (small : o.displacement < 2 ^ 32) (eb : value s o.base ≡ Number W32 b)
    (bytes : ℕ → ℕ) (is : value s (open_term memory) ≡ Bytes bytes) where
  abbrev a : ℕ
  a = b + o.displacement

  -- the memory is as before but for so many bytes
  abbrev pub Leaves : (size : ℕ) → Term → Type 0
  Leaves size t = (left : ℕ → ℕ) × (value s t ≡ Bytes left) × ((q : ℕ) → (q < b + o.displacement) ⊎ (b + o.displacement + size ≤ q) → left q ≡ bytes q)

  past_at : (k c : ℕ) → a + k ≡ c → c < 2 ^ 32 → value s (past (address_of o) k) ≡ Number W32 c
  unfolding operation
  past_at k c e inside =
      words_is s word_op.Add W32 (address_of o) (constant W32 k) (a % 2 ^ 32) k (address_is s o b below small eb) (constant_is s W32 k)
      ∙ ap (Number W32) (omega arith)

  first_at : a < 2 ^ 32 → value s (address_of o) ≡ Number W32 a
  first_at inside = address_is s o b below small eb ∙ ap (Number W32) (mod-eq_of_lt inside)

  nothing : Leaves 0 (open_term memory)
  nothing = (bytes, is, λ q other. refl)

  one_more : (size c n : ℕ) (m x y : Term) → a + size ≡ c → c < 2 ^ 32 → n < 2 ^ 8 → value s x ≡ Number W32 c → value s y ≡ Number W8 n
      → Leaves size m → Leaves (suc size) (store m x y)
  one_more size c n m x y is_c inside narrow ex ey before = (
    with_byte before.0 c n,
    store_evaluates s m x y before.0 c n inside narrow before.1 ex ey,
    λ q other. elim other [
      | inl less ↦ other_byte before.0 c n q (λ same. omega arith) ∙ before.2 q (inl less)
      | inr past_it ↦ other_byte before.0 c n q (λ same. omega arith) ∙ before.2 q (inr (omega arith))
    ],
  )

  pub stored_leaves : (t : Scalar) → IsPlain t → (x : Term) (n : ℕ) → value s x ≡ Number (width_of t) n → b + o.displacement + size_of t ≤ 2 ^ 32
      → Leaves (size_of t) (stored t o x)
  stored_leaves _ (byte sign) x n ex within =
      one_more 0 a (n % 2 ^ 8) (open_term memory) (address_of o) (byte_term 0 x) (omega arith) (omega arith) (omega arith) (first_at (omega arith))
      (byte_evaluates s 0 x W8 n ex ∙ ap (Number W8) (omega arith)) nothing
  stored_leaves _ (half sign) x n ex within =
      one_more 1 (suc a) (n / 2 ^ 8 % 2 ^ 8) (store_byte (open_term memory) (address_of o) x) (past (address_of o) 1) (byte_term 1 x)
      (omega arith) (omega arith) (omega arith) (past_at 1 (suc a) (omega arith) (omega arith)) (byte_evaluates s 1 x W16 n ex ∙ ap (Number W8) (omega arith))
      (one_more 0 a (n % 2 ^ 8) (open_term memory) (address_of o) (byte_term 0 x) (omega arith) (omega arith) (omega arith) (first_at (omega arith))
      (byte_evaluates s 0 x W16 n ex ∙ ap (Number W8) (omega arith)) nothing)
  stored_leaves _ (full sign) x n ex within =
      one_more 3 (suc (suc (suc a))) (n / 2 ^ 8 / 2 ^ 8 / 2 ^ 8 % 2 ^ 8) (store (store_half (open_term memory) (address_of o) x) (past (address_of o) 2) (byte_term 2 x))
      (past (address_of o) 3) (byte_term 3 x) (omega arith) (omega arith) (omega arith) (past_at 3 (suc (suc (suc a))) (omega arith) (omega arith))
      (byte_evaluates s 3 x W32 n ex ∙ ap (Number W8) (omega arith))
      (one_more 2 (suc (suc a)) (n / 2 ^ 8 / 2 ^ 8 % 2 ^ 8) (store_half (open_term memory) (address_of o) x) (past (address_of o) 2) (byte_term 2 x)
      (omega arith) (omega arith) (omega arith) (past_at 2 (suc (suc a)) (omega arith) (omega arith)) (byte_evaluates s 2 x W32 n ex ∙ ap (Number W8) (omega arith))
      (one_more 1 (suc a) (n / 2 ^ 8 % 2 ^ 8) (store_byte (open_term memory) (address_of o) x) (past (address_of o) 1) (byte_term 1 x)
      (omega arith) (omega arith) (omega arith) (past_at 1 (suc a) (omega arith) (omega arith)) (byte_evaluates s 1 x W32 n ex ∙ ap (Number W8) (omega arith))
      (one_more 0 a (n % 2 ^ 8) (open_term memory) (address_of o) (byte_term 0 x) (omega arith) (omega arith) (omega arith) (first_at (omega arith))
      (byte_evaluates s 0 x W32 n ex ∙ ap (Number W8) (omega arith)) nothing)))

-- ---- where it may store

none_left : (o : Option Guard) (b : Bool) → option_or o (if b then Some FixedByte else None) ≡ None → b ≡ false
none_left (Some guard) b e = absurd (cc)
none_left None true e = absurd (cc)
none_left None false e = refl

open_value : (s : Assignment) (v : Variable) → value s (open_term v) ≡ s v
unfolding value
open_value s v = refl

module _ (s : Assignment) (sorted : IsAssignment s) (o : Object) (b : ℕ) (below : b < 2 ^ 32) (small : o.displacement < 2 ^ 32) (eb : value s o.base ≡ Number W32 b)
    (unit : Typed) (p : Place) (placed : IsPlace p) (t : Scalar) (plain : IsPlain t) where
  low : (n : ℕ) × (s zone_low ≡ Number W32 n) × (n < 2 ^ 32)
  low = as_word W32 (s zone_low) (sorted zone_low)

  high : (n : ℕ) × (s zone_high ≡ Number W32 n) × (n < 2 ^ 32)
  high = as_word W32 (s zone_high) (sorted zone_high)

  abbrev barred : Zone
  barred = record { low = low.0; high = high.0 }

  abbrev setting : Setting
  setting = setting_at unit p barred

  not_empty : All (λ (r : Run). 0 < length r.bytes) p.runs
  not_empty = All-weaker (λ (r : Run). (0 < length r.bytes) × (r.start + length r.bytes ≤ 2 ^ 32)) (λ (r : Run). 0 < length r.bytes) (λ r is. is.0) p.runs placed.run

  write_is : Granted s (write_tests p.runs t o) (size_of t) (b + o.displacement) (write_guard setting (size_of t) (b + o.displacement))
  write_is = write_granted s o b below small eb setting t plain (open_value s zone_low ∙ low.1) (open_value s zone_high ∙ high.1) p.runs not_empty (λ q. refl)

  pub may_write : all_hold s (write_tests p.runs t o) ≡ true
      → (b + o.displacement + size_of t ≤ 2 ^ 32) × (some_byte (is_fixed p.runs) (size_of t) (b + o.displacement) ≡ false)
  unfolding write_guard
  may_write holds = by (write_guard setting (size_of t) (b + o.displacement)) write_is refl
    where
      unbroken : write_guard setting (size_of t) (b + o.displacement) ≡ None → some_byte (is_fixed p.runs) (size_of t) (b + o.displacement) ≡ false
      unbroken e = none_left _ (some_byte (is_fixed p.runs) (size_of t) (b + o.displacement)) e

      by : (g : Option Guard) → Granted s (write_tests p.runs t o) (size_of t) (b + o.displacement) g → write_guard setting (size_of t) (b + o.displacement) ≡ g
          → (b + o.displacement + size_of t ≤ 2 ^ 32) × (some_byte (is_fixed p.runs) (size_of t) (b + o.displacement) ≡ false)
      by _ (denied guard fails) e = absurd (let bad : true ≡ false = sym holds ∙ fails in cc)
      by _ (granted all within) e = (within, unbroken e)
