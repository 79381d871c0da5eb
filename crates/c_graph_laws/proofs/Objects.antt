-- Objects in memory: when they may be read and written, and what is read and left.
use Rattle.std.proofs.Common.{◌≡◌, ◌∙◌, inl, inr, ℕ, suc, ◌+◌, ◌*◌, ◌/◌, ◌%◌, ◌^◌, ◌<◌, ◌≤◌, ◌==◌, Bool, true, false, not, refl, sym, ap, arith, List, [], ◌∷◌, ◌++◌, length, Option, Some, None, eqb-true}
use Rattle.std.specs.Prelude.{nat_lt, nat_le, ◌&&◌, bit_and, if◌then◌else◌, All}
use Rattle.std.specs.Option.{option_or}
use Rattle.std.specs.FinMap.{insert}
use Rattle.std.proofs.Math.Path.{fun_ext}
use Rattle.std.proofs.lemmas.Bool.{lt-ltb, le-ltb, lt-leb, le-leb, leb-true, cases_lt}
use Rattle.std.proofs.lemmas.Nat.{and_mask}
use Rattle.std.proofs.Math.Nat.{mod-eq_of_lt}
use Rattle.memory_spec.specs.Memory.{Memory, byte_at}
use Rattle.memory_spec.specs.Runs.{Run}
use Rattle.term_core_spec.specs.declared.Width.TheVariants.{W8, W16, W32}
use Rattle.term_core_spec.specs.declared.WordOperator.TheVariants as word_op
use Rattle.term_core_spec.specs.Term.{Term, constant, open_term, not_term, and_term, equal, less, load, store, byte as byte_term, bit_and as and_words}
use Rattle.term_core_spec.specs.Shapes.{past, store_byte, store_half}
use Rattle.term_core_spec.specs.Value.{Truth, Number, Bytes, Assignment, value, operation, with_byte}
use Rattle.graph_core_spec.specs.Run.{is_truth}
use Rattle.decompile_laws.proofs.Values.{byte_evaluates, join_two_evaluates, join_four_evaluates, load_evaluates, store_evaluates}
use Rattle.c_types_spec.specs.declared.Scalar.{Scalar}
use Rattle.rv_machine_spec.specs.Machine as machine
use Rattle.rv_machine_spec.proofs.Memory.{byte_at-store_byte}
use Rattle.c_run_spec.specs.declared.Guard.{Guard}
use Rattle.c_run_spec.specs.declared.Guard.TheVariants.{Access, BarredZone, FixedByte}
use Rattle.c_run_spec.specs.Setting.{Setting}
use Rattle.c_run_spec.specs.Accesses.{is_object, some_byte, in_zone, size_of, bytes_at, with_bytes, read_guard, write_guard}
use Rattle.c_graph_spec.specs.State.{width_of, number, zone_low, zone_high, memory}
use Rattle.c_graph_spec.specs.Values.{Object, address_of, loaded, stored}
use Rattle.c_graph_spec.specs.Guards.{is_accessible, avoids_zone, avoids_fixed, last_byte, read_tests, write_tests}
use Rattle.c_graph_laws.proofs.Extents.{IsPlain, byte, half, full}
use Rattle.c_graph_laws.proofs.Steps.{all_hold}
use Rattle.c_graph_laws.proofs.Evaluates.{constant_is, words_is, less_is, equal_is, not_is, and_is}
use Rattle.c_graph_laws.proofs.Conjunctions.{all_append}
use Rattle.c_graph_laws.proofs.Accesses.{zone_is, fixed_is, is_fixed, some_same}

-- ---- booleans

close : (x y z : Bool) → (y ≡ true → z ≡ true) → ((x && y) && true) ≡ (x && y && z)
close true true z h = sym (h refl)
close true false true h = refl
close true false false h = refl
close false true true h = refl
close false true false h = refl
close false false true h = refl
close false false false h = refl

closed : (x y u v : Bool) → ((x && y) && false) ≡ (u && v && false)
closed true true true true = refl
closed true true true false = refl
closed true true false true = refl
closed true true false false = refl
closed true false true true = refl
closed true false true false = refl
closed true false false true = refl
closed true false false false = refl
closed false true true true = refl
closed false true true false = refl
closed false true false true = refl
closed false true false false = refl
closed false false true true = refl
closed false false true false = refl
closed false false false true = refl
closed false false false false = refl

last_part : (x y z : Bool) → (x && y && z) ≡ true → z ≡ true
last_part true true z e = e
last_part true false true e = absurd (cc)
last_part true false false e = absurd (cc)
last_part false true true e = absurd (cc)
last_part false true false e = absurd (cc)
last_part false false true e = absurd (cc)
last_part false false false e = absurd (cc)

-- ---- objects

abbrev pub size_is : Scalar → ℕ
size_is t = size_of t

-- where an access breaks a guard a test fails; where it breaks none they hold, and it is within the addresses
pub data Granted (s : Assignment) (tests : List Term) (size a : ℕ) : Option Guard → Type 0 where
  denied : (guard : Guard) → all_hold s tests ≡ false → Granted s tests size a (Some guard)
  granted : all_hold s tests ≡ true → a + size ≤ 2 ^ 32 → Granted s tests size a None

module _ (s : Assignment) (o : Object) (b : ℕ) (below : b < 2 ^ 32) (small : o.displacement < 2 ^ 32) (eb : value s o.base ≡ Number W32 b) where
  abbrev a : ℕ
  a = b + o.displacement

  pub address_is : value s (address_of o) ≡ Number W32 (a % 2 ^ 32)
  unfolding operation
  address_is = words_is s word_op.Add W32 o.base (number o.displacement) b o.displacement eb (constant_is s W32 o.displacement)

  accessible_by : (size mask : ℕ) → bit_and (a % 2 ^ 32) mask ≡ a % 2 ^ 32 % size → 0 < size → (a < 2 ^ 32 → (a % size == 0) ≡ true → a + size ≤ 2 ^ 32)
      → value s (and_term (and_term (not_term (equal (address_of o) (number 0))) (equal (and_words (address_of o) (number mask)) (number 0))) (not_term (less (address_of o) o.base)))
      ≡ Truth (is_object size a)
  unfolding operation
  accessible_by size mask masked some within =
      and_is s _ _ (not (a % 2 ^ 32 == 0) && (a % 2 ^ 32 % size == 0)) (not (nat_lt (a % 2 ^ 32) b))
      (and_is s _ _ (not (a % 2 ^ 32 == 0)) (a % 2 ^ 32 % size == 0)
      (not_is s _ (a % 2 ^ 32 == 0) (equal_is s W32 (address_of o) (number 0) (a % 2 ^ 32) 0 address_is (constant_is s W32 0)))
      (equal_is s W32 (and_words (address_of o) (number mask)) (number 0) (bit_and (a % 2 ^ 32) mask) 0 (words_is s word_op.And W32 (address_of o) (number mask) (a % 2 ^ 32) mask address_is (constant_is s W32 mask))
      (constant_is s W32 0) ∙ ap (λ n. Truth (n == 0)) masked))
      (not_is s _ (nat_lt (a % 2 ^ 32) b) (less_is s W32 (address_of o) o.base (a % 2 ^ 32) b address_is eb))
      ∙ ap Truth agree
    where
      agree : ((not (a % 2 ^ 32 == 0) && (a % 2 ^ 32 % size == 0)) && not (nat_lt (a % 2 ^ 32) b)) ≡ is_object size a
      agree = elim (cases_lt a (2 ^ 32)) [
        | inl inside ↦
            let r : a % 2 ^ 32 ≡ a = omega arith in
            rw (r, le-ltb a b (omega arith)) (close (not (a == 0)) (a % size == 0) (nat_le (a + size) (2 ^ 32)) (λ e. le-leb (a + size) (2 ^ 32) (within inside e)))
        | inr outside ↦
            rw (lt-ltb (a % 2 ^ 32) b (omega arith), lt-leb (a + size) (2 ^ 32) (omega arith))
            (closed (not (a % 2 ^ 32 == 0)) (a % 2 ^ 32 % size == 0) (not (a == 0)) (a % size == 0))
      ]

  accessible_is : (t : Scalar) → IsPlain t → value s (is_accessible t o) ≡ Truth (is_object (size_of t) a)
  accessible_is _ (byte sign) = accessible_by 1 0 (and_mask (a % 2 ^ 32) 0) (omega arith) (λ inside e. omega arith)
  accessible_is _ (half sign) = accessible_by 2 1 (and_mask (a % 2 ^ 32) 1) (omega arith) (λ inside e. let m : a % 2 ≡ 0 = eqb-true (a % 2) 0 e in omega arith)
  accessible_is _ (full sign) = accessible_by 4 3 (and_mask (a % 2 ^ 32) 2) (omega arith) (λ inside e. let m : a % 4 ≡ 0 = eqb-true (a % 4) 0 e in omega arith)

  last_is : (t : Scalar) → IsPlain t → a + size_of t ≤ 2 ^ 32 → (e : ℕ) × (e + 1 ≡ a + size_of t) × (0 < size_of t) × (value s (last_byte t o) ≡ Number W32 e)
  unfolding operation
  last_is _ (byte sign) within = (a, refl, omega arith, words_is s word_op.Add W32 (address_of o) (number 0) (a % 2 ^ 32) 0 address_is (constant_is s W32 0) ∙ ap (Number W32) (omega arith))
  last_is _ (half sign) within = (a + 1, omega arith, omega arith, words_is s word_op.Add W32 (address_of o) (number 1) (a % 2 ^ 32) 1 address_is (constant_is s W32 1) ∙ ap (Number W32) (omega arith))
  last_is _ (full sign) within = (a + 3, omega arith, omega arith, words_is s word_op.Add W32 (address_of o) (number 3) (a % 2 ^ 32) 3 address_is (constant_is s W32 3) ∙ ap (Number W32) (omega arith))

  inside_is : (t : Scalar) → IsPlain t → a + size_of t ≤ 2 ^ 32 → value s (address_of o) ≡ Number W32 a
  inside_is _ (byte sign) within = address_is ∙ ap (Number W32) (omega arith)
  inside_is _ (half sign) within = address_is ∙ ap (Number W32) (omega arith)
  inside_is _ (full sign) within = address_is ∙ ap (Number W32) (omega arith)

  -- the tests, by the values that they have
  hold_both : (x y : Term) (p q : Bool) → value s x ≡ Truth p → (p ≡ true → value s y ≡ Truth q) → all_hold s (x ∷ y ∷ []) ≡ (p && q)
  hold_both x y true q ex ey = ap (λ v. is_truth v && (is_truth (value s y) && true)) ex ∙ ap (λ v. is_truth v && true) (ey refl) ∙ any q
    where
      any : (q : Bool) → (q && true) ≡ q
      any true = refl
      any false = refl
  hold_both x y false q ex ey = ap (λ v. is_truth v && (is_truth (value s y) && true)) ex

  module _ (setting : Setting) (t : Scalar) (plain : IsPlain t) (el : value s (open_term zone_low) ≡ Number W32 setting.barred.low) (eh : value s (open_term zone_high) ≡ Number W32 setting.barred.high) where
    abbrev size : ℕ
    size = size_of t

    within_from : is_object size a ≡ true → a + size ≤ 2 ^ 32
    within_from e = leb-true (a + size) (2 ^ 32) (last_part (not (a == 0)) (a % size == 0) (nat_le (a + size) (2 ^ 32)) e)

    zone_value : is_object size a ≡ true → value s (avoids_zone (address_of o) (last_byte t o)) ≡ Truth (not (some_byte (in_zone setting.barred) size a))
    zone_value e =
        let within = within_from e in
        let last = last_is t plain within in
        zone_is s (address_of o) (last_byte t o) a last.0 size last.2 last.1 (inside_is t plain within) last.3 setting.barred el eh

    pub read_granted : Granted s (read_tests t o) size a (read_guard setting size a)
    unfolding read_guard
    read_granted =
        at (is_object size a) (some_byte (in_zone setting.barred) size a) refl
        (hold_both (is_accessible t o) (avoids_zone (address_of o) (last_byte t o)) (is_object size a) (not (some_byte (in_zone setting.barred) size a)) (accessible_is t plain) zone_value)
      where
        at : (p q : Bool) → is_object size a ≡ p → all_hold s (read_tests t o) ≡ (p && not q)
            → Granted s (read_tests t o) size a (if not p then Some Access else if q then Some BarredZone else None)
        at true true e holds = denied BarredZone holds
        at true false e holds = granted holds (within_from e)
        at false q e holds = denied Access holds

    pub write_granted : (runs : List Run) → All (λ (r : Run). 0 < length r.bytes) runs → ((q : ℕ) → setting.is_fixed q ≡ is_fixed runs q)
        → Granted s (write_tests runs t o) size a (write_guard setting size a)
    unfolding write_guard
    write_granted runs any fixed = at (read_guard setting size a) read_granted (some_byte setting.is_fixed size a) refl
      where
        all : all_hold s (write_tests runs t o) ≡ (all_hold s (read_tests t o) && (is_truth (value s (avoids_fixed (address_of o) (last_byte t o) runs)) && true))
        all = all_append s (read_tests t o) (avoids_fixed (address_of o) (last_byte t o) runs ∷ [])

        fixed_value : a + size ≤ 2 ^ 32 → (b : Bool) → some_byte setting.is_fixed size a ≡ b → value s (avoids_fixed (address_of o) (last_byte t o) runs) ≡ Truth (not b)
        fixed_value within b e =
            let last = last_is t plain within in
            fixed_is s (address_of o) (last_byte t o) a last.0 size last.2 last.1 (inside_is t plain within) last.3 runs any
            ∙ ap (λ c. Truth (not c)) (sym (some_same setting.is_fixed (is_fixed runs) fixed size a) ∙ e)

        at : (r : Option Guard) → Granted s (read_tests t o) size a r → (b : Bool) → some_byte setting.is_fixed size a ≡ b
            → Granted s (write_tests runs t o) size a (option_or r (if b then Some FixedByte else None))
        at _ (denied guard fails) b e = denied guard (all ∙ ap (λ c. c && (is_truth (value s (avoids_fixed (address_of o) (last_byte t o) runs)) && true)) fails)
        at _ (granted holds within) true e =
            denied FixedByte (all ∙ ap (λ c. c && (is_truth (value s (avoids_fixed (address_of o) (last_byte t o) runs)) && true)) holds ∙ ap (λ v. is_truth v && true) (fixed_value within true e))
        at _ (granted holds within) false e =
            granted (all ∙ ap (λ c. c && (is_truth (value s (avoids_fixed (address_of o) (last_byte t o) runs)) && true)) holds ∙ ap (λ v. is_truth v && true) (fixed_value within false e)) within

  -- ---- what is read

  module _ (bytes : Memory) (is : value s (open_term memory) ≡ Bytes (byte_at bytes)) (ranged : (q : ℕ) → byte_at bytes q < 2 ^ 8) where
    past_is : (k c : ℕ) → a + k ≡ c → c < 2 ^ 32 → value s (past (address_of o) k) ≡ Number W32 c
    unfolding operation
    past_is k c e inside = words_is s word_op.Add W32 (address_of o) (constant W32 k) (a % 2 ^ 32) k address_is (constant_is s W32 k) ∙ ap (Number W32) (omega arith)

    byte_is : a < 2 ^ 32 → value s (load (open_term memory) (address_of o)) ≡ Number W8 (byte_at bytes a)
    byte_is inside = load_evaluates s (open_term memory) (address_of o) (byte_at bytes) a inside is (address_is ∙ ap (Number W32) (mod-eq_of_lt inside))

    next_is : (k c : ℕ) → a + k ≡ c → c < 2 ^ 32 → value s (load (open_term memory) (past (address_of o) k)) ≡ Number W8 (byte_at bytes c)
    next_is k c e inside = load_evaluates s (open_term memory) (past (address_of o) k) (byte_at bytes) c inside is (past_is k c e inside)

    pub loaded_is : (t : Scalar) → IsPlain t → a + size_of t ≤ 2 ^ 32 → value s (loaded t o) ≡ Number (width_of t) (bytes_at bytes (size_of t) a)
    unfolding bytes_at
    loaded_is _ (byte sign) within = byte_is (omega arith) ∙ ap (Number W8) {y = byte_at bytes a + 2 ^ 8 * 0} (omega arith)
    loaded_is _ (half sign) within =
        join_two_evaluates s (load (open_term memory) (address_of o)) (load (open_term memory) (past (address_of o) 1)) (byte_at bytes a) (byte_at bytes (suc a))
        (ranged a) (ranged (suc a)) (byte_is (omega arith)) (next_is 1 (suc a) (omega arith) (omega arith))
        ∙ ap (Number W16) {y = byte_at bytes a + 2 ^ 8 * (byte_at bytes (suc a) + 2 ^ 8 * 0)} (omega arith)
    loaded_is _ (full sign) within =
        join_four_evaluates s (load (open_term memory) (address_of o)) (load (open_term memory) (past (address_of o) 1)) (load (open_term memory) (past (address_of o) 2)) (load (open_term memory) (past (address_of o) 3))
        (byte_at bytes a) (byte_at bytes (suc a)) (byte_at bytes (suc (suc a))) (byte_at bytes (suc (suc (suc a))))
        (ranged a) (ranged (suc a)) (ranged (suc (suc a))) (ranged (suc (suc (suc a))))
        (byte_is (omega arith)) (next_is 1 (suc a) (omega arith) (omega arith)) (next_is 2 (suc (suc a)) (omega arith) (omega arith)) (next_is 3 (suc (suc (suc a))) (omega arith) (omega arith))
        ∙ ap (Number W32) {y = byte_at bytes a + 2 ^ 8 * (byte_at bytes (suc a) + 2 ^ 8 * (byte_at bytes (suc (suc a)) + 2 ^ 8 * (byte_at bytes (suc (suc (suc a))) + 2 ^ 8 * 0)))} (omega arith)

    -- ---- what is left

    inserted : (m : Memory) (c n : ℕ) → with_byte (byte_at m) c (n % 2 ^ 8) ≡ byte_at (insert m c (n % 2 ^ 8))
    unfolding machine.store_byte
    inserted m c n = sym (fun_ext (λ q. byte_at-store_byte m c n q))

    abbrev store_half_then : Term → Term
    store_half_then x = store (store_half (open_term memory) (address_of o) x) (past (address_of o) 2) (byte_term 2 x)

    one_stored : (m x y : Term) (old : Memory) (c n : ℕ) → c < 2 ^ 32 → value s m ≡ Bytes (byte_at old) → value s x ≡ Number W32 c → value s y ≡ Number W8 (n % 2 ^ 8)
        → value s (store m x y) ≡ Bytes (byte_at (insert old c (n % 2 ^ 8)))
    one_stored m x y old c n inside em ex ey = store_evaluates s m x y (byte_at old) c (n % 2 ^ 8) inside (omega arith) em ex ey ∙ ap Bytes (inserted old c n)

    pub stored_is : (t : Scalar) → IsPlain t → (x : Term) (n : ℕ) → value s x ≡ Number (width_of t) n → a + size_of t ≤ 2 ^ 32
        → value s (stored t o x) ≡ Bytes (byte_at (with_bytes bytes (size_of t) a n))
    unfolding with_bytes
    stored_is _ (byte sign) x n ex within =
        one_stored (open_term memory) (address_of o) (byte_term 0 x) bytes a n (omega arith) is (address_is ∙ ap (Number W32) (mod-eq_of_lt (omega arith)))
        (byte_evaluates s 0 x W8 n ex ∙ ap (Number W8) (omega arith))
    stored_is _ (half sign) x n ex within =
        one_stored (store_byte (open_term memory) (address_of o) x) (past (address_of o) 1) (byte_term 1 x) (insert bytes a (n % 2 ^ 8)) (suc a) (n / 2 ^ 8) (omega arith)
        (one_stored (open_term memory) (address_of o) (byte_term 0 x) bytes a n (omega arith) is (address_is ∙ ap (Number W32) (mod-eq_of_lt (omega arith)))
        (byte_evaluates s 0 x W16 n ex ∙ ap (Number W8) (omega arith)))
        (past_is 1 (suc a) (omega arith) (omega arith)) (byte_evaluates s 1 x W16 n ex ∙ ap (Number W8) (omega arith))
    stored_is _ (full sign) x n ex within =
        one_stored (store_half_then x) (past (address_of o) 3) (byte_term 3 x) _ (suc (suc (suc a))) (n / 2 ^ 8 / 2 ^ 8 / 2 ^ 8) (omega arith)
        (one_stored (store_half (open_term memory) (address_of o) x) (past (address_of o) 2) (byte_term 2 x) (insert (insert bytes a (n % 2 ^ 8)) (suc a) (n / 2 ^ 8 % 2 ^ 8)) (suc (suc a)) (n / 2 ^ 8 / 2 ^ 8) (omega arith)
        (one_stored (store_byte (open_term memory) (address_of o) x) (past (address_of o) 1) (byte_term 1 x) (insert bytes a (n % 2 ^ 8)) (suc a) (n / 2 ^ 8) (omega arith)
        (one_stored (open_term memory) (address_of o) (byte_term 0 x) bytes a n (omega arith) is (address_is ∙ ap (Number W32) (mod-eq_of_lt (omega arith)))
        (byte_evaluates s 0 x W32 n ex ∙ ap (Number W8) (omega arith)))
        (past_is 1 (suc a) (omega arith) (omega arith)) (byte_evaluates s 1 x W32 n ex ∙ ap (Number W8) (omega arith)))
        (past_is 2 (suc (suc a)) (omega arith) (omega arith)) (byte_evaluates s 2 x W32 n ex ∙ ap (Number W8) (omega arith)))
        (past_is 3 (suc (suc (suc a))) (omega arith) (omega arith)) (byte_evaluates s 3 x W32 n ex ∙ ap (Number W8) (omega arith))
