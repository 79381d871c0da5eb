-- The terms of a typed expression evaluate to its value, where all of its tests hold; else it breaks a guard.
use Rattle.std.proofs.Common.{◌≡◌, ◌∙◌, ℕ, suc, ◌+◌, ◌^◌, ◌<◌, ◌==◌, Bool, true, false, not, refl, sym, ap, subst, arith, ℤ, pos, ◌*ℤ◌, List, [], ◌∷◌, ◌++◌, Option, Some, None, Ok, map, unwrap_or, append_assoc, append-nil}
use Rattle.std.specs.Prelude.{◌&&◌, ◌||◌, if◌then◌else◌, All}
use Rattle.std.proofs.lemmas.List.Elements.{All-head, All-tail}
use Rattle.memory_spec.specs.Memory.{Memory, byte_at}
use Rattle.memory_spec.specs.Zones.{Zone}
use Rattle.term_core_spec.specs.declared.Width.TheVariants.{W32}
use Rattle.term_core_spec.specs.declared.Sort.TheVariants as sort
use Rattle.term_core_spec.specs.declared.Variable.{Variable}
use Rattle.term_core_spec.specs.Term.{Term, open_term, constant, truth, not_term, equal, choose}
use Rattle.term_core_spec.specs.Value.{Value, Truth, Number, Bytes, Assignment, IsAssignment, IsOfSort, value}
use Rattle.term_core_spec.proofs.Soundness.{value-sort}
use Rattle.term_core_spec.proofs.Sorts.{as_truth}
use Rattle.graph_core_spec.specs.Run.{is_truth}
use Rattle.c_types_spec.specs.declared.Scalar.{Scalar}
use Rattle.c_types_spec.specs.declared.Arithmetic.{Arithmetic}
use Rattle.c_types_spec.specs.declared.Arithmetic.TheVariants as arithmetic
use Rattle.c_types_spec.specs.declared.Comparison.{Comparison}
use Rattle.c_types_spec.specs.declared.Comparison.TheVariants as comparison
use Rattle.c_types_spec.specs.declared.Direction.{Direction}
use Rattle.c_types_spec.specs.declared.Order.{Order}
use Rattle.c_types_spec.specs.declared.Order.TheVariants.{PointerFirst, IndexFirst}
use Rattle.c_types_spec.specs.Types.{int, word}
use Rattle.c_types_spec.specs.Values.{bits_of, of_bits, same_value, converted, is_of, arithmetic_value, comparison_value, compares}
use Rattle.c_types_spec.specs.Core.{Core, Constant, ReadLocal, GlobalAddress, Load, Target, Convert, Operate, Compare, Move, Within, Aligned, Choose, type_of, Typed}
use Rattle.c_types_spec.specs.HasType as typed
use Rattle.c_types_spec.specs.HasType.{Scope, HasType, is_shift}
use Rattle.c_run_spec.specs.declared.Guard.{Guard}
use Rattle.c_run_spec.specs.declared.Guard.TheVariants as guards
use Rattle.c_run_spec.specs.Setting.{Setting}
use Rattle.c_run_spec.specs.Accesses as access
use Rattle.c_run_spec.specs.Accesses.{size_of, bytes_at, read_guard}
use Rattle.c_run_spec.specs.Evaluation as c
use Rattle.c_run_spec.specs.Evaluation.{Evaluated, Locals, on_result, or_broken, guard_of}
use Rattle.c_graph_spec.specs.State.{width_of, number, value_constant, local, is_set, memory, zone_low, zone_high}
use Rattle.c_graph_spec.specs.Values.{Object, object, at_width, computed, compared, scaled, moved, loaded, Terms, of_word, of_truth, comparison_test, tests_zero, zero_test, is_zero, terms, value_term, truth_term}
use Rattle.c_graph_spec.specs.Guards.{Place, operator_tests, read_tests, is_aligned, is_pointer_moved, is_within, under, tests}
use Rattle.c_graph_laws.proofs.Extents.{scalar, IsPlain, byte, half, full, IsPromoted, promoted, HasExtents}
use Rattle.c_graph_laws.specs.Together.{HasLocal, unset, set, Alike, IsPlace, setting_at}
use Rattle.c_graph_laws.proofs.Steps.{all_hold}
use Rattle.c_graph_laws.proofs.Means.{Means, breaks, means}
use Rattle.c_graph_laws.proofs.Evaluates.{constant_is, equal_is, not_is, or_is, choose_is, one_holds}
use Rattle.c_graph_laws.proofs.Bits.{bits_below, value_back, bits_resized, same_value-true}
use Rattle.c_graph_laws.proofs.Compared.{zero_is}
use Rattle.c_graph_laws.proofs.Operators.{Operated, operated_none, operated_some, plain_means}
use Rattle.c_graph_laws.proofs.Divisions.{IsShift, division_means, shift_means, at_width_is}
use Rattle.c_graph_laws.proofs.Moves.{is_index, is_within_alignment, compared_is, within_is, aligned_is, moved_word, moved_test}
use Rattle.c_graph_laws.proofs.Conjunctions.{all_append}
use Rattle.c_graph_laws.proofs.Objects.{Granted, denied, granted, read_granted, loaded_is}
use Rattle.c_graph_laws.proofs.Sorted.{IsTest, Is32}
use Rattle.c_graph_laws.proofs.ExpressionSorts.{type_is, plain_is, sorted}

-- ---- one part after another

module _ (s : Assignment) where
  -- tests that hold before others
  after_holds : (first list : List Term) (x truth : Term) (t : Scalar) (r : Evaluated) → all_hold s first ≡ true → Means s list x truth t r → Means s (first ++ list) x truth t r
  after_holds first list x truth t _ holds (breaks broken fails) = breaks broken (all_append s first list ∙ ap (λ b. b && all_hold s list) holds ∙ fails)
  after_holds first list x truth t _ holds (means v n small is hold word true_is) = means v n small is (all_append s first list ∙ ap (λ b. b && all_hold s list) holds ∙ hold) word true_is

  stepped : (first list : List Term) (x0 truth0 x truth : Term) (t0 t : Scalar) (r : Evaluated) (next : ℤ → Evaluated) → Means s first x0 truth0 t0 r
      → ((v : ℤ) (n : ℕ) → n < 2 ^ t0.width → v ≡ of_bits t0 n → value s x0 ≡ Number (width_of t0) n → value s truth0 ≡ Truth (not (same_value v (pos 0))) → r ≡ Ok v → Means s list x truth t (next v))
      → Means s (first ++ list) x truth t (on_result r next)
  stepped first list x0 truth0 x truth t0 t _ next (breaks broken fails) on = breaks broken (all_append s first list ∙ ap (λ b. b && all_hold s list) fails)
  stepped first list x0 truth0 x truth t0 t _ next (means v n small is holds word true_is) on = after_holds first list x truth t (next v) holds (on v n small is word true_is refl)

  -- the same where nothing more is tested
  finished : (first : List Term) (x0 truth0 x truth : Term) (t0 t : Scalar) (r : Evaluated) (next : ℤ → Evaluated) → Means s first x0 truth0 t0 r
      → ((v : ℤ) (n : ℕ) → n < 2 ^ t0.width → v ≡ of_bits t0 n → value s x0 ≡ Number (width_of t0) n → value s truth0 ≡ Truth (not (same_value v (pos 0))) → r ≡ Ok v → Means s [] x truth t (next v))
      → Means s first x truth t (on_result r next)
  finished first x0 truth0 x truth t0 t r next m on = subst (λ (l : List Term). Means s l x truth t (on_result r next)) (append-nil first) (stepped first [] x0 truth0 x truth t0 t r next m on)

  word_truth : (t : Scalar) → IsPlain t → (x : Term) (n : ℕ) → n < 2 ^ t.width → value s x ≡ Number (width_of t) n → value s (of_word t x).truth ≡ Truth (not (same_value (of_bits t n) (pos 0)))
  word_truth t plain x n small e =
      not_is s (equal x (constant (width_of t) 0)) (n == 0) (equal_is s (width_of t) x (constant (width_of t) 0) n 0 e (constant_is s (width_of t) 0))
      ∙ ap (λ b. Truth (not b)) (sym (zero_is t plain n small))

  word_means : (t : Scalar) → IsPlain t → (list : List Term) (x : Term) (v : ℤ) (n : ℕ) → n < 2 ^ t.width → v ≡ of_bits t n → all_hold s list ≡ true → value s x ≡ Number (width_of t) n
      → Means s list (of_word t x).word (of_word t x).truth t (Ok v)
  word_means t plain list x v n small is holds e = means v n small is holds e (word_truth t plain x n small e ∙ ap (λ z. Truth (not (same_value z (pos 0)))) (sym is))

  operated_means : (t : Scalar) → IsPlain t → (list : List Term) (x : Term) (r : Option ℤ) (guard : Guard) (offset : ℕ) → Operated s list x t r
      → Means s list (of_word t x).word (of_word t x).truth t (or_broken r guard offset)
  operated_means t plain list x _ guard offset (operated_none fails) = breaks (guard, offset) fails
  operated_means t plain list x _ guard offset (operated_some v k small is holds e) = word_means t plain list x v k small is holds e

  -- ---- arms

  under_one : (condition test : Term) (b q : Bool) → value s condition ≡ Truth b → value s test ≡ Truth q → is_truth (value s (under condition test)) ≡ (if b then q else true)
  under_one condition test b q e d = ap is_truth (or_is s (not_term condition) test (not b) q (not_is s condition b e) d) ∙ at b
    where
      at : (b : Bool) → (not b || q) ≡ (if b then q else true)
      at true = refl
      at false = refl

  under_holds : IsAssignment s → (condition : Term) (b : Bool) → value s condition ≡ Truth b → (list : List Term) → All IsTest list
      → all_hold s (map (under condition) list) ≡ (if b then all_hold s list else true)
  under_holds assignment condition b e [] are = at b
    where
      at : (b : Bool) → true ≡ (if b then true else true)
      at true = refl
      at false = refl
  under_holds assignment condition b e (test ∷ list) are =
      let q = as_truth (value s test) (value-sort s assignment test sort.Truth (All-head IsTest test list are)) in
      ap (λ c. c && all_hold s (map (under condition) list)) (under_one condition test b q.0 e q.1)
      ∙ ap (λ c. (if b then q.0 else true) && c) (under_holds assignment condition b e list (All-tail IsTest test list are))
      ∙ at b q.0 (all_hold s list) ∙ ap (λ c. if b then (c && all_hold s list) else true) (sym (ap is_truth q.1))
    where
      at : (b q r : Bool) → ((if b then q else true) && (if b then r else true)) ≡ (if b then (q && r) else true)
      at true q r = refl
      at false q r = refl

-- ---- comparisons

converted_zero : (t : Scalar) → IsPlain t → converted t (pos 0) ≡ pos 0
unfolding converted
converted_zero _ (byte true) = refl
converted_zero _ (byte false) = refl
converted_zero _ (half true) = refl
converted_zero _ (half false) = refl
converted_zero _ (full true) = refl
converted_zero _ (full false) = refl

-- a constant 0 has the value 0
zero_value : (setting : Setting) (locals : Locals) (bytes : Memory) (target : ℕ) (x : Core) → HasExtents x → is_zero x ≡ true → c.value setting locals bytes target x ≡ Ok (pos 0)
unfolding c.value
zero_value setting locals bytes target (Constant t v) h e = ap Ok (same_value-true v (pos 0) e)
zero_value setting locals bytes target (Convert t operand) h e =
    ap (λ (r : Evaluated). on_result r (λ v. Ok (converted t v))) (zero_value setting locals bytes target operand h.1 e) ∙ ap Ok (converted_zero t h.0)
zero_value setting locals bytes target (ReadLocal t index offset) h e = absurd (cc)
zero_value setting locals bytes target (GlobalAddress name) h e = absurd (cc)
zero_value setting locals bytes target (Load t address displacement offset) h e = absurd (cc)
zero_value setting locals bytes target (Target t offset) h e = absurd (cc)
zero_value setting locals bytes target (Operate operator t left right offset) h e = absurd (cc)
zero_value setting locals bytes target (Compare operator left right) h e = absurd (cc)
zero_value setting locals bytes target (Move direction order size pointer index offset) h e = absurd (cc)
zero_value setting locals bytes target (Within bound index offset) h e = absurd (cc)
zero_value setting locals bytes target (Aligned alignment pointer offset) h e = absurd (cc)
zero_value setting locals bytes target (Choose t test first second) h e = absurd (cc)

module _ (s : Assignment) where
  bool_means : (test : Term) (b : Bool) → value s test ≡ Truth b → Means s [] (of_truth test).word (of_truth test).truth int (Ok (if b then pos 1 else pos 0))
  bool_means test true e = means (pos 1) 1 (omega arith) refl refl (choose_is s test (number 1) (number 0) true (Number W32 1) (Number W32 0) e (constant_is s W32 1) (constant_is s W32 0)) e
  bool_means test false e = means (pos 0) 0 (omega arith) refl refl (choose_is s test (number 1) (number 0) false (Number W32 1) (Number W32 0) e (constant_is s W32 1) (constant_is s W32 0)) e

  twice_not : (b : Bool) → not (not b) ≡ b
  twice_not true = refl
  twice_not false = refl

  comparison_is : (operator : Comparison) (t : Scalar) → IsPlain t → (right : Core) (x y : Terms) (m n : ℕ) (v w : ℤ) → m < 2 ^ t.width → n < 2 ^ t.width → v ≡ of_bits t m → w ≡ of_bits t n
      → value s x.word ≡ Number (width_of t) m → value s x.truth ≡ Truth (not (same_value v (pos 0))) → value s y.word ≡ Number (width_of t) n → (is_zero right ≡ true → w ≡ pos 0)
      → value s (comparison_test operator t right x y) ≡ Truth (compares operator v w)
  comparison_is operator t plain right x y m n v w first second vi wi ex et ey nought = at operator (tests_zero operator right) refl
    where
      plainly : (operator : Comparison) → value s (compared operator t x.word y.word) ≡ Truth (compares operator v w)
      plainly operator =
          compared_is s x.word y.word m n operator t plain first second ex ey
          ∙ ap (λ z. Truth (compares operator z (of_bits t n))) (sym vi) ∙ ap (λ z. Truth (compares operator v z)) (sym wi)

      at : (operator : Comparison) (b : Bool) → tests_zero operator right ≡ b → value s (if b then zero_test operator x.truth else compared operator t x.word y.word) ≡ Truth (compares operator v w)
      at operator false e = plainly operator
      at comparison.Equal true e =
          not_is s x.truth (not (same_value v (pos 0))) et ∙ ap Truth (twice_not (same_value v (pos 0))) ∙ ap (λ z. Truth (same_value v z)) (sym (nought e))
      at comparison.NotEqual true e = et ∙ ap (λ z. Truth (not (same_value v z))) (sym (nought e))
      at comparison.Less true e = absurd (cc)
      at comparison.Greater true e = absurd (cc)
      at comparison.LessOrEqual true e = absurd (cc)
      at comparison.GreaterOrEqual true e = absurd (cc)

-- ---- expressions

bytes_below : (bytes : Memory) → ((q : ℕ) → byte_at bytes q < 2 ^ 8) → (t : Scalar) → IsPlain t → (a : ℕ) → bytes_at bytes (size_of t) a < 2 ^ t.width
unfolding bytes_at
bytes_below bytes ranged _ (byte sign) a = omega (arith, ranged a)
bytes_below bytes ranged _ (half sign) a = omega (arith, ranged a, ranged (suc a))
bytes_below bytes ranged _ (full sign) a = omega (arith, ranged a, ranged (suc a), ranged (suc (suc a)), ranged (suc (suc (suc a))))

pub global_small : (p : Place) → IsPlace p → (name : List ℕ) → unwrap_or (p.globals name) 0 < 2 ^ 32
global_small p placed name = at (p.globals name) refl
  where
    at : (o : Option ℕ) → p.globals name ≡ o → unwrap_or o 0 < 2 ^ 32
    at None e = omega arith
    at (Some address) e = placed.global name address e

module _ (unit : Typed) (p : Place) (placed : IsPlace p) (zone : Zone) (scope : Scope) (locals : Locals) (bytes : Memory) (s : Assignment) (alike : Alike scope.locals locals bytes zone s) where
  abbrev setting : Setting
  setting = setting_at unit p zone

  pub ranged : (q : ℕ) → byte_at bytes q < 2 ^ 8
  ranged q = of_memory (s memory) (alike.sorted memory) alike.memory_is
    where
      of_memory : (v : Value) → IsOfSort sort.Memory v → v ≡ Bytes (byte_at bytes) → byte_at bytes q < 2 ^ 8
      of_memory v is e = (subst (IsOfSort sort.Memory) e is) q

  pub open_is : (x : Variable) → value s (open_term x) ≡ s x
  unfolding value
  open_is x = refl

  pub memory_value : value s (open_term memory) ≡ Bytes (byte_at bytes)
  memory_value = open_is memory ∙ alike.memory_is

  read_means : (t : Scalar) → IsPlain t → (o : Object) (b offset : ℕ) → b < 2 ^ 32 → o.displacement < 2 ^ 32 → value s o.base ≡ Number W32 b
      → Means s (read_tests t o) (of_word t (loaded t o)).word (of_word t (loaded t o)).truth t (access.object_value setting bytes t (b + o.displacement) offset)
  unfolding access.object_value
  read_means t plain o b offset below small eb =
      at (read_guard setting (size_of t) (b + o.displacement)) (read_granted s o b below small eb setting t plain (open_is zone_low ∙ alike.low_is) (open_is zone_high ∙ alike.high_is))
    where
      at : (r : Option Guard) → Granted s (read_tests t o) (size_of t) (b + o.displacement) r
          → Means s (read_tests t o) (of_word t (loaded t o)).word (of_word t (loaded t o)).truth t (access.unless r offset (of_bits t (bytes_at bytes (size_of t) (b + o.displacement))))
      at _ (denied guard fails) = breaks (guard, offset) fails
      at _ (granted holds within) =
          word_means s t plain (read_tests t o) (loaded t o) (of_bits t (bytes_at bytes (size_of t) (b + o.displacement))) (bytes_at bytes (size_of t) (b + o.displacement))
          (bytes_below bytes ranged t plain (b + o.displacement)) refl holds (loaded_is s o b below small eb bytes memory_value ranged t plain within)

  local_means : (t : Scalar) → IsPlain t → (index offset : ℕ) (v : Option ℤ) → HasLocal s index t v
      → Means s (open_term (is_set index) ∷ []) (of_word t (open_term (local index t))).word (of_word t (open_term (local index t))).truth t (c.local_value (Some v) offset)
  unfolding c.local_value
  local_means t plain index offset _ (unset is) = breaks (guards.UnsetLocal, offset) (one_holds s (open_term (is_set index)) false (open_is (is_set index) ∙ is))
  local_means t plain index offset _ (set v is has) =
      word_means s t plain _ (open_term (local index t)) v has.bits has.below has.value_is (one_holds s (open_term (is_set index)) true (open_is (is_set index) ∙ is)) (open_is (local index t) ∙ has.word)

  module _ (o : Object) (b : ℕ) (below : b < 2 ^ 32) (small : o.displacement < 2 ^ 32) (eb : value s o.base ≡ Number W32 b) (base_sorted : Is32 o.base) (target : Option Scalar) where
    abbrev Meant : Core → Scalar → Type 0
    Meant x t = Means s (tests p.globals o x) (value_term p.globals o x) (truth_term p.globals o x) t (c.value setting locals bytes (b + o.displacement) x)

    -- ---- operators

    plain_or_division : (operator : Arithmetic) (sign : Bool) (x y : Term) (m n : ℕ) → is_shift operator ≡ false → m < 2 ^ 32 → n < 2 ^ 32 → value s x ≡ Number W32 m → value s y ≡ Number W32 n
        → Operated s (operator_tests operator (scalar 32 sign) (scalar 32 sign) x y) (computed operator (scalar 32 sign) x y) (scalar 32 sign)
        (arithmetic_value operator (scalar 32 sign) (of_bits (scalar 32 sign) m) (of_bits (scalar 32 sign) n))
    plain_or_division arithmetic.Add sign x y m n plainly first second ex ey = plain_means s x y m n first second ex ey arithmetic.Add sign tt
    plain_or_division arithmetic.Subtract sign x y m n plainly first second ex ey = plain_means s x y m n first second ex ey arithmetic.Subtract sign tt
    plain_or_division arithmetic.Multiply sign x y m n plainly first second ex ey = plain_means s x y m n first second ex ey arithmetic.Multiply sign tt
    plain_or_division arithmetic.And sign x y m n plainly first second ex ey = plain_means s x y m n first second ex ey arithmetic.And sign tt
    plain_or_division arithmetic.Or sign x y m n plainly first second ex ey = plain_means s x y m n first second ex ey arithmetic.Or sign tt
    plain_or_division arithmetic.Xor sign x y m n plainly first second ex ey = plain_means s x y m n first second ex ey arithmetic.Xor sign tt
    plain_or_division arithmetic.Divide sign x y m n plainly first second ex ey = division_means s x y m n first second ex ey arithmetic.Divide sign tt (scalar 32 sign)
    plain_or_division arithmetic.Remainder sign x y m n plainly first second ex ey = division_means s x y m n first second ex ey arithmetic.Remainder sign tt (scalar 32 sign)
    plain_or_division arithmetic.ShiftLeft sign x y m n plainly first second ex ey = absurd (cc)
    plain_or_division arithmetic.ShiftRight sign x y m n plainly first second ex ey = absurd (cc)

    two_values : (list : List Term) (x : Term) (t u v : Scalar) (operator : Arithmetic) (a b : ℤ) (m n : ℕ) → a ≡ of_bits u m → b ≡ of_bits v n
        → Operated s list x t (arithmetic_value operator t (of_bits u m) (of_bits v n)) → Operated s list x t (arithmetic_value operator t a b)
    two_values list x t u v operator a b m n ea ed h =
        subst (λ (z : ℤ). Operated s list x t (arithmetic_value operator t z b)) (sym ea) (subst (λ (z : ℤ). Operated s list x t (arithmetic_value operator t (of_bits u m) z)) (sym ed) h)

    operate_means : (operator : Arithmetic) (t : Scalar) (left right : Core) (offset : ℕ) → is_shift operator ≡ false → IsPromoted t → type_of right ≡ t → Meant left t → Meant right t
        → Meant (Operate operator t left right offset) t
    unfolding tests terms c.value c.operated
    operate_means operator _ left right offset plainly (promoted sign) e a d =
        let x = value_term p.globals o left in
        let y = value_term p.globals o right in
        subst (λ (u : Scalar). Means s (tests p.globals o left ++ (tests p.globals o right ++ operator_tests operator (scalar 32 sign) u x y))
        (of_word (scalar 32 sign) (computed operator (scalar 32 sign) x (at_width u W32 y))).word (of_word (scalar 32 sign) (computed operator (scalar 32 sign) x (at_width u W32 y))).truth (scalar 32 sign)
        (c.value setting locals bytes (b + o.displacement) (Operate operator (scalar 32 sign) left right offset))) (sym e)
        (stepped s (tests p.globals o left) (tests p.globals o right ++ operator_tests operator (scalar 32 sign) (scalar 32 sign) x y) x (truth_term p.globals o left) _ _ (scalar 32 sign) (scalar 32 sign)
        (c.value setting locals bytes (b + o.displacement) left) _ a (λ v m first vi ex tx is_v.
        stepped s (tests p.globals o right) (operator_tests operator (scalar 32 sign) (scalar 32 sign) x y) y (truth_term p.globals o right) _ _ (scalar 32 sign) (scalar 32 sign)
        (c.value setting locals bytes (b + o.displacement) right) _ d (λ w n second wi ey ty is_w.
        operated_means s (scalar 32 sign) (full sign) _ (computed operator (scalar 32 sign) x y) (arithmetic_value operator (scalar 32 sign) v w) (guard_of operator) offset
        (two_values _ _ (scalar 32 sign) (scalar 32 sign) (scalar 32 sign) operator v w m n vi wi (plain_or_division operator sign x y m n plainly first second ex ey)))))

    shift_by : (operator : Arithmetic) → is_shift operator ≡ true → IsShift operator
    shift_by arithmetic.ShiftLeft yes_it = tt
    shift_by arithmetic.ShiftRight yes_it = tt
    shift_by arithmetic.Add yes_it = absurd (cc)
    shift_by arithmetic.Subtract yes_it = absurd (cc)
    shift_by arithmetic.Multiply yes_it = absurd (cc)
    shift_by arithmetic.Divide yes_it = absurd (cc)
    shift_by arithmetic.Remainder yes_it = absurd (cc)
    shift_by arithmetic.And yes_it = absurd (cc)
    shift_by arithmetic.Or yes_it = absurd (cc)
    shift_by arithmetic.Xor yes_it = absurd (cc)

    shifting_means : (operator : Arithmetic) (t : Scalar) (left right : Core) (offset : ℕ) → is_shift operator ≡ true → IsPromoted t → IsPlain (type_of right) → Meant left t → Meant right (type_of right)
        → Meant (Operate operator t left right offset) t
    unfolding tests terms c.value c.operated
    shifting_means operator _ left right offset shifts (promoted sign) plain a d =
        let x = value_term p.globals o left in
        let y = value_term p.globals o right in
        stepped s (tests p.globals o left) (tests p.globals o right ++ operator_tests operator (scalar 32 sign) (type_of right) x y) x (truth_term p.globals o left) _ _ (scalar 32 sign) (scalar 32 sign)
        (c.value setting locals bytes (b + o.displacement) left) _ a (λ v m first vi ex tx is_v.
        stepped s (tests p.globals o right) (operator_tests operator (scalar 32 sign) (type_of right) x y) y (truth_term p.globals o right) _ _ (type_of right) (scalar 32 sign)
        (c.value setting locals bytes (b + o.displacement) right) _ d (λ w n second wi ey ty is_w.
        operated_means s (scalar 32 sign) (full sign) _ (computed operator (scalar 32 sign) x (at_width (type_of right) W32 y)) (arithmetic_value operator (scalar 32 sign) v w) (guard_of operator) offset
        (two_values _ _ (scalar 32 sign) (scalar 32 sign) (type_of right) operator v w m n vi wi (shift_means s x y m n sign (type_of right) plain first second ex ey operator (shift_by operator shifts)))))

    -- ---- tests of a value

    tested_means : (test : Term) (passes : Bool) (x truth_x : Term) (t : Scalar) (v : ℤ) (n : ℕ) (guard : Guard) (offset : ℕ) → value s test ≡ Truth passes
        → (passes ≡ true → (n < 2 ^ t.width) × (v ≡ of_bits t n) × (value s x ≡ Number (width_of t) n) × (value s truth_x ≡ Truth (not (same_value v (pos 0)))))
        → Means s (test ∷ []) x truth_x t (c.tested passes v guard offset)
    tested_means test true x truth_x t v n guard offset e gives = let g = gives refl in means v n g.0 g.1 (one_holds s test true e) g.2 g.3
    tested_means test false x truth_x t v n guard offset e gives = breaks (guard, offset) (one_holds s test false e)

    pointer_means : (direction : Direction) (size : ℕ) → size < 2 ^ 31 → (x y : Term) (m n : ℕ) (u : Scalar) → IsPlain u → (v w : ℤ) (offset : ℕ) → m < 2 ^ 32 → n < 2 ^ u.width
        → v ≡ pos m → w ≡ of_bits u n → value s x ≡ Number W32 m → value s y ≡ Number (width_of u) n
        → Means s (is_pointer_moved direction size x u y ∷ []) (of_word word (moved direction x (scaled W32 size (at_width u W32 y)))).word
        (of_word word (moved direction x (scaled W32 size (at_width u W32 y)))).truth word (c.moved direction size v w offset)
    unfolding c.moved
    pointer_means direction size few x y m n u plain v w offset first second vi wi ex ey =
        subst (λ (z : ℤ). Means s (is_pointer_moved direction size x u y ∷ []) (of_word word result).word (of_word word result).truth word (c.moved direction size z w offset)) (sym vi)
        (subst (λ (z : ℤ). Means s (is_pointer_moved direction size x u y ∷ []) (of_word word result).word (of_word word result).truth word (c.moved direction size (pos m) z offset)) (sym wi)
        (tested_means (is_pointer_moved direction size x u y) (is_of word sum) (of_word word result).word (of_word word result).truth word sum (bits_of 32 sum) guards.PointerRange offset
        (moved_test s x y m n size u plain few first second ex ey direction)
        (λ fits.
        let back = value_back word sum fits in
        let is_word = moved_word s x y m n size u plain few first second ex ey direction in
        (bits_below 32 sum, back, is_word, word_truth s word (full false) result (bits_of 32 sum) (bits_below 32 sum) is_word ∙ ap (λ z. Truth (not (same_value z (pos 0)))) (sym back)))))
      where
        result : Term
        result = moved direction x (scaled W32 size (at_width u W32 y))

        sum : ℤ
        sum = c.sum_of direction (pos m) (of_bits u n *ℤ pos size)

    move_means : (direction : Direction) (order : Order) (size : ℕ) (pointer index : Core) (offset : ℕ) → size < 2 ^ 31 → IsPlain (type_of index) → Meant pointer word → Meant index (type_of index)
        → Meant (Move direction order size pointer index offset) word
    unfolding tests terms c.value
    move_means direction PointerFirst size pointer index offset few plain a d =
        let x = value_term p.globals o pointer in
        let y = value_term p.globals o index in
        let last = is_pointer_moved direction size x (type_of index) y ∷ [] in
        subst (λ (l : List Term). Means s l (of_word word (moved direction x (scaled W32 size (at_width (type_of index) W32 y)))).word
        (of_word word (moved direction x (scaled W32 size (at_width (type_of index) W32 y)))).truth word (c.value setting locals bytes (b + o.displacement) (Move direction PointerFirst size pointer index offset)))
        (sym (append_assoc (tests p.globals o pointer) (tests p.globals o index) last))
        (stepped s (tests p.globals o pointer) (tests p.globals o index ++ last) x (truth_term p.globals o pointer) _ _ word word (c.value setting locals bytes (b + o.displacement) pointer) _ a (λ v m first vi ex tx is_v.
        stepped s (tests p.globals o index) last y (truth_term p.globals o index) _ _ (type_of index) word (c.value setting locals bytes (b + o.displacement) index) _ d (λ w n second wi ey ty is_w.
        pointer_means direction size few x y m n (type_of index) plain v w offset first second vi wi ex ey)))
    move_means direction IndexFirst size pointer index offset few plain a d =
        let x = value_term p.globals o pointer in
        let y = value_term p.globals o index in
        let last = is_pointer_moved direction size x (type_of index) y ∷ [] in
        subst (λ (l : List Term). Means s l (of_word word (moved direction x (scaled W32 size (at_width (type_of index) W32 y)))).word
        (of_word word (moved direction x (scaled W32 size (at_width (type_of index) W32 y)))).truth word (c.value setting locals bytes (b + o.displacement) (Move direction IndexFirst size pointer index offset)))
        (sym (append_assoc (tests p.globals o index) (tests p.globals o pointer) last))
        (stepped s (tests p.globals o index) (tests p.globals o pointer ++ last) y (truth_term p.globals o index) _ _ (type_of index) word (c.value setting locals bytes (b + o.displacement) index) _ d (λ w n second wi ey ty is_w.
        stepped s (tests p.globals o pointer) last x (truth_term p.globals o pointer) _ _ word word (c.value setting locals bytes (b + o.displacement) pointer) _ a (λ v m first vi ex tx is_v.
        pointer_means direction size few x y m n (type_of index) plain v w offset first second vi wi ex ey)))

    -- ---- a comparison

    ok_same : (r : Evaluated) (v w : ℤ) → r ≡ Ok v → r ≡ Ok w → v ≡ w
    ok_same r v w e d = cc

    finished_two : (operator : Comparison) (left right : Core) → HasExtents left → HasExtents right → Meant left (type_of left) → Meant right (type_of left) → Meant (Compare operator left right) int
    unfolding tests terms c.value comparison_value
    finished_two operator left right hl hr a d =
        let x = terms p.globals o left in
        let y = terms p.globals o right in
        let test = comparison_test operator (type_of left) right x y in
        stepped s (tests p.globals o left) (tests p.globals o right) x.word x.truth (of_truth test).word (of_truth test).truth (type_of left) int (c.value setting locals bytes (b + o.displacement) left) _ a
        (λ v m first vi ex tx is_v.
        finished s (tests p.globals o right) y.word y.truth (of_truth test).word (of_truth test).truth (type_of left) int (c.value setting locals bytes (b + o.displacement) right) _ d
        (λ w n second wi ey ty is_w.
        bool_means s test (compares operator v w)
        (comparison_is s operator (type_of left) (plain_is left hl) right x y m n v w first second vi wi ex tx ey
        (λ nought. ok_same (c.value setting locals bytes (b + o.displacement) right) w (pos 0) is_w (zero_value setting locals bytes (b + o.displacement) right hr nought)))))

    -- ---- a choice

    -- the same under other terms
    arm : (list other : List Term) (x y tx ty : Term) (t : Scalar) (r : Evaluated) → all_hold s other ≡ all_hold s list → value s y ≡ value s x → value s ty ≡ value s tx → Means s list x tx t r → Means s other y ty t r
    arm list other x y tx ty t _ same ex et (breaks broken fails) = breaks broken (same ∙ fails)
    arm list other x y tx ty t _ same ex et (means v n small is holds word_is true_is) = means v n small is (same ∙ holds) (ex ∙ word_is) (et ∙ true_is)

    true_and : (b : Bool) → (b && true) ≡ b
    true_and true = refl
    true_and false = refl

    chosen_means : (condition : Term) (nil : Bool) → value s condition ≡ Truth (not nil) → (first second : List Term) → All IsTest first → All IsTest second → (x y : Terms) (t : Scalar) (q r : Evaluated)
        → Means s first x.word x.truth t q → Means s second y.word y.truth t r
        → Means s (map (under condition) first ++ map (under (not_term condition)) second) (choose condition x.word y.word) (choose condition x.truth y.truth) t (if nil then r else q)
    chosen_means condition true e first second are_first are_second x y t q r m n =
        arm second _ y.word (choose condition x.word y.word) y.truth (choose condition x.truth y.truth) t r
        (all_append s (map (under condition) first) (map (under (not_term condition)) second)
        ∙ ap (λ b. b && all_hold s (map (under (not_term condition)) second)) (under_holds s alike.sorted condition false e first are_first)
        ∙ under_holds s alike.sorted (not_term condition) true (not_is s condition false e) second are_second)
        (choose_is s condition x.word y.word false (value s x.word) (value s y.word) e refl refl) (choose_is s condition x.truth y.truth false (value s x.truth) (value s y.truth) e refl refl) n
    chosen_means condition false e first second are_first are_second x y t q r m n =
        arm first _ x.word (choose condition x.word y.word) x.truth (choose condition x.truth y.truth) t q
        (all_append s (map (under condition) first) (map (under (not_term condition)) second)
        ∙ ap (λ b. b && all_hold s (map (under (not_term condition)) second)) (under_holds s alike.sorted condition true e first are_first)
        ∙ ap (λ b. all_hold s first && b) (under_holds s alike.sorted (not_term condition) false (not_is s condition true e) second are_second) ∙ true_and (all_hold s first))
        (choose_is s condition x.word y.word true (value s x.word) (value s y.word) e refl refl) (choose_is s condition x.truth y.truth true (value s x.truth) (value s y.truth) e refl refl) m

    pub meant : (x : Core) (t : Scalar) → HasType scope target x t → HasExtents x → Meant x t
    unfolding tests terms c.value converted c.within c.aligned
    meant _ _ (typed.constant t v narrow is) h = word_means s t h [] (value_constant t v) v (bits_of t.width v) (bits_below t.width v) (value_back t v is) refl (constant_is s (width_of t) (bits_of t.width v))
    meant _ _ (typed.read_local t index offset narrow is) h =
        let there = alike.local_there index t is in
        subst (λ (r : Option (Option ℤ)). Means s (open_term (is_set index) ∷ []) (of_word t (open_term (local index t))).word (of_word t (open_term (local index t))).truth t (c.local_value r offset)) (sym there.1)
        (local_means t h index offset there.0 (alike.local_is index t there.0 is there.1))
    meant _ _ (typed.global_address name is) h =
        word_means s word (full false) [] (number (unwrap_or (p.globals name) 0)) (pos (unwrap_or (p.globals name) 0)) (unwrap_or (p.globals name) 0) (global_small p placed name) refl refl
        (constant_is s W32 (unwrap_or (p.globals name) 0))
    meant _ _ (typed.load t address displacement offset narrow a) h =
        let x = value_term p.globals o address in
        stepped s (tests p.globals o address) (read_tests t (object x displacement)) x (truth_term p.globals o address) _ _ word t (c.value setting locals bytes (b + o.displacement) address) _ (meant address word a h.2)
        (λ v n first vi ex tx is_v.
        subst (λ (z : ℤ). Means s (read_tests t (object x displacement)) (of_word t (loaded t (object x displacement))).word (of_word t (loaded t (object x displacement))).truth t
        (access.object_value setting bytes t (access.address_of z + displacement) offset)) (sym vi) (read_means t h.0 (object x displacement) n offset first (omega (arith, h.1)) ex))
    meant _ _ (typed.stored_to t offset narrow is) h = read_means t h o b offset below small eb
    meant _ _ (typed.convert t source operand narrow a) h =
        let x = value_term p.globals o operand in
        let e = type_is scope target operand source a in
        let plain = subst IsPlain e (plain_is operand h.1) in
        finished s (tests p.globals o operand) x (truth_term p.globals o operand) _ _ source t (c.value setting locals bytes (b + o.displacement) operand) _ (meant operand source a h.1)
        (λ v n first vi ex tx is_v.
        word_means s t h.0 [] (at_width (type_of operand) (width_of t) x) (converted t v) (bits_of t.width v) (bits_below t.width v) refl refl
        (subst (λ (u : Scalar). value s (at_width u (width_of t) x) ≡ Number (width_of t) (bits_of t.width v)) (sym e)
        (at_width_is s source t plain h.0 x n ex ∙ ap (Number (width_of t)) (sym (ap (bits_of t.width) vi ∙ bits_resized source t plain h.0 n first)))))
    meant _ _ (typed.operate operator t left right offset plain is_promoted a d) h = operate_means operator t left right offset plain h.0 (type_is scope target right t d) (meant left t a h.1) (meant right t d h.2)
    meant _ _ (typed.shift operator t count left right offset shifts is_promoted a d) h =
        shifting_means operator t left right offset shifts h.0 (plain_is right h.2) (meant left t a h.1)
        (subst (λ (u : Scalar). Meant right u) (sym (type_is scope target right count d)) (meant right count d h.2))
    meant _ _ (typed.compare operator t left right a d) h =
        let e = type_is scope target left t a in
        finished_two operator left right h.0 h.1 (subst (λ (u : Scalar). Meant left u) (sym e) (meant left t a h.0)) (subst (λ (u : Scalar). Meant right u) (sym e) (meant right t d h.1))
    meant _ _ (typed.move direction order size t pointer index offset a d) h =
        move_means direction order size pointer index offset h.0 (plain_is index h.2) (meant pointer word a h.1)
        (subst (λ (u : Scalar). Meant index u) (sym (type_is scope target index t d)) (meant index t d h.2))
    meant _ _ (typed.within bound t index offset a) h =
        let x = value_term p.globals o index in
        let e = type_is scope target index t a in
        let plain = subst IsPlain e (plain_is index h.1) in
        stepped s (tests p.globals o index) (is_within bound (type_of index) x ∷ []) x (truth_term p.globals o index) _ _ t t (c.value setting locals bytes (b + o.displacement) index) _ (meant index t a h.1)
        (λ v n first vi ex tx is_v.
        tested_means (is_within bound (type_of index) x) (is_index bound v) x (truth_term p.globals o index) t v n guards.Index offset
        (subst (λ (u : Scalar). value s (is_within bound u x) ≡ Truth (is_index bound v)) (sym e)
        (within_is s t plain x bound n h.0 first ex ∙ ap (λ z. Truth (is_index bound z)) (sym vi)))
        (λ passes. (first, vi, ex, tx)))
    meant _ _ (typed.aligned alignment pointer offset is_alignment a) h =
        let x = value_term p.globals o pointer in
        stepped s (tests p.globals o pointer) (is_aligned alignment x ∷ []) x (truth_term p.globals o pointer) _ _ word word (c.value setting locals bytes (b + o.displacement) pointer) _ (meant pointer word a h.1)
        (λ v n first vi ex tx is_v.
        tested_means (is_aligned alignment x) (is_within_alignment alignment (access.address_of v)) x (truth_term p.globals o pointer) word v n guards.Access offset
        (aligned_is s x n alignment h.0 ex ∙ ap (λ z. Truth (is_within_alignment alignment (access.address_of z))) (sym vi))
        (λ passes. (first, vi, ex, tx)))
    meant _ _ (typed.choose t tested test first second a d e) h =
        stepped s (tests p.globals o test) _ (value_term p.globals o test) (truth_term p.globals o test) _ _ tested t (c.value setting locals bytes (b + o.displacement) test) _ (meant test tested a h.1)
        (λ v n small_n vi ex tx is_v.
        chosen_means (truth_term p.globals o test) (same_value v (pos 0)) tx (tests p.globals o first) (tests p.globals o second)
        (sorted p.globals (global_small p placed) o base_sorted small scope target first t d h.2).tests (sorted p.globals (global_small p placed) o base_sorted small scope target second t e h.3).tests
        (terms p.globals o first) (terms p.globals o second) t _ _ (meant first t d h.2) (meant second t e h.3))
