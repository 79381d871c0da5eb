-- Terms of C expressions speak of locals, whether they are set, memory and the zone's ends.
use Rattle.std.proofs.Common.{◌≡◌, ◌&&◌, ◌||◌, ℕ, ◌+◌, ◌-◌, ◌^◌, ◌==◌, Bool, true, false, if◌then◌else◌, refl, List, [], ◌∷◌, length, map, All, Option, Some, None}
use Rattle.std.specs.Prelude.{not, nat_lt, unwrap_or}
use Rattle.std.proofs.lemmas.List.Elements.{All-nil, All-cons, All-append}
use Rattle.memory_spec.specs.Runs.{Run}
use Rattle.term_core_spec.specs.declared.Width.{Width}
use Rattle.term_core_spec.specs.declared.Width.TheVariants.{W32, W64}
use Rattle.term_core_spec.specs.declared.Family.{Family}
use Rattle.term_core_spec.specs.declared.Family.TheVariants as family
use Rattle.term_core_spec.specs.declared.Variable.{Variable}
use Rattle.term_core_spec.specs.Same.{same_variable}
use Rattle.term_core_spec.specs.Sort.{bits}
use Rattle.term_core_spec.specs.Term.{Term, Occurs, constant, open_term, not_term, and_term, or_term, equal, less, add, subtract, multiply, bit_and, zero_extend, sign_extend, low}
use Rattle.term_core_spec.specs.Shapes.{sign_bit, signed_less}
use Rattle.c_types_spec.specs.declared.Scalar.{Scalar}
use Rattle.c_types_spec.specs.declared.Arithmetic.{Arithmetic}
use Rattle.c_types_spec.specs.declared.Arithmetic.TheVariants as arithmetic
use Rattle.c_types_spec.specs.declared.Comparison.{Comparison}
use Rattle.c_types_spec.specs.declared.Comparison.TheVariants as comparison
use Rattle.c_types_spec.specs.declared.Direction.{Direction}
use Rattle.c_types_spec.specs.declared.Direction.TheVariants.{Up, Down}
use Rattle.c_types_spec.specs.declared.Order.{Order}
use Rattle.c_types_spec.specs.declared.Order.TheVariants.{PointerFirst, IndexFirst}
use Rattle.c_types_spec.specs.Types.{word}
use Rattle.c_types_spec.specs.Core.{Core, Constant, ReadLocal, GlobalAddress, Load, Target, Convert, Operate, Compare, Move, Within, Aligned, Choose, type_of}
use Rattle.c_graph_spec.specs.State.{width_of, local, is_set, memory, zone_low, zone_high, number, value_constant}
use Rattle.c_graph_spec.specs.Values.{Globals, Object, object, address_of, at_width, places, computed, less_of, compared, set_if, exponent, scaled_by, scaled, moved, loaded, stored, tests_zero, zero_test, Terms, of_word, comparison_test, terms, value_term, truth_term}
use Rattle.c_graph_spec.specs.Guards.{sum_fits, difference_fits, product_fits, is_divisor, has_quotient, count_test, operator_tests, is_multiple, is_aligned, bytes, is_accessible, last_byte, avoids_zone, avoids_run, avoids_fixed, read_tests, write_tests, is_pointer_moved, is_within, under, in_order, tests}
use Rattle.sim_rules_spec.specs.Points.{is_source}
use Rattle.c_graph_laws.proofs.Conjunctions.{conjunction_all}
use Rattle.validity_laws.proofs.Speaking.{const_own, truth_own, open_own, one_own, two_own, three_own, either_own, all_map, one_test, signed_less_own, quotient_own, remainder_own, load_own, load_half_own, load_word_own, store_byte_own, store_half_own, store_word_own}

abbrev pub is_source_memory : Family → Bool
is_source_memory family.SourceMemory = true
is_source_memory f = false

-- of the source, and its only memory
abbrev pub is_spoken : Variable → Bool
is_spoken v = is_source v.family && (not (is_source_memory v.family) || same_variable v memory)

-- and none of an inlined call
abbrev pub is_first : Variable → Bool
is_first v = is_spoken v && (v.instance == 0)

abbrev pub Own : Term → Type 0
Own t = (v : Variable) → Occurs v t → is_first v ≡ true

number_own : (n : ℕ) → Own (number n)
number_own n = const_own is_first W32 n

memory_own : Own (open_term memory)
memory_own = open_own is_first memory refl

pub width_own : (source : Scalar) (w : Width) (x : Term) → Own x → Own (at_width source w x)
width_own source w x h =
    either_own is_first (nat_lt source.width (bits w)) (if source.is_signed then sign_extend w x else zero_extend w x) (if nat_lt (bits w) source.width then low w x else x)
    (either_own is_first source.is_signed (sign_extend w x) (zero_extend w x) (one_own is_first _ x h) (one_own is_first _ x h))
    (either_own is_first (nat_lt (bits w) source.width) (low w x) x (one_own is_first _ x h) h)

address_own : (o : Object) → Own o.base → Own (address_of o)
address_own o h = two_own is_first _ o.base (number o.displacement) h (number_own o.displacement)

places_own : (w : Width) (y : Term) → Own y → Own (places w y)
places_own w y h = two_own is_first _ y (constant w (bits w - 1)) h (const_own is_first w _)

computed_own : (operator : Arithmetic) (type : Scalar) (x y : Term) → Own x → Own y → Own (computed operator type x y)
unfolding computed
computed_own arithmetic.Add type x y h k = two_own is_first _ x y h k
computed_own arithmetic.Subtract type x y h k = two_own is_first _ x y h k
computed_own arithmetic.Multiply type x y h k = two_own is_first _ x y h k
computed_own arithmetic.Divide type x y h k = either_own is_first type.is_signed _ _ (quotient_own is_first x y h k) (two_own is_first _ x y h k)
computed_own arithmetic.Remainder type x y h k = either_own is_first type.is_signed _ _ (remainder_own is_first x y h k) (two_own is_first _ x y h k)
computed_own arithmetic.ShiftLeft type x y h k = two_own is_first _ x (places (width_of type) y) h (places_own (width_of type) y k)
computed_own arithmetic.ShiftRight type x y h k =
    either_own is_first type.is_signed _ _ (two_own is_first _ x (places (width_of type) y) h (places_own (width_of type) y k))
    (two_own is_first _ x (places (width_of type) y) h (places_own (width_of type) y k))
computed_own arithmetic.And type x y h k = two_own is_first _ x y h k
computed_own arithmetic.Or type x y h k = two_own is_first _ x y h k
computed_own arithmetic.Xor type x y h k = two_own is_first _ x y h k

less_own : (type : Scalar) (x y : Term) → Own x → Own y → Own (less_of type x y)
less_own type x y h k = either_own is_first type.is_signed (signed_less (width_of type) x y) (less x y) (signed_less_own is_first (width_of type) x y h k) (two_own is_first _ x y h k)

compared_own : (operator : Comparison) (type : Scalar) (x y : Term) → Own x → Own y → Own (compared operator type x y)
unfolding compared
compared_own comparison.Equal type x y h k = two_own is_first _ x y h k
compared_own comparison.NotEqual type x y h k = one_own is_first _ (equal x y) (two_own is_first _ x y h k)
compared_own comparison.Less type x y h k = less_own type x y h k
compared_own comparison.Greater type x y h k = less_own type y x k h
compared_own comparison.LessOrEqual type x y h k = one_own is_first _ (less_of type y x) (less_own type y x k h)
compared_own comparison.GreaterOrEqual type x y h k = one_own is_first _ (less_of type x y) (less_own type x y h k)

scaled_own : (w : Width) (size : ℕ) (x : Term) → Own x → Own (scaled w size x)
scaled_own w size x h = by (exponent 32 size)
  where
    by : (o : Option ℕ) → Own (scaled_by w o size x)
    by (Some places) = two_own is_first _ x (constant w places) h (const_own is_first w places)
    by None = two_own is_first _ x (constant w size) h (const_own is_first w size)

moved_own : (direction : Direction) (p distance : Term) → Own p → Own distance → Own (moved direction p distance)
moved_own Up p distance h k = two_own is_first _ p distance h k
moved_own Down p distance h k = two_own is_first _ p distance h k

loaded_own : (type : Scalar) (o : Object) → Own o.base → Own (loaded type o)
loaded_own type o h =
    let a = address_own o h in
    either_own is_first (bits (width_of type) == 8) _ _ (load_own is_first (open_term memory) (address_of o) memory_own a)
    (either_own is_first (bits (width_of type) == 16) _ _ (load_half_own is_first (open_term memory) (address_of o) memory_own a)
    (load_word_own is_first (open_term memory) (address_of o) memory_own a))

pub stored_own : (type : Scalar) (o : Object) (x : Term) → Own o.base → Own x → Own (stored type o x)
stored_own type o x h k =
    let a = address_own o h in
    either_own is_first (bits (width_of type) == 8) _ _ (store_byte_own is_first (open_term memory) (address_of o) x memory_own a k)
    (either_own is_first (bits (width_of type) == 16) _ _ (store_half_own is_first (open_term memory) (address_of o) x memory_own a k)
    (store_word_own is_first (open_term memory) (address_of o) x memory_own a k))

-- ---- values

abbrev Speaks : Terms → Type 0
Speaks t = Own t.word × Own t.truth

word_speaks : (type : Scalar) (x : Term) → Own x → Speaks (of_word type x)
word_speaks type x h =
    (h, one_own is_first _ (equal x (constant (width_of type) 0)) (two_own is_first _ x (constant (width_of type) 0) h (const_own is_first (width_of type) 0)))

truth_speaks : (t : Term) → Own t → Own (set_if t) × Own t
truth_speaks t h = (three_own is_first _ t (number 1) (number 0) h (number_own 1) (number_own 0), h)

zero_own : (operator : Comparison) (t : Term) → Own t → Own (zero_test operator t)
zero_own comparison.Equal t h = one_own is_first _ t h
zero_own comparison.NotEqual t h = h
zero_own comparison.Less t h = h
zero_own comparison.Greater t h = h
zero_own comparison.LessOrEqual t h = h
zero_own comparison.GreaterOrEqual t h = h

comparison_own : (operator : Comparison) (type : Scalar) (right : Core) (x y : Terms) → Speaks x → Speaks y → Own (comparison_test operator type right x y)
comparison_own operator type right x y h k =
    either_own is_first (tests_zero operator right) (zero_test operator x.truth) (compared operator type x.word y.word) (zero_own operator x.truth h.1)
    (compared_own operator type x.word y.word h.0 k.0)

module _ (globals : Globals) (target : Object) (base : Own target.base) where
  pub speaks : (x : Core) → Own (terms globals target x).word × Own (terms globals target x).truth
  unfolding terms
  speaks (Constant type value) = word_speaks type (value_constant type value) (const_own is_first (width_of type) _)
  speaks (ReadLocal type index offset) = word_speaks type (open_term (local index type)) (open_own is_first (local index type) refl)
  speaks (GlobalAddress name) = word_speaks word (number (unwrap_or (globals name) 0)) (number_own _)
  speaks (Load type address displacement offset) =
      word_speaks type (loaded type (object (terms globals target address).word displacement)) (loaded_own type (object (terms globals target address).word displacement) (speaks address).0)
  speaks (Target type offset) = word_speaks type (loaded type target) (loaded_own type target base)
  speaks (Convert type operand) =
      word_speaks type (at_width (type_of operand) (width_of type) (terms globals target operand).word) (width_own (type_of operand) (width_of type) (terms globals target operand).word (speaks operand).0)
  speaks (Operate operator type left right offset) =
      word_speaks type _ (computed_own operator type (terms globals target left).word (at_width (type_of right) (width_of type) (terms globals target right).word) (speaks left).0
      (width_own (type_of right) (width_of type) (terms globals target right).word (speaks right).0))
  speaks (Compare operator left right) =
      truth_speaks (comparison_test operator (type_of left) right (terms globals target left) (terms globals target right))
      (comparison_own operator (type_of left) right (terms globals target left) (terms globals target right) (speaks left) (speaks right))
  speaks (Move direction order size pointer index offset) =
      word_speaks word _ (moved_own direction (terms globals target pointer).word (scaled W32 size (at_width (type_of index) W32 (terms globals target index).word)) (speaks pointer).0
      (scaled_own W32 size (at_width (type_of index) W32 (terms globals target index).word) (width_own (type_of index) W32 (terms globals target index).word (speaks index).0)))
  speaks (Within bound index offset) = speaks index
  speaks (Aligned alignment pointer offset) = speaks pointer
  speaks (Choose type test first second) = (
    three_own is_first _ (terms globals target test).truth (terms globals target first).word (terms globals target second).word (speaks test).1 (speaks first).0 (speaks second).0,
    three_own is_first _ (terms globals target test).truth (terms globals target first).truth (terms globals target second).truth (speaks test).1 (speaks first).1 (speaks second).1,
  )

-- ---- tests

if_test : (b : Bool) (t : Term) → Own t → All Own (if b then t ∷ [] else [])
if_test true t h = one_test is_first t h
if_test false t h = All-nil Own

divisor_own : (w : Width) (y : Term) → Own y → Own (is_divisor w y)
divisor_own w y h = one_own is_first _ (equal y (constant w 0)) (two_own is_first _ y (constant w 0) h (const_own is_first w 0))

quotient_there : (w : Width) (x y : Term) → Own x → Own y → Own (has_quotient w x y)
quotient_there w x y h k =
    one_own is_first _ (and_term (equal x (sign_bit w)) (equal y (constant w (2 ^ bits w - 1))))
    (two_own is_first _ (equal x (sign_bit w)) (equal y (constant w (2 ^ bits w - 1))) (two_own is_first _ x (sign_bit w) h (const_own is_first w _))
    (two_own is_first _ y (constant w (2 ^ bits w - 1)) k (const_own is_first w _)))

division_own : (type : Scalar) (x y : Term) → Own x → Own y
    → Own (if type.is_signed then and_term (is_divisor (width_of type) y) (has_quotient (width_of type) x y) else is_divisor (width_of type) y)
division_own type x y h k =
    either_own is_first type.is_signed (and_term (is_divisor (width_of type) y) (has_quotient (width_of type) x y)) (is_divisor (width_of type) y)
    (two_own is_first _ (is_divisor (width_of type) y) (has_quotient (width_of type) x y) (divisor_own (width_of type) y k) (quotient_there (width_of type) x y h k))
    (divisor_own (width_of type) y k)

count_own : (type count : Scalar) (y : Term) → Own y → Own (count_test type count y)
count_own type count y h = two_own is_first _ y (constant (width_of count) type.width) h (const_own is_first (width_of count) type.width)

operator_own : (operator : Arithmetic) (type second : Scalar) (x y : Term) → Own x → Own y → All Own (operator_tests operator type second x y)
unfolding operator_tests
operator_own arithmetic.Add type second x y h k =
    let w = width_of type in
    if_test type.is_signed (sum_fits w x y)
    (two_own is_first _ (signed_less w (add x y) x) (signed_less w y (constant w 0)) (signed_less_own is_first w (add x y) x (two_own is_first _ x y h k) h)
    (signed_less_own is_first w y (constant w 0) k (const_own is_first w 0)))
operator_own arithmetic.Subtract type second x y h k =
    let w = width_of type in
    if_test type.is_signed (difference_fits w x y)
    (two_own is_first _ (signed_less w (subtract x y) x) (signed_less w (constant w 0) y) (signed_less_own is_first w (subtract x y) x (two_own is_first _ x y h k) h)
    (signed_less_own is_first w (constant w 0) y (const_own is_first w 0) k))
operator_own arithmetic.Multiply type second x y h k =
    if_test type.is_signed (product_fits x y)
    (two_own is_first _ (sign_extend W64 (multiply x y)) (multiply (sign_extend W64 x) (sign_extend W64 y)) (one_own is_first _ (multiply x y) (two_own is_first _ x y h k))
    (two_own is_first _ (sign_extend W64 x) (sign_extend W64 y) (one_own is_first _ x h) (one_own is_first _ y k)))
operator_own arithmetic.Divide type second x y h k = one_test is_first _ (division_own type x y h k)
operator_own arithmetic.Remainder type second x y h k = one_test is_first _ (division_own type x y h k)
operator_own arithmetic.ShiftLeft type second x y h k = one_test is_first (count_test type second y) (count_own type second y k)
operator_own arithmetic.ShiftRight type second x y h k = one_test is_first (count_test type second y) (count_own type second y k)
operator_own arithmetic.And type second x y h k = All-nil Own
operator_own arithmetic.Or type second x y h k = All-nil Own
operator_own arithmetic.Xor type second x y h k = All-nil Own

aligned_own : (alignment : ℕ) (a : Term) → Own a → Own (is_aligned alignment a)
aligned_own alignment a h =
    two_own is_first _ (not_term (equal a (number 0))) (is_multiple alignment a) (one_own is_first _ (equal a (number 0)) (two_own is_first _ a (number 0) h (number_own 0)))
    (two_own is_first _ (bit_and a (number (alignment - 1))) (number 0) (two_own is_first _ a (number (alignment - 1)) h (number_own _)) (number_own 0))

zone_own : (a e : Term) → Own a → Own e → Own (avoids_zone a e)
zone_own a e h k =
    let lo = open_own is_first zone_low refl in
    let hi = open_own is_first zone_high refl in
    two_own is_first _ (not_term (less (open_term zone_low) (open_term zone_high))) (or_term (less e (open_term zone_low)) (not_term (less a (open_term zone_high))))
    (one_own is_first _ (less (open_term zone_low) (open_term zone_high)) (two_own is_first _ (open_term zone_low) (open_term zone_high) lo hi))
    (two_own is_first _ (less e (open_term zone_low)) (not_term (less a (open_term zone_high))) (two_own is_first _ e (open_term zone_low) k lo)
    (one_own is_first _ (less a (open_term zone_high)) (two_own is_first _ a (open_term zone_high) h hi)))

run_own : (a e : Term) (run : Run) → Own a → Own e → Own (avoids_run a e run)
run_own a e run h k =
    two_own is_first _ (less (number (run.start + length run.bytes - 1)) a) (less e (number run.start))
    (two_own is_first _ (number (run.start + length run.bytes - 1)) a (number_own _) h) (two_own is_first _ e (number run.start) k (number_own run.start))

runs_own : (a e : Term) (runs : List Run) → Own a → Own e → All Own (map (avoids_run a e) runs)
runs_own a e [] h k = All-nil Own
runs_own a e (run ∷ runs) h k = All-cons Own (avoids_run a e run) (map (avoids_run a e) runs) (run_own a e run h k) (runs_own a e runs h k)

fixed_own : (a e : Term) (runs : List Run) → Own a → Own e → Own (avoids_fixed a e runs)
fixed_own a e runs h k = conjunction_all Own (truth_own is_first true) (λ x y. two_own is_first _ x y) (map (avoids_run a e) runs) (runs_own a e runs h k)

last_own : (type : Scalar) (o : Object) → Own o.base → Own (last_byte type o)
last_own type o h = two_own is_first _ (address_of o) (number (bytes type - 1)) (address_own o h) (number_own _)

reads_own : (type : Scalar) (o : Object) → Own o.base → All Own (read_tests type o)
reads_own type o h =
    All-cons Own (is_accessible type o) (avoids_zone (address_of o) (last_byte type o) ∷ [])
    (two_own is_first _ (is_aligned (bytes type) (address_of o)) (not_term (less (address_of o) o.base)) (aligned_own (bytes type) (address_of o) (address_own o h))
    (one_own is_first _ (less (address_of o) o.base) (two_own is_first _ (address_of o) o.base (address_own o h) h)))
    (one_test is_first (avoids_zone (address_of o) (last_byte type o)) (zone_own (address_of o) (last_byte type o) (address_own o h) (last_own type o h)))

pub writes_own : (runs : List Run) (type : Scalar) (o : Object) → Own o.base → All Own (write_tests runs type o)
writes_own runs type o h =
    All-append Own (read_tests type o) (avoids_fixed (address_of o) (last_byte type o) runs ∷ []) (reads_own type o h)
    (one_test is_first (avoids_fixed (address_of o) (last_byte type o) runs) (fixed_own (address_of o) (last_byte type o) runs (address_own o h) (last_own type o h)))

order_own : (order : Order) (xs ys : List Term) → All Own xs → All Own ys → All Own (in_order order xs ys)
order_own PointerFirst xs ys h k = All-append Own xs ys h k
order_own IndexFirst xs ys h k = All-append Own ys xs k h

under_own : (condition : Term) → Own condition → (list : List Term) → All Own list → All Own (map (under condition) list)
under_own condition h list all =
    all_map is_first (under condition) (λ t k. two_own is_first _ (not_term condition) t (one_own is_first _ condition h) k) list all

module _ (globals : Globals) (target : Object) (base : Own target.base) where
  pub tests_own : (x : Core) → All Own (tests globals target x)
  unfolding tests
  tests_own (Constant type value) = All-nil Own
  tests_own (ReadLocal type index offset) = one_test is_first (open_term (is_set index)) (open_own is_first (is_set index) refl)
  tests_own (GlobalAddress name) = All-nil Own
  tests_own (Load type address displacement offset) =
      All-append Own (tests globals target address) (read_tests type (object (value_term globals target address) displacement)) (tests_own address)
      (reads_own type (object (value_term globals target address) displacement) (speaks globals target base address).0)
  tests_own (Target type offset) = reads_own type target base
  tests_own (Convert type operand) = tests_own operand
  tests_own (Operate operator type left right offset) =
      All-append Own (tests globals target left) _ (tests_own left)
      (All-append Own (tests globals target right) _ (tests_own right)
      (operator_own operator type (type_of right) (value_term globals target left) (value_term globals target right) (speaks globals target base left).0 (speaks globals target base right).0))
  tests_own (Compare operator left right) = All-append Own (tests globals target left) (tests globals target right) (tests_own left) (tests_own right)
  tests_own (Move direction order size pointer index offset) =
      let p = value_term globals target pointer in
      let i = value_term globals target index in
      All-append Own (in_order order (tests globals target pointer) (tests globals target index)) (is_pointer_moved direction size p (type_of index) i ∷ [])
      (order_own order (tests globals target pointer) (tests globals target index) (tests_own pointer) (tests_own index))
      (one_test is_first (is_pointer_moved direction size p (type_of index) i)
      (two_own is_first _ (moved direction (zero_extend W64 p) (scaled W64 size (at_width (type_of index) W64 i))) (constant W64 (2 ^ 32))
      (moved_own direction (zero_extend W64 p) (scaled W64 size (at_width (type_of index) W64 i)) (one_own is_first _ p (speaks globals target base pointer).0)
      (scaled_own W64 size (at_width (type_of index) W64 i) (width_own (type_of index) W64 i (speaks globals target base index).0))) (const_own is_first W64 _)))
  tests_own (Within bound index offset) =
      All-append Own (tests globals target index) (is_within bound (type_of index) (value_term globals target index) ∷ []) (tests_own index)
      (one_test is_first (is_within bound (type_of index) (value_term globals target index))
      (two_own is_first _ (at_width (type_of index) W32 (value_term globals target index)) (number bound)
      (width_own (type_of index) W32 (value_term globals target index) (speaks globals target base index).0) (number_own bound)))
  tests_own (Aligned alignment pointer offset) =
      All-append Own (tests globals target pointer) (is_aligned alignment (value_term globals target pointer) ∷ []) (tests_own pointer)
      (one_test is_first (is_aligned alignment (value_term globals target pointer)) (aligned_own alignment (value_term globals target pointer) (speaks globals target base pointer).0))
  tests_own (Choose type test first second) =
      let t = truth_term globals target test in
      let own_truth = (speaks globals target base test).1 in
      All-append Own (tests globals target test) _ (tests_own test)
      (All-append Own (map (under t) (tests globals target first)) (map (under (not_term t)) (tests globals target second))
      (under_own t own_truth (tests globals target first) (tests_own first))
      (under_own (not_term t) (one_own is_first _ t own_truth) (tests globals target second) (tests_own second)))
