-- What the bits of operators with one argument show.
use Rattle.std.proofs.Common.{◌≡◌, ◌<◌, ◌≤◌, ◌+◌, ◌-◌, ◌*◌, ◌/◌, ◌%◌, ◌^◌, ℕ, zero, suc, Bool, true, false, List, [], ◌∷◌, ◌++◌, length, map, take, drop, replicate, Some, refl, ap, sym, ◌∙◌, subst, arith}
use Rattle.std.specs.Prelude.{◌&&◌, not, nat_le, nat_lt, if◌then◌else◌}
use Rattle.std.proofs.lemmas.Bool.{and_parts}
use Rattle.std.proofs.Math.Nat.{mod-eq_of_lt, mul-sub}
use Rattle.std.proofs.lemmas.Nat.{pow-add, pow_pos}
use Rattle.std.proofs.lemmas.List.{length-map, length-append, length-replicate, length-take-le, length-drop}
use Rattle.clause_check_spec.specs.declared.Literal.{Literal}
use Rattle.clause_check_spec.specs.Clause.{Valuation, holds, negation}
use Rattle.term_core_spec.specs.declared.Width.{Width}
use Rattle.term_core_spec.specs.declared.Width.TheVariants.{W8, W16, W32, W64}
use Rattle.term_core_spec.specs.declared.Sort.{Sort}
use Rattle.term_core_spec.specs.declared.Sort.TheVariants as sort
use Rattle.term_core_spec.specs.declared.UnaryOperator.{UnaryOperator}
use Rattle.term_core_spec.specs.declared.UnaryOperator.TheVariants as unary
use Rattle.term_core_spec.specs.Sort.{bits, bits_of, is_word, is_truth, sort_if, sort_of_unary}
use Rattle.term_core_spec.specs.Value.{Value, Truth, Number, Bytes, IsOfSort, low_bits, ones_if, is_negative, unary_value}
use Rattle.term_core_spec.proofs.Sorts.{same_sort-true, word_width, sort_if-some}
use Rattle.term_core_spec.proofs.Soundness.{at_truth, at_word, of_same_sort}
use Rattle.bit_blast_spec.specs.Circuits.{Bits, zeros, none, sign_of}
use Rattle.bit_blast_spec.specs.Goal.{unary_bits}
use Rattle.bit_blast_laws.specs.Meaning.{digit, number_of}
use Rattle.bit_blast_laws.proofs.Gates.{holds-negation}
use Rattle.bit_blast_laws.proofs.Adders.{below_width, complemented}
use Rattle.bit_blast_laws.proofs.Widths.{number-append, number-take, number-drop, number-zeros, number-replicate}
use Rattle.bit_blast_laws.proofs.Moves.{signed_width}
use Rattle.bit_blast_laws.specs.Shows.{Shows}

pub width_positive : (w : Width) → 0 < bits w
width_positive W8 = omega arith
width_positive W16 = omega arith
width_positive W32 = omega arith
width_positive W64 = omega arith

-- a truth value's one bit
pub only_bit : (values : Valuation) (xs : Bits) (b : Bool) → length xs ≡ 1 → number_of values xs ≡ digit b → (x : Literal) × (xs ≡ x ∷ []) × (holds values x ≡ b)
only_bit values [] b long number = absurd (omega (arith, long))
only_bit values (x ∷ []) b long number = (x, refl, by_digit (holds values x) b number)
  where
    by_digit : (a b : Bool) → digit a + 2 * 0 ≡ digit b → a ≡ b
    by_digit true true e = refl
    by_digit true false e = absurd (omega (arith, e))
    by_digit false true e = absurd (omega (arith, e))
    by_digit false false e = refl
only_bit values (x ∷ y ∷ xs) b long number = absurd (omega (arith, long))

pub shows_bit : (values : Valuation) (x : Literal) (b : Bool) → holds values x ≡ b → (length (x ∷ []) ≡ 1) × (number_of values (x ∷ []) ≡ digit b)
shows_bit values x b e = (refl, ap (λ a. digit a + 2 * 0) e ∙ plain (digit b))
  where
    plain : (n : ℕ) → n + 2 * 0 ≡ n
    plain n = omega arith

not_shows : (values : Valuation) (a : Bool) (xs : Bits) → Shows values (Truth a) xs → Shows values (Truth (not a)) (map negation xs)
not_shows values a xs shows =
    let bit = only_bit values xs a shows.0 shows.1 in
    subst (λ l. Shows values (Truth (not a)) (map negation l)) (sym bit.1)
    (shows_bit values (negation bit.0) (not a) (holds-negation values bit.0 ∙ ap not bit.2))

complement_shows : (values : Valuation) (w : Width) (a : ℕ) (xs : Bits) → a < 2 ^ bits w → Shows values (Number w a) xs
    → Shows values (Number w (2 ^ bits w - 1 - low_bits (bits w) a)) (map negation xs)
complement_shows values w a xs below shows =
    let all = complemented values xs in
    let power : 2 ^ length xs ≡ 2 ^ bits w = ap (λ n. 2 ^ n) shows.0 in
    let number : number_of values (map negation xs) ≡ 2 ^ bits w - 1 - a = omega (arith, all, power, shows.1) in
    (length-map xs negation ∙ shows.0, number ∙ ap (λ n. 2 ^ bits w - 1 - n) (sym (mod-eq_of_lt below)))

le_by : (a b : ℕ) → nat_le a b ≡ true → a ≤ b
le_by a b e = grind arith

lt_by : (a b : ℕ) → nat_lt a b ≡ true → a < b
lt_by a b e = grind arith

zero_extend_shows : (values : Valuation) (w to : Width) (a : ℕ) (xs : Bits) → values 1 ≡ true → bits w ≤ bits to → Shows values (Number w a) xs
    → Shows values (Number to a) (xs ++ zeros (bits to - length xs))
zero_extend_shows values w to a xs truth wider shows =
    let e = length-append xs (zeros (bits to - length xs)) in
    let f = length-replicate (bits to - length xs) none in (
      omega (arith, e, f, shows.0, wider),
      number-append values xs (zeros (bits to - length xs))
          ∙ ap (λ n. number_of values xs + 2 ^ length xs * n) (number-zeros values (bits to - length xs) truth)
          ∙ nothing_more (number_of values xs) (2 ^ length xs) ∙ shows.1,
    )
  where
    nothing_more : (n p : ℕ) → n + p * 0 ≡ n
    nothing_more n p = omega arith

-- the bits above, where they are all set
ones_above : (s : Bool) (p q w : ℕ) → p * q ≡ w → p * (if s then q - 1 else 0) ≡ (if s then w - p else 0)
ones_above true p q w e = mul-sub p q 1 ∙ ap (λ n. n - p * 1) e ∙ ap (λ n. w - n) (once p)
  where
    once : (n : ℕ) → n * 1 ≡ n
    once n = omega arith
ones_above false p q w e = omega arith

sign_extend_shows : (values : Valuation) (w to : Width) (a : ℕ) (xs : Bits) → bits w ≤ bits to → Shows values (Number w a) xs
    → Shows values (Number to (low_bits (bits to) (a + ones_if (is_negative (bits w) a) (bits w) (bits to)))) (xs ++ replicate (bits to - length xs) (sign_of xs))
sign_extend_shows values w to a xs wider shows =
    let more = bits to - length xs in
    let all = xs ++ replicate more (sign_of xs) in
    let e = length-append xs (replicate more (sign_of xs)) in
    let f = length-replicate more (sign_of xs) in
    let long : length all ≡ bits to = omega (arith, e, f, shows.0, wider) in
    let sign : holds values (sign_of xs) ≡ is_negative (bits w) a =
    signed_width values xs (bits w) (width_positive w) shows.0 ∙ ap (is_negative (bits w)) shows.1
    in
    let split : 2 ^ length xs * 2 ^ more ≡ 2 ^ bits to =
    sym (pow-add 2 (length xs) more) ∙ ap (λ n. 2 ^ n) (let h : length xs + more ≡ bits to = omega (arith, shows.0, wider) in h)
    in
    let number : number_of values all ≡ a + ones_if (is_negative (bits w) a) (bits w) (bits to) =
    number-append values xs (replicate more (sign_of xs))
    ∙ ap (λ n. number_of values xs + 2 ^ length xs * n) (number-replicate values more (sign_of xs))
    ∙ ap (λ n. number_of values xs + n) (ones_above (holds values (sign_of xs)) (2 ^ length xs) (2 ^ more) (2 ^ bits to) split)
    ∙ ap (λ n. n + (if holds values (sign_of xs) then 2 ^ bits to - 2 ^ length xs else 0)) shows.1
    ∙ ap (λ b. a + (if b then 2 ^ bits to - 2 ^ length xs else 0)) sign
    ∙ ap (λ n. a + (if is_negative (bits w) a then 2 ^ bits to - 2 ^ n else 0)) shows.0
    in
    (long, sym (mod-eq_of_lt (subst (λ n. number_of values all < 2 ^ n) long (below_width values all))) ∙ ap (low_bits (bits to)) number)

low_shows : (values : Valuation) (w to : Width) (a : ℕ) (xs : Bits) → bits to ≤ bits w → Shows values (Number w a) xs
    → Shows values (Number to (low_bits (bits to) a)) (take (bits to) xs)
low_shows values w to a xs narrower shows =
    (length-take-le (bits to) xs (omega (arith, narrower, shows.0)), number-take values (bits to) xs ∙ ap (low_bits (bits to)) shows.1)

byte_inside : (w : Width) (index : ℕ) → 8 * index < bits w → 8 ≤ bits w - 8 * index
byte_inside W8 index below = omega (arith, below)
byte_inside W16 index below = omega (arith, below)
byte_inside W32 index below = omega (arith, below)
byte_inside W64 index below = omega (arith, below)

byte_shows : (values : Valuation) (w : Width) (index a : ℕ) (xs : Bits) → 8 * index < bits w → Shows values (Number w a) xs
    → Shows values (Number W8 (low_bits 8 (a / 2 ^ (8 * index)))) (take 8 (drop (8 * index) xs))
byte_shows values w index a xs below shows =
    let e = length-drop (8 * index) xs in
    let room = byte_inside w index below in (
      length-take-le 8 (drop (8 * index) xs) (omega (arith, e, room, shows.0)),
      number-take values 8 (drop (8 * index) xs) ∙ ap (low_bits 8) (number-drop values (8 * index) xs ∙ ap (λ n. n / 2 ^ (8 * index)) shows.1),
    )

pub unary_shows : (values : Valuation) (operator : UnaryOperator) (p s : Sort) (x : Value) (xs : Bits) (last : ℕ) → values 1 ≡ true
    → sort_of_unary operator p ≡ Some s → IsOfSort p x → Shows values x xs → Shows values (unary_value operator x) (unary_bits operator xs last).out
unfolding sort_of_unary unary_value unary_bits
unary_shows values unary.Not p s x xs last truth e h =
    let parts = sort_if-some (is_truth p) sort.Truth s e in
    at_truth (λ u. Shows values u xs → Shows values (unary_value unary.Not u) (map negation xs)) x (of_same_sort p sort.Truth x (same_sort-true p sort.Truth parts.0) h)
    (λ a. not_shows values a xs)
unary_shows values unary.Complement p s x xs last truth e h =
    let parts = sort_if-some (is_word p) p s e in
    let width = word_width p parts.0 in
    at_word (λ u. Shows values u xs → Shows values (unary_value unary.Complement u) (map negation xs)) width.0 x (of_same_sort p (sort.Word width.0) x width.1 h)
    (λ a below. complement_shows values width.0 a xs below)
unary_shows values (unary.ZeroExtend to) p s x xs last truth e h =
    let parts = sort_if-some (is_word p && nat_le (bits_of p) (bits to)) (sort.Word to) s e in
    let tests = and_parts (is_word p) (nat_le (bits_of p) (bits to)) parts.0 in
    let width = word_width p tests.0 in
    let wider : nat_le (bits width.0) (bits to) ≡ true = subst (λ q. nat_le (bits_of q) (bits to) ≡ true) width.1 tests.1 in
    at_word (λ u. Shows values u xs → Shows values (unary_value (unary.ZeroExtend to) u) (xs ++ zeros (bits to - length xs))) width.0 x
    (of_same_sort p (sort.Word width.0) x width.1 h)
    (λ a below. zero_extend_shows values width.0 to a xs truth (le_by (bits width.0) (bits to) wider))
unary_shows values (unary.SignExtend to) p s x xs last truth e h =
    let parts = sort_if-some (is_word p && nat_le (bits_of p) (bits to)) (sort.Word to) s e in
    let tests = and_parts (is_word p) (nat_le (bits_of p) (bits to)) parts.0 in
    let width = word_width p tests.0 in
    let wider : nat_le (bits width.0) (bits to) ≡ true = subst (λ q. nat_le (bits_of q) (bits to) ≡ true) width.1 tests.1 in
    at_word (λ u. Shows values u xs → Shows values (unary_value (unary.SignExtend to) u) (xs ++ replicate (bits to - length xs) (sign_of xs))) width.0 x
    (of_same_sort p (sort.Word width.0) x width.1 h)
    (λ a below. sign_extend_shows values width.0 to a xs (le_by (bits width.0) (bits to) wider))
unary_shows values (unary.Low to) p s x xs last truth e h =
    let parts = sort_if-some (is_word p && nat_le (bits to) (bits_of p)) (sort.Word to) s e in
    let tests = and_parts (is_word p) (nat_le (bits to) (bits_of p)) parts.0 in
    let width = word_width p tests.0 in
    let narrower : nat_le (bits to) (bits width.0) ≡ true = subst (λ q. nat_le (bits to) (bits_of q) ≡ true) width.1 tests.1 in
    at_word (λ u. Shows values u xs → Shows values (unary_value (unary.Low to) u) (take (bits to) xs)) width.0 x (of_same_sort p (sort.Word width.0) x width.1 h)
    (λ a below. low_shows values width.0 to a xs (le_by (bits to) (bits width.0) narrower))
unary_shows values (unary.Byte index) p s x xs last truth e h =
    let parts = sort_if-some (is_word p && nat_lt (8 * index) (bits_of p)) (sort.Word W8) s e in
    let tests = and_parts (is_word p) (nat_lt (8 * index) (bits_of p)) parts.0 in
    let width = word_width p tests.0 in
    let below : nat_lt (8 * index) (bits width.0) ≡ true = subst (λ q. nat_lt (8 * index) (bits_of q) ≡ true) width.1 tests.1 in
    at_word (λ u. Shows values u xs → Shows values (unary_value (unary.Byte index) u) (take 8 (drop (8 * index) xs))) width.0 x
    (of_same_sort p (sort.Word width.0) x width.1 h)
    (λ a small. byte_shows values width.0 index a xs (lt_by (8 * index) (bits width.0) below))
