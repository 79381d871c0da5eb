-- What the bits of operators with two arguments show.
use Rattle.std.proofs.Common.{◌≡◌, ◌<◌, ◌≤◌, ◌+◌, ◌-◌, ◌*◌, ◌/◌, ◌%◌, ◌^◌, ℕ, zero, suc, Bool, true, false, List, [], ◌∷◌, ◌++◌, length, map, Some, refl, ap, sym, ◌∙◌, subst, arith}
use Rattle.std.specs.Prelude.{◌==◌, ◌&&◌, ◌||◌, not, nat_le, nat_lt, if◌then◌else◌, bit_and, bit_or, bit_xor}
use Rattle.std.proofs.lemmas.Bool.{and_parts}
use Rattle.std.proofs.lemmas.List.{length-map}
use Rattle.clause_check_spec.specs.declared.Literal.{Literal}
use Rattle.clause_check_spec.specs.Clause.{Valuation, holds, negation}
use Rattle.term_core_spec.specs.declared.Width.{Width}
use Rattle.term_core_spec.specs.declared.Width.TheVariants.{W8, W16, W32, W64}
use Rattle.term_core_spec.specs.declared.Sort.{Sort}
use Rattle.term_core_spec.specs.declared.Sort.TheVariants as sort
use Rattle.term_core_spec.specs.declared.WordOperator.{WordOperator}
use Rattle.term_core_spec.specs.declared.WordOperator.TheVariants as word
use Rattle.term_core_spec.specs.Sort.{bits}
use Rattle.term_core_spec.specs.Value.{Value, Truth, Number, Bytes, IsOfSort, low_bits, operation}
use Rattle.bit_blast_spec.specs.Gates.{last_of}
use Rattle.bit_blast_spec.specs.Circuits.{Bits, one as one_literal, none, each_two, and_gate, or_gate, xor_gate, choose_bits, mux_gate, equal_bits, less_bit, sum_bits, difference_bits, product_bits, moved_up, moved_down, shift_bits, shift_signed_bits}
use Rattle.bit_blast_spec.specs.Goal.{word_bits, single}
use Rattle.bit_blast_laws.specs.Meaning.{digit, number_of, differ, AllHold}
use Rattle.bit_blast_laws.proofs.Gates.{holds-negation, hold_parts}
use Rattle.bit_blast_laws.proofs.Adders.{below_width, sum_holds, sum_length, difference_holds, less_holds}
use Rattle.bit_blast_laws.proofs.Bitwise.{zips_number, each_two_zips, and_gate_holds, or_gate_holds, xor_gate_holds, and_bits, or_bits, xor_bits, and_digit, or_digit, chosen_number, equal_holds}
use Rattle.bit_blast_laws.proofs.Stages.{each_two_length}
use Rattle.bit_blast_laws.proofs.Widths.{holds-none}
use Rattle.bit_blast_laws.proofs.Rows.{product_holds, product_length}
use Rattle.bit_blast_laws.proofs.Moves.{shift_left_holds, shift_right_holds, shift_signed_holds, shift_left_length, shift_right_length, shift_signed_length}
use Rattle.bit_blast_laws.specs.Shows.{Shows}
use Rattle.bit_blast_laws.proofs.Unaries.{shows_bit}

-- ---- truth values

pub and_shows : (values : Valuation) (a b : Bool) (xs ys : Bits) (last : ℕ) → Shows values (Truth a) xs → Shows values (Truth b) ys
    → AllHold values last (each_two and_gate xs ys last).gates → Shows values (Truth (a && b)) (each_two and_gate xs ys last).out
and_shows values a b xs ys last x y all =
    let same = x.0 ∙ sym y.0 in (
      each_two_length and_gate xs ys last same ∙ x.0,
      zips_number values ◌&&◌ bit_and refl and_bits xs ys (each_two and_gate xs ys last).out
          (each_two_zips values and_gate ◌&&◌ (and_gate_holds values) xs ys last same all)
          ∙ ap (λ n. bit_and n (number_of values ys)) x.1 ∙ ap (bit_and (digit a)) y.1 ∙ and_digit a b,
    )

pub or_shows : (values : Valuation) (a b : Bool) (xs ys : Bits) (last : ℕ) → Shows values (Truth a) xs → Shows values (Truth b) ys
    → AllHold values last (each_two or_gate xs ys last).gates → Shows values (Truth (a || b)) (each_two or_gate xs ys last).out
or_shows values a b xs ys last x y all =
    let same = x.0 ∙ sym y.0 in (
      each_two_length or_gate xs ys last same ∙ x.0,
      zips_number values ◌||◌ bit_or refl or_bits xs ys (each_two or_gate xs ys last).out
          (each_two_zips values or_gate ◌||◌ (or_gate_holds values) xs ys last same all)
          ∙ ap (λ n. bit_or n (number_of values ys)) x.1 ∙ ap (bit_or (digit a)) y.1 ∙ or_digit a b,
    )

alike : (a b : Bool) → (digit a == digit b) ≡ (if a then b else not b)
alike true true = refl
alike true false = refl
alike false true = refl
alike false false = refl

pub equal_truths_show : (values : Valuation) (a b : Bool) (xs ys : Bits) (last : ℕ) → values 1 ≡ true → Shows values (Truth a) xs → Shows values (Truth b) ys
    → AllHold values last (equal_bits xs ys last).gates → Shows values (Truth (if a then b else not b)) (single (equal_bits xs ys last).out)
equal_truths_show values a b xs ys last truth x y all =
    shows_bit values (equal_bits xs ys last).out (if a then b else not b)
    (equal_holds values xs ys last (x.0 ∙ sym y.0) truth all
    ∙ ap (λ n. n == number_of values ys) x.1 ∙ ap (λ n. digit a == n) y.1 ∙ alike a b)

pub equal_words_show : (values : Valuation) (w : Width) (a b : ℕ) (xs ys : Bits) (last : ℕ) → values 1 ≡ true → Shows values (Number w a) xs → Shows values (Number w b) ys
    → AllHold values last (equal_bits xs ys last).gates → Shows values (Truth (a == b)) (single (equal_bits xs ys last).out)
equal_words_show values w a b xs ys last truth x y all =
    shows_bit values (equal_bits xs ys last).out (a == b)
    (equal_holds values xs ys last (x.0 ∙ sym y.0) truth all ∙ ap (λ n. n == number_of values ys) x.1 ∙ ap (λ n. a == n) y.1)

pub less_shows : (values : Valuation) (w : Width) (a b : ℕ) (xs ys : Bits) (last : ℕ) → values 1 ≡ true → Shows values (Number w a) xs → Shows values (Number w b) ys
    → AllHold values last (less_bit xs ys last).gates → Shows values (Truth (nat_lt a b)) (single (less_bit xs ys last).out)
less_shows values w a b xs ys last truth x y all =
    shows_bit values (less_bit xs ys last).out (nat_lt a b)
    (less_holds values xs ys last (x.0 ∙ sym y.0) truth all ∙ ap (λ n. nat_lt n (number_of values ys)) x.1 ∙ ap (nat_lt a) y.1)

-- ---- words

pub width_power : (w : Width) → (k : ℕ) × (bits w ≡ 2 ^ k)
width_power W8 = (3, refl)
width_power W16 = (4, refl)
width_power W32 = (5, refl)
width_power W64 = (6, refl)

-- what a law says of the words' numbers, said of what they show
shown_by : (values : Valuation) (operator : WordOperator) (w : Width) (a b : ℕ) (xs ys found : Bits) → Shows values (Number w a) xs → Shows values (Number w b) ys
    → length found ≡ length xs → number_of values found ≡ operation operator (length xs) (number_of values xs) (number_of values ys)
    → Shows values (Number w (operation operator (bits w) a b)) found
shown_by values operator w a b xs ys found x y long number = (
  long ∙ x.0,
  number ∙ ap (λ n. operation operator n (number_of values xs) (number_of values ys)) x.0
      ∙ ap (λ n. operation operator (bits w) n (number_of values ys)) x.1 ∙ ap (operation operator (bits w) a) y.1,
)

by_bits : (values : Valuation) (operator : WordOperator) (w : Width) (a b : ℕ) (xs ys found : Bits) → Shows values (Number w a) xs → Shows values (Number w b) ys
    → length found ≡ bits w → number_of values found ≡ operation operator (bits w) (number_of values xs) (number_of values ys)
    → Shows values (Number w (operation operator (bits w) a b)) found
by_bits values operator w a b xs ys found x y long number =
    (long, number ∙ ap (λ n. operation operator (bits w) n (number_of values ys)) x.1 ∙ ap (operation operator (bits w) a) y.1)

plain : (n : ℕ) → n + 0 ≡ n
plain n = omega arith

add_number : (values : Valuation) (xs ys : Bits) (last : ℕ) → values 1 ≡ true → length xs ≡ length ys → AllHold values last (sum_bits xs ys none last).gates
    → number_of values (sum_bits xs ys none last).out ≡ operation word.Add (length xs) (number_of values xs) (number_of values ys)
unfolding operation
add_number values xs ys last truth same all =
    sum_holds values xs ys none last same all
    ∙ ap (λ b. (number_of values xs + number_of values ys + digit b) % 2 ^ length xs) (holds-none values truth)
    ∙ ap (λ n. n % 2 ^ length xs) (plain (number_of values xs + number_of values ys))

subtract_number : (values : Valuation) (xs ys : Bits) (last : ℕ) → values 1 ≡ true → length xs ≡ length ys → AllHold values last (difference_bits xs ys last).gates
    → number_of values (difference_bits xs ys last).out ≡ operation word.Subtract (length xs) (number_of values xs) (number_of values ys)
unfolding operation
subtract_number values xs ys last truth same all = difference_holds values xs ys last same truth all

multiply_number : (values : Valuation) (xs ys : Bits) (last : ℕ) → values 1 ≡ true → length ys ≡ length xs → AllHold values last (product_bits xs ys last).gates
    → number_of values (product_bits xs ys last).out ≡ operation word.Multiply (length xs) (number_of values xs) (number_of values ys)
unfolding operation
multiply_number values xs ys last truth same all = product_holds values xs ys last truth same all

and_number : (values : Valuation) (xs ys : Bits) (last : ℕ) → length xs ≡ length ys → AllHold values last (each_two and_gate xs ys last).gates
    → number_of values (each_two and_gate xs ys last).out ≡ operation word.And (length xs) (number_of values xs) (number_of values ys)
unfolding operation
and_number values xs ys last same all =
    zips_number values ◌&&◌ bit_and refl and_bits xs ys (each_two and_gate xs ys last).out (each_two_zips values and_gate ◌&&◌ (and_gate_holds values) xs ys last same all)

or_number : (values : Valuation) (xs ys : Bits) (last : ℕ) → length xs ≡ length ys → AllHold values last (each_two or_gate xs ys last).gates
    → number_of values (each_two or_gate xs ys last).out ≡ operation word.Or (length xs) (number_of values xs) (number_of values ys)
unfolding operation
or_number values xs ys last same all =
    zips_number values ◌||◌ bit_or refl or_bits xs ys (each_two or_gate xs ys last).out (each_two_zips values or_gate ◌||◌ (or_gate_holds values) xs ys last same all)

xor_number : (values : Valuation) (xs ys : Bits) (last : ℕ) → length xs ≡ length ys → AllHold values last (each_two xor_gate xs ys last).gates
    → number_of values (each_two xor_gate xs ys last).out ≡ operation word.Xor (length xs) (number_of values xs) (number_of values ys)
unfolding operation
xor_number values xs ys last same all =
    zips_number values differ bit_xor refl xor_bits xs ys (each_two xor_gate xs ys last).out (each_two_zips values xor_gate differ (xor_gate_holds values) xs ys last same all)

abbrev pub is_divided : WordOperator → Bool
is_divided word.Divide = true
is_divided word.Remainder = true
is_divided operator = false

-- all but quotients and remainders
pub word_shows : (values : Valuation) (operator : WordOperator) (w : Width) (a b : ℕ) (xs ys : Bits) (last : ℕ) → values 1 ≡ true → is_divided operator ≡ false
    → Shows values (Number w a) xs → Shows values (Number w b) ys → AllHold values last (word_bits operator xs ys last).gates
    → Shows values (Number w (operation operator (bits w) a b)) (word_bits operator xs ys last).out
unfolding word_bits
word_shows values word.Add w a b xs ys last truth one x y all =
    shown_by values word.Add w a b xs ys (sum_bits xs ys none last).out x y (sum_length xs ys none last (x.0 ∙ sym y.0))
    (add_number values xs ys last truth (x.0 ∙ sym y.0) all)
word_shows values word.Subtract w a b xs ys last truth one x y all =
    shown_by values word.Subtract w a b xs ys (difference_bits xs ys last).out x y (sum_length xs (map negation ys) one_literal last (x.0 ∙ sym y.0 ∙ sym (length-map ys negation)))
    (subtract_number values xs ys last truth (x.0 ∙ sym y.0) all)
word_shows values word.Multiply w a b xs ys last truth one x y all =
    shown_by values word.Multiply w a b xs ys (product_bits xs ys last).out x y (product_length xs ys last (y.0 ∙ sym x.0))
    (multiply_number values xs ys last truth (y.0 ∙ sym x.0) all)
word_shows values word.And w a b xs ys last truth one x y all =
    shown_by values word.And w a b xs ys (each_two and_gate xs ys last).out x y (each_two_length and_gate xs ys last (x.0 ∙ sym y.0))
    (and_number values xs ys last (x.0 ∙ sym y.0) all)
word_shows values word.Or w a b xs ys last truth one x y all =
    shown_by values word.Or w a b xs ys (each_two or_gate xs ys last).out x y (each_two_length or_gate xs ys last (x.0 ∙ sym y.0))
    (or_number values xs ys last (x.0 ∙ sym y.0) all)
word_shows values word.Xor w a b xs ys last truth one x y all =
    shown_by values word.Xor w a b xs ys (each_two xor_gate xs ys last).out x y (each_two_length xor_gate xs ys last (x.0 ∙ sym y.0))
    (xor_number values xs ys last (x.0 ∙ sym y.0) all)
word_shows values word.ShiftLeft w a b xs ys last truth one x y all =
    let power = width_power w in
    by_bits values word.ShiftLeft w a b xs ys (shift_bits moved_up xs ys last).out x y
    (shift_left_length values (bits w) power.0 xs ys last truth power.1 x.0 all)
    (shift_left_holds values (bits w) power.0 xs ys last truth power.1 x.0 all)
word_shows values word.ShiftRight w a b xs ys last truth one x y all =
    let power = width_power w in
    by_bits values word.ShiftRight w a b xs ys (shift_bits (moved_down none) xs ys last).out x y
    (shift_right_length values (bits w) power.0 xs ys last truth power.1 x.0 all)
    (shift_right_holds values (bits w) power.0 xs ys last truth power.1 x.0 all)
word_shows values word.ShiftRightSigned w a b xs ys last truth one x y all =
    let power = width_power w in
    by_bits values word.ShiftRightSigned w a b xs ys (shift_signed_bits xs ys last).out x y
    (shift_signed_length values (bits w) power.0 xs ys last truth power.1 x.0 all)
    (shift_signed_holds values (bits w) power.0 xs ys last truth power.1 x.0 all)
word_shows values word.Divide w a b xs ys last truth one x y all = cc
word_shows values word.Remainder w a b xs ys last truth one x y all = cc

-- ---- choices

pub chosen_truths_show : (values : Valuation) (c a b : Bool) (test : Literal) (xs ys : Bits) (last : ℕ) → holds values test ≡ c → Shows values (Truth a) xs → Shows values (Truth b) ys
    → AllHold values last (choose_bits test xs ys last).gates → Shows values (if c then Truth a else Truth b) (choose_bits test xs ys last).out
chosen_truths_show values c a b test xs ys last e x y all = by_test c e
  where
    long : length (choose_bits test xs ys last).out ≡ length xs
    long = each_two_length (mux_gate test) xs ys last (x.0 ∙ sym y.0)

    number : number_of values (choose_bits test xs ys last).out ≡ (if holds values test then number_of values xs else number_of values ys)
    number = chosen_number values test xs ys last (x.0 ∙ sym y.0) all

    by_test : (c : Bool) → holds values test ≡ c → Shows values (if c then Truth a else Truth b) (choose_bits test xs ys last).out
    by_test true e = (long ∙ x.0, number ∙ ap (λ t. if t then number_of values xs else number_of values ys) e ∙ x.1)
    by_test false e = (long ∙ x.0, number ∙ ap (λ t. if t then number_of values xs else number_of values ys) e ∙ y.1)

pub chosen_words_show : (values : Valuation) (c : Bool) (w : Width) (a b : ℕ) (test : Literal) (xs ys : Bits) (last : ℕ) → holds values test ≡ c
    → Shows values (Number w a) xs → Shows values (Number w b) ys
    → AllHold values last (choose_bits test xs ys last).gates → Shows values (if c then Number w a else Number w b) (choose_bits test xs ys last).out
chosen_words_show values c w a b test xs ys last e x y all = by_test c e
  where
    long : length (choose_bits test xs ys last).out ≡ length xs
    long = each_two_length (mux_gate test) xs ys last (x.0 ∙ sym y.0)

    number : number_of values (choose_bits test xs ys last).out ≡ (if holds values test then number_of values xs else number_of values ys)
    number = chosen_number values test xs ys last (x.0 ∙ sym y.0) all

    by_test : (c : Bool) → holds values test ≡ c → Shows values (if c then Number w a else Number w b) (choose_bits test xs ys last).out
    by_test true e = (long ∙ x.0, number ∙ ap (λ t. if t then number_of values xs else number_of values ys) e ∙ x.1)
    by_test false e = (long ∙ x.0, number ∙ ap (λ t. if t then number_of values xs else number_of values ys) e ∙ y.1)
