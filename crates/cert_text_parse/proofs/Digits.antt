-- Digits, one after the other.
use Rattle.std.specs.Prelude.{◌-◌, ◌*◌, ◌/◌, ◌%◌, nat_lt, nat_le, ◌&&◌, slice_get}
use Rattle.std.proofs.Common.{◌≡◌, ◌≢◌, ℕ, zero, suc, ◌+◌, ◌≤◌, ◌<◌, ◌^◌, Bool, true, false, not, List, [], ◌∷◌, ◌++◌, length, get_or, take, drop, Option, Some, None, Ok, refl, ap, sym, ◌∙◌, subst, cond, arith, drop-cons, append-nil, append_assoc}
use Rattle.std.proofs.lemmas.Bool.Decides.{nat_tests}
use Rattle.std.proofs.lemmas.Option.{same_Some}
use Rattle.exact_read.specs.Grammar.{bind}
use Rattle.cert_text_spec.specs.Lines.{is_digit, is_letter, is_of_name}
use Rattle.cert_text_laws.specs.Readers.{refused, given, read_digits, read_decimal, is_hexadecimal, digit_value, read_hexadecimal, read_letters, read_name}
use Rattle.cert_text_parse.specs.Outcomes.{next_digit, next_hexadecimal, longer}

-- ---- decimals

below_most : (n most : ℕ) → nat_lt n (suc most) ≡ nat_le n most
below_most n most = grind (arith, nat_tests)

pub longer_none : (value digit most : ℕ) → most < value * 10 + digit → longer value digit most ≡ None
longer_none value digit most h = by_test (nat_lt 0 value) (nat_le (value * 10 + digit) most) above
  where
    above : nat_le (value * 10 + digit) most ≡ false
    above = grind (arith, nat_tests)

    by_test : (a b : Bool) → b ≡ false → cond (a && b) (Some (value * 10 + digit)) None ≡ None
    by_test true true e = absurd (cc)
    by_test true false e = refl
    by_test false b e = refl

pub longer_some : (value digit most : ℕ) → 0 < value → value * 10 + digit ≤ most → longer value digit most ≡ Some (value * 10 + digit)
longer_some value digit most p h = rw (positive, within) refl
  where
    positive : nat_lt 0 value ≡ true
    positive = grind (arith, nat_tests)

    within : nat_le (value * 10 + digit) most ≡ true
    within = grind (arith, nat_tests)

-- the digit that comes next
record NextDigit (text : List ℕ) (digit : ℕ) : Type 0 where
  byte : ℕ
  more : List ℕ
  is : text ≡ byte ∷ more
  is_one : is_digit byte ≡ true
  same : byte - 48 ≡ digit

next_is : (text : List ℕ) (digit : ℕ) → next_digit text ≡ Some digit → NextDigit text digit
next_is [] digit e = absurd (cc)
next_is (c ∷ text) digit e = by_test (is_digit c) refl e
  where
    by_test : (b : Bool) → is_digit c ≡ b → cond b (Some (c - 48)) None ≡ Some digit → NextDigit (c ∷ text) digit
    by_test true h f = record { byte = c; more = text; is = refl; is_one = h; same = same_Some (c - 48) digit f }
    by_test false h f = absurd (cc)

pub digits_more : (most value digit next : ℕ) (text : List ℕ) → next_digit text ≡ Some digit → longer value digit most ≡ Some next → read_digits (suc most) value text ≡ read_digits (suc most) next (drop 1 text)
digits_more most value digit next text e f = by_next (next_is text digit e)
  where
    by_test : (b : Bool) → cond b (Some (value * 10 + digit)) None ≡ Some next → (more rest : List ℕ)
        → cond b (read_digits (suc most) (value * 10 + digit) more) (refused rest) ≡ read_digits (suc most) next more
    by_test true h more rest = ap (λ n. read_digits (suc most) n more) (same_Some (value * 10 + digit) next h)
    by_test false h more rest = absurd (cc)

    by_next : NextDigit text digit → read_digits (suc most) value text ≡ read_digits (suc most) next (drop 1 text)
    by_next n = rw (n.is, n.is_one, n.same, below_most (value * 10 + digit) most) (by_test (nat_lt 0 value && nat_le (value * 10 + digit) most) f n.more (n.byte ∷ n.more))

pub digits_wrong : (most value digit : ℕ) (text : List ℕ) → next_digit text ≡ Some digit → longer value digit most ≡ None → read_digits (suc most) value text ≡ refused text
digits_wrong most value digit text e f = by_next (next_is text digit e)
  where
    by_test : (b : Bool) → cond b (Some (value * 10 + digit)) None ≡ None → (more rest : List ℕ)
        → cond b (read_digits (suc most) (value * 10 + digit) more) (refused rest) ≡ refused rest
    by_test true h more rest = absurd (cc)
    by_test false h more rest = refl

    by_next : NextDigit text digit → read_digits (suc most) value text ≡ refused text
    by_next n = rw (n.is, n.is_one, n.same, below_most (value * 10 + digit) most) (by_test (nat_lt 0 value && nat_le (value * 10 + digit) most) f n.more (n.byte ∷ n.more))

pub digits_end : (bound value : ℕ) (text : List ℕ) → next_digit text ≡ None → read_digits bound value text ≡ given value text
digits_end bound value [] e = refl
digits_end bound value (c ∷ text) e = by_test (is_digit c) e
  where
    by_test : (b : Bool) → cond b (Some (c - 48)) None ≡ None → cond b (cond (nat_lt 0 value && nat_lt (value * 10 + (c - 48)) bound) (read_digits bound (value * 10 + (c - 48)) text) (refused (c ∷ text))) (given value (c ∷ text)) ≡ given value (c ∷ text)
    by_test true h = absurd (cc)
    by_test false h = refl

pub decimal_starts : (low bound digit : ℕ) (text : List ℕ) → next_digit text ≡ Some digit → low ≤ digit → read_decimal low bound text ≡ read_digits bound digit (drop 1 text)
decimal_starts low bound digit text e h = by_next (next_is text digit e)
  where
    within : nat_le low digit ≡ true
    within = grind (arith, nat_tests)

    by_next : NextDigit text digit → read_decimal low bound text ≡ read_digits bound digit (drop 1 text)
    by_next n = rw (n.is, n.is_one, n.same, within) refl

pub decimal_low : (low bound digit : ℕ) (text : List ℕ) → next_digit text ≡ Some digit → digit < low → read_decimal low bound text ≡ refused text
decimal_low low bound digit text e h = by_next (next_is text digit e)
  where
    below : nat_le low digit ≡ false
    below = grind (arith, nat_tests)

    by_next : NextDigit text digit → read_decimal low bound text ≡ refused text
    by_next n = rw (n.is, n.is_one, n.same, below) refl

pub decimal_none : (low bound : ℕ) (text : List ℕ) → next_digit text ≡ None → read_decimal low bound text ≡ refused text
decimal_none low bound [] e = refl
decimal_none low bound (c ∷ text) e = by_test (is_digit c) e
  where
    by_test : (b : Bool) → cond b (Some (c - 48)) None ≡ None → cond (b && nat_le low (c - 48)) (read_digits bound (c - 48) text) (refused (c ∷ text)) ≡ refused (c ∷ text)
    by_test true h = absurd (cc)
    by_test false h = refl

-- ---- hexadecimal digits

pub hexadecimal_taken : (digit : ℕ) (text : List ℕ) → next_hexadecimal text ≡ Some digit → (more value : ℕ) → read_hexadecimal (1 + more) value text ≡ read_hexadecimal more (value * 16 + digit) (drop 1 text)
hexadecimal_taken digit [] e more value = absurd (cc)
hexadecimal_taken digit (c ∷ text) e more value = rw one_more (by_test (is_hexadecimal c) e)
  where
    one_more : 1 + more ≡ suc more
    one_more = omega arith

    by_test : (b : Bool) → cond b (Some (digit_value c)) None ≡ Some digit → cond b (read_hexadecimal more (value * 16 + digit_value c) text) (refused (c ∷ text)) ≡ read_hexadecimal more (value * 16 + digit) text
    by_test true h = ap (λ d. read_hexadecimal more (value * 16 + d) text) (same_Some (digit_value c) digit h)
    by_test false h = absurd (cc)

pub hexadecimal_small : (digit : ℕ) (text : List ℕ) → next_hexadecimal text ≡ Some digit → digit < 16
hexadecimal_small digit [] e = absurd (cc)
hexadecimal_small digit (c ∷ text) e = by_test (is_hexadecimal c) refl e
  where
    small : (b : Bool) → is_digit c ≡ b → cond b true (nat_le 97 c && nat_le c 102) ≡ true → cond b (c - 48) (c - 87) < 16
    small true d h = grind (arith, nat_tests)
    small false d h = grind (arith, nat_tests)

    by_test : (b : Bool) → is_hexadecimal c ≡ b → cond b (Some (digit_value c)) None ≡ Some digit → digit < 16
    by_test true h f = subst (λ d. d < 16) (same_Some (digit_value c) digit f) (small (is_digit c) refl h)
    by_test false h f = absurd (cc)

pub hexadecimal_refused : (text : List ℕ) → next_hexadecimal text ≡ None → (more value : ℕ) → read_hexadecimal (1 + more) value text ≡ refused text
hexadecimal_refused [] e more value = rw one_more refl
  where
    one_more : 1 + more ≡ suc more
    one_more = omega arith
hexadecimal_refused (c ∷ text) e more value = rw one_more (by_test (is_hexadecimal c) e)
  where
    one_more : 1 + more ≡ suc more
    one_more = omega arith

    by_test : (b : Bool) → cond b (Some (digit_value c)) None ≡ None → cond b (read_hexadecimal more (value * 16 + digit_value c) text) (refused (c ∷ text)) ≡ refused (c ∷ text)
    by_test true h = absurd (cc)
    by_test false h = refl

-- ---- names

-- a name goes on from its first bytes
pub record Through (text : List ℕ) (n : ℕ) : Type 0 where
  pub goes : (name rest : List ℕ) → read_letters (drop n text) ≡ given name rest → read_name text ≡ given (take n text ++ name) rest

pub name_begins : (text : List ℕ) → 0 < length text → is_letter (get_or text 0 0) ≡ true → Through text 1
name_begins [] l e = absurd (omega arith)
name_begins (c ∷ text) l e = record { goes = λ name rest h. rw e (ap (λ o. bind o (λ name rest. given (c ∷ name) rest)) h) }

name_goes_on : (text : List ℕ) (n : ℕ) → n < length text → is_of_name (get_or text n 0) ≡ true → Through text n → Through text (suc n)
name_goes_on text n l e t = record {
  goes = λ name rest h.
      let letters : read_letters (drop n text) ≡ given (get_or text n 0 ∷ name) rest = rw (drop-cons text n 0, e) (ap (λ o. bind o (λ name rest. given (get_or text n 0 ∷ name) rest)) h) in
      t.goes (get_or text n 0 ∷ name) rest letters ∙ ap (λ m. given m rest) (sym (ap (λ m. m ++ name) (take_next text n l) ∙ append_assoc (take n text) (get_or text n 0 ∷ []) name));
}
  where
    take_next : (text : List ℕ) (n : ℕ) → n < length text → take (suc n) text ≡ take n text ++ get_or text n 0 ∷ []
    take_next [] n l = absurd (omega arith)
    take_next (c ∷ text) zero l = refl
    take_next (c ∷ text) (suc n) l = ap (λ t. c ∷ t) (take_next text n (omega arith))

pub name_next : (text : List ℕ) (n : ℕ) → n < length text → is_of_name (get_or text n 0) ≡ true → Through text n → Through text (n + 1)
name_next text n l e t = subst (λ m. Through text m) (one_more n) (name_goes_on text n l e t)
  where
    one_more : (n : ℕ) → suc n ≡ n + 1
    one_more n = omega arith

pub name_ends : (text : List ℕ) (n : ℕ) → (n < length text → is_of_name (get_or text n 0) ≡ false) → Through text n → read_name text ≡ given (take n text) (drop n text)
name_ends text n stops t = t.goes [] (drop n text) (no_letters text n stops) ∙ ap (λ m. given m (drop n text)) (append-nil (take n text))
  where
    no_letters : (text : List ℕ) (n : ℕ) → (n < length text → is_of_name (get_or text n 0) ≡ false) → read_letters (drop n text) ≡ given [] (drop n text)
    no_letters [] zero h = refl
    no_letters [] (suc n) h = refl
    no_letters (c ∷ text) zero h = rw (h (omega arith)) refl
    no_letters (c ∷ text) (suc n) h = no_letters text n (λ l. h (omega arith))

pub name_refused : (text : List ℕ) → (0 < length text → is_letter (get_or text 0 0) ≡ false) → read_name text ≡ refused text
name_refused [] h = refl
name_refused (c ∷ text) h = rw (h (omega arith)) refl
