-- Addresses of eight digits are read exactly.
use Rattle.std.specs.Prelude.{◌-◌, ◌*◌, ◌/◌, ◌%◌, slice_index}
use Rattle.std.proofs.Common.{◌≡◌, ℕ, zero, suc, ◌+◌, ◌≤◌, ◌<◌, Bool, true, false, List, [], ◌∷◌, ◌++◌, Err, refl, ap, sym, ◌∙◌, subst, cond, arith}
use Rattle.std.proofs.lemmas.Bool.Decides.{nat_tests}
use Rattle.hex.specs.Hex.{encode_with, lower_digits}
use Rattle.exact_read.specs.Reading.{LimitExceeded}
use Rattle.exact_read.specs.Grammar.{anything}
use Rattle.exact_read.proofs.Parts.{stops_anything}
use Rattle.cert_text_spec.specs.Points.{IsNumber, address_text}
use Rattle.cert_text_spec.specs.Lines.{is_digit}
use Rattle.cert_text_laws.specs.Readers.{refused, given, Reads, is_small_letter, is_hexadecimal, digit_value, read_hexadecimal, read_address}
use Rattle.cert_text_laws.proofs.Bytes.{Simply, exact-simply, given_parts, refused_rest, refused_kind}
use Rattle.cert_text_laws.proofs.Decimals.{digit_bounds}

-- an address in its digits
pub record Address (value : ℕ) (text : List ℕ) : Type 0 where
  pub number : IsNumber value
  pub is : text ≡ address_text value

-- the digit of a number below 16
glyph : ℕ → ℕ
glyph d = slice_index lower_digits d

record IsDigitOf (d c : ℕ) : Type 0 where
  digit : is_hexadecimal c ≡ true
  value : digit_value c ≡ d

glyph_reads : (d : ℕ) → d < 16 → IsDigitOf d (glyph d)
unfolding glyph
glyph_reads zero h = record { digit = refl; value = refl }
glyph_reads (suc zero) h = record { digit = refl; value = refl }
glyph_reads (suc (suc zero)) h = record { digit = refl; value = refl }
glyph_reads (suc (suc (suc zero))) h = record { digit = refl; value = refl }
glyph_reads (suc (suc (suc (suc zero)))) h = record { digit = refl; value = refl }
glyph_reads (suc (suc (suc (suc (suc zero))))) h = record { digit = refl; value = refl }
glyph_reads (suc (suc (suc (suc (suc (suc zero)))))) h = record { digit = refl; value = refl }
glyph_reads (suc (suc (suc (suc (suc (suc (suc zero))))))) h = record { digit = refl; value = refl }
glyph_reads (suc (suc (suc (suc (suc (suc (suc (suc zero)))))))) h = record { digit = refl; value = refl }
glyph_reads (suc (suc (suc (suc (suc (suc (suc (suc (suc zero))))))))) h = record { digit = refl; value = refl }
glyph_reads (suc (suc (suc (suc (suc (suc (suc (suc (suc (suc zero)))))))))) h = record { digit = refl; value = refl }
glyph_reads (suc (suc (suc (suc (suc (suc (suc (suc (suc (suc (suc zero))))))))))) h = record { digit = refl; value = refl }
glyph_reads (suc (suc (suc (suc (suc (suc (suc (suc (suc (suc (suc (suc zero)))))))))))) h = record { digit = refl; value = refl }
glyph_reads (suc (suc (suc (suc (suc (suc (suc (suc (suc (suc (suc (suc (suc zero))))))))))))) h = record { digit = refl; value = refl }
glyph_reads (suc (suc (suc (suc (suc (suc (suc (suc (suc (suc (suc (suc (suc (suc zero)))))))))))))) h = record { digit = refl; value = refl }
glyph_reads (suc (suc (suc (suc (suc (suc (suc (suc (suc (suc (suc (suc (suc (suc (suc zero))))))))))))))) h = record { digit = refl; value = refl }
glyph_reads (suc (suc (suc (suc (suc (suc (suc (suc (suc (suc (suc (suc (suc (suc (suc (suc d)))))))))))))))) h = absurd (omega arith)

glyph_low : (k : ℕ) → k < 10 → glyph k ≡ 48 + k
unfolding glyph
glyph_low zero h = refl
glyph_low (suc zero) h = refl
glyph_low (suc (suc zero)) h = refl
glyph_low (suc (suc (suc zero))) h = refl
glyph_low (suc (suc (suc (suc zero)))) h = refl
glyph_low (suc (suc (suc (suc (suc zero))))) h = refl
glyph_low (suc (suc (suc (suc (suc (suc zero)))))) h = refl
glyph_low (suc (suc (suc (suc (suc (suc (suc zero))))))) h = refl
glyph_low (suc (suc (suc (suc (suc (suc (suc (suc zero)))))))) h = refl
glyph_low (suc (suc (suc (suc (suc (suc (suc (suc (suc zero))))))))) h = refl
glyph_low (suc (suc (suc (suc (suc (suc (suc (suc (suc (suc k)))))))))) h = absurd (omega arith)

glyph_high : (k : ℕ) → k < 6 → glyph (10 + k) ≡ 97 + k
unfolding glyph
glyph_high zero h = refl
glyph_high (suc zero) h = refl
glyph_high (suc (suc zero)) h = refl
glyph_high (suc (suc (suc zero))) h = refl
glyph_high (suc (suc (suc (suc zero)))) h = refl
glyph_high (suc (suc (suc (suc (suc zero))))) h = refl
glyph_high (suc (suc (suc (suc (suc (suc k)))))) h = absurd (omega arith)

letter_bounds : (c : ℕ) → is_small_letter c ≡ true → (97 ≤ c) × (c ≤ 102)
letter_bounds c e = grind (arith, nat_tests)

-- a digit has a value below 16, and is the digit of it
record HasValue (c : ℕ) : Type 0 where
  small : digit_value c < 16
  same : glyph (digit_value c) ≡ c

has_value : (c : ℕ) → is_hexadecimal c ≡ true → HasValue c
has_value c e = by_test (is_digit c) refl e
  where
    low : (c : ℕ) → 48 ≤ c → c ≤ 57 → glyph (c - 48) ≡ c
    low c a b = glyph_low (c - 48) (omega arith) ∙ omega arith

    high : (c : ℕ) → 97 ≤ c → c ≤ 102 → glyph (c - 87) ≡ c
    high c a b = ap glyph (split c a) ∙ glyph_high (c - 97) (omega arith) ∙ omega arith
      where
        split : (c : ℕ) → 97 ≤ c → c - 87 ≡ 10 + (c - 97)
        split c a = omega arith

    by_test : (b : Bool) → is_digit c ≡ b → cond b true (is_small_letter c) ≡ true → HasValue c
    by_test true digit h =
        let b = digit_bounds c digit in
        let v : digit_value c ≡ c - 48 = rw digit refl in
        record { small = omega arith; same = ap glyph v ∙ low c b.0 b.1 }
    by_test false digit h =
        let b = letter_bounds c h in
        let v : digit_value c ≡ c - 87 = rw digit refl in
        record { small = omega arith; same = ap glyph v ∙ high c b.0 b.1 }

-- what is above the last digits, and those digits
top : (digits value : ℕ) → ℕ
top zero value = value
top (suc digits) value = top digits value / 16

last_digits : (digits value : ℕ) → List ℕ
last_digits zero value = []
last_digits (suc digits) value = glyph (top digits value % 16) ∷ last_digits digits value

eight_digits : (value : ℕ) → address_text value ≡ last_digits 8 value
unfolding last_digits top glyph encode_with
eight_digits value =
    same8 (glyph_at (omega arith)) (glyph_at (omega arith)) (glyph_at (omega arith)) (glyph_at (omega arith)) (glyph_at (omega arith)) (glyph_at (omega arith)) (glyph_at (omega arith)) (glyph_at (omega arith))
  where
    glyph_at : {m n : ℕ} → m ≡ n → slice_index lower_digits m ≡ slice_index lower_digits n
    glyph_at e = ap (slice_index lower_digits) e

    same8 : {a b c d e f g h a' b' c' d' e' f' g' h' : ℕ} → a ≡ a' → b ≡ b' → c ≡ c' → d ≡ d' → e ≡ e' → f ≡ f' → g ≡ g' → h ≡ h'
        → a ∷ b ∷ c ∷ d ∷ e ∷ f ∷ g ∷ h ∷ [] ≡ a' ∷ b' ∷ c' ∷ d' ∷ e' ∷ f' ∷ g' ∷ h' ∷ []
    same8 p q r s t u v w = cc

-- it has a first digit
pub address_first : (value : ℕ) → (c : ℕ) × (more : List ℕ) × (address_text value ≡ c ∷ more)
unfolding last_digits
address_first value = (glyph (top 7 value % 16), last_digits 7 value, eight_digits value)

small_top : (value : ℕ) → top 8 value ≡ 0 → IsNumber value
unfolding top
small_top value e = omega arith

top_small : (value : ℕ) → IsNumber value → top 8 value ≡ 0
unfolding top
top_small value h = omega arith

-- the digits of a value are read
again_digits : (digits value : ℕ) (rest : List ℕ) → read_hexadecimal digits (top digits value) (last_digits digits value ++ rest) ≡ given value rest
unfolding top last_digits
again_digits zero value rest = refl
again_digits (suc digits) value rest =
    let d : top digits value % 16 < 16 = omega arith in
    let g = glyph_reads (top digits value % 16) d in
    rw (g.digit, g.value, joined (top digits value)) (again_digits digits value rest)
  where
    joined : (n : ℕ) → n / 16 * 16 + n % 16 ≡ n
    joined n = omega arith

record Last (digits value : ℕ) (before : List ℕ) (result : ℕ) (rest : List ℕ) : Type 0 where
  cut : before ≡ last_digits digits result ++ rest
  above : top digits result ≡ value

taken_digits : (digits value : ℕ) (before : List ℕ) (result : ℕ) (rest : List ℕ) → read_hexadecimal digits value before ≡ given result rest → Last digits value before result rest
unfolding top last_digits
taken_digits zero value before result rest e = let p = given_parts e in record { cut = p.1; above = sym p.0 }
taken_digits (suc digits) value [] result rest e = absurd (cc)
taken_digits (suc digits) value (c ∷ before) result rest e = by_test (is_hexadecimal c) refl e (λ h. taken_digits digits (value * 16 + digit_value c) before result rest h)
  where
    by_test : (b : Bool) → is_hexadecimal c ≡ b → cond b (read_hexadecimal digits (value * 16 + digit_value c) before) (refused (c ∷ before)) ≡ given result rest
        → (read_hexadecimal digits (value * 16 + digit_value c) before ≡ given result rest → Last digits (value * 16 + digit_value c) before result rest) → Last (suc digits) value (c ∷ before) result rest
    by_test false digit h again = absurd (cc)
    by_test true digit h again =
        let v = has_value c digit in
        let l = again h in
        record {
          cut = ap (λ t. c ∷ t) l.cut ∙ ap (λ k. k ∷ (last_digits digits result ++ rest)) (sym (ap (λ n. glyph (n % 16)) l.above ∙ ap glyph (remainder value (digit_value c) v.small) ∙ v.same));
          above = ap (λ n. n / 16) l.above ∙ quotient value (digit_value c) v.small;
        }
      where
        remainder : (n d : ℕ) → d < 16 → (n * 16 + d) % 16 ≡ d
        remainder n d h = omega arith

        quotient : (n d : ℕ) → d < 16 → (n * 16 + d) / 16 ≡ n
        quotient n d h = omega arith

-- some value with these digits above
lowest : (digits value : ℕ) → ℕ
lowest zero value = value
lowest (suc digits) value = lowest digits (value * 16)

top-lowest : (digits value : ℕ) → top digits (lowest digits value) ≡ value
unfolding top lowest
top-lowest zero value = refl
top-lowest (suc digits) value = ap (λ n. n / 16) (top-lowest digits (value * 16)) ∙ quotient value
  where
    quotient : (n : ℕ) → n * 16 / 16 ≡ n
    quotient n = omega arith

record Halted (digits value : ℕ) (before rest : List ℕ) : Type 0 where
  prefix : List ℕ
  cut : before ≡ prefix ++ rest
  result : ℕ
  more : List ℕ
  is : last_digits digits result ≡ prefix ++ more
  above : top digits result ≡ value
  whatever : (c : ℕ) (old new : List ℕ) → rest ≡ c ∷ old → read_hexadecimal digits value (prefix ++ c ∷ new) ≡ refused (c ∷ new)

wrong_digits : (digits value : ℕ) (before rest : List ℕ) → read_hexadecimal digits value before ≡ refused rest → Halted digits value before rest
unfolding top last_digits
wrong_digits zero value before rest e = absurd (cc)
wrong_digits (suc digits) value [] rest e =
    let r : [] ≡ rest = refused_rest {X = ℕ} e in
    record {
      prefix = [];
      cut = r;
      result = lowest (suc digits) value;
      more = last_digits (suc digits) (lowest (suc digits) value);
      is = refl;
      above = top-lowest (suc digits) value;
      whatever = λ c old new here. let same : [] ≡ c ∷ old = r ∙ here in absurd (cc);
    }
wrong_digits (suc digits) value (c ∷ before) rest e = by_test (is_hexadecimal c) refl e (λ h. wrong_digits digits (value * 16 + digit_value c) before rest h)
  where
    by_test : (b : Bool) → is_hexadecimal c ≡ b → cond b (read_hexadecimal digits (value * 16 + digit_value c) before) (refused (c ∷ before)) ≡ refused rest
        → (read_hexadecimal digits (value * 16 + digit_value c) before ≡ refused rest → Halted digits (value * 16 + digit_value c) before rest) → Halted (suc digits) value (c ∷ before) rest
    by_test false digit h again =
        let r : c ∷ before ≡ rest = refused_rest {X = ℕ} h in
        record {
          prefix = [];
          cut = r;
          result = lowest (suc digits) value;
          more = last_digits (suc digits) (lowest (suc digits) value);
          is = refl;
          above = top-lowest (suc digits) value;
          whatever = λ d old new here. let same : c ∷ before ≡ d ∷ old = r ∙ here in let s : c ≡ d = cc in subst (λ k. read_hexadecimal (suc digits) value (k ∷ new) ≡ refused (k ∷ new)) s (rw digit refl);
        }
    by_test true digit h again =
        let v = has_value c digit in
        let l = again h in
        record {
          prefix = c ∷ l.prefix;
          cut = ap (λ t. c ∷ t) l.cut;
          result = l.result;
          more = l.more;
          is = ap (λ t. glyph (top digits l.result % 16) ∷ t) l.is ∙ ap (λ k. k ∷ (l.prefix ++ l.more)) (ap (λ n. glyph (n % 16)) l.above ∙ ap glyph (remainder value (digit_value c) v.small) ∙ v.same);
          above = ap (λ n. n / 16) l.above ∙ quotient value (digit_value c) v.small;
          whatever = λ d old new here. rw digit (l.whatever d old new here);
        }
      where
        remainder : (n d : ℕ) → d < 16 → (n * 16 + d) % 16 ≡ d
        remainder n d h = omega arith

        quotient : (n d : ℕ) → d < 16 → (n * 16 + d) / 16 ≡ n
        quotient n d h = omega arith

never_digits : (digits value : ℕ) (before rest : List ℕ) → read_hexadecimal digits value before ≡ Err (LimitExceeded, rest) → ⊥
never_digits zero value before rest e = cc
never_digits (suc digits) value [] rest e = refused_kind {X = ℕ} e
never_digits (suc digits) value (c ∷ before) rest e = by_test (is_hexadecimal c) e (λ h. never_digits digits (value * 16 + digit_value c) before rest h)
  where
    by_test : (b : Bool) → cond b (read_hexadecimal digits (value * 16 + digit_value c) before) (refused (c ∷ before)) ≡ Err (LimitExceeded, rest) → (read_hexadecimal digits (value * 16 + digit_value c) before ≡ Err (LimitExceeded, rest) → ⊥) → ⊥
    by_test true h again = again h
    by_test false h again = refused_kind {X = ℕ} h

pub simply-address : Simply Address anything read_address
simply-address =
    record {
      takes = λ before value rest e. let l = taken_digits 8 0 before value rest e in
          record { text = last_digits 8 value; cut = l.cut; derives = record { number = small_top value l.above; is = sym (eight_digits value) }; stops = stops_anything rest };
      again = λ value text rest a stops.
          ap (λ t. read_hexadecimal 8 0 (t ++ rest)) (a.is ∙ eight_digits value)
          ∙ ap (λ n. read_hexadecimal 8 n (last_digits 8 value ++ rest)) (sym (top_small value a.number))
          ∙ again_digits 8 value rest;
      wrongs = λ before rest e. let l = wrong_digits 8 0 before rest e in
          record { prefix = l.prefix; cut = l.cut; value = l.result; more = l.more; derives = record { number = small_top l.result l.above; is = sym l.is ∙ sym (eight_digits l.result) }; whatever = l.whatever };
      never = λ before rest e. never_digits 8 0 before rest e;
    }

pub reads-address : Reads Address anything read_address
reads-address = record { exact = exact-simply simply-address; sample = 0; sample_text = address_text 0; derives = record { number = omega arith; is = refl } }
