-- Decimals without leading zeros are read exactly.
use Rattle.std.specs.Prelude.{◌-◌, ◌*◌, ◌/◌, ◌%◌, nat_lt, nat_le, decimal}
use Rattle.std.proofs.Common.{◌≡◌, ℕ, ◌+◌, ◌≤◌, ◌<◌, ◌^◌, Bool, true, false, ◌&&◌, not, List, [], ◌∷◌, ◌++◌, Err, refl, ap, sym, ◌∙◌, subst, cond, append-nil, append_assoc, arith, IsTrue}
use Rattle.std.proofs.lemmas.Bool.Decides.{nat_tests}
use Rattle.std.proofs.lemmas.Fmt.{decimal_digit, decimal_step, decimal_by_steps}
use Rattle.exact_read.specs.Reading.{LimitExceeded, Stops}
use Rattle.cert_text_spec.specs.Lines.{is_digit}
use Rattle.cert_text_laws.specs.Readers.{refused, given, Reads, not_digit, read_digits, read_decimal}
use Rattle.cert_text_laws.proofs.Bytes.{Taken, Refused, Simply, exact-simply, given_parts, refused_rest, refused_kind}

-- a decimal of a number from `low` to below the bound
pub record Decimal (low bound value : ℕ) (text : List ℕ) : Type 0 where
  pub from : low ≤ value
  pub below : value < bound
  pub is : text ≡ decimal value

pub is_digit_true : (d : ℕ) → d < 10 → is_digit (48 + d) ≡ true
is_digit_true d h = grind (arith, nat_tests)

pub digit_bounds : (c : ℕ) → is_digit c ≡ true → (48 ≤ c) × (c ≤ 57)
digit_bounds c e = grind (arith, nat_tests)

lt_true : (a b : ℕ) → a < b → nat_lt a b ≡ true
lt_true a b h = grind (arith, nat_tests)

lt_of : (a b : ℕ) → nat_lt a b ≡ true → a < b
lt_of a b e = grind (arith, nat_tests)

le_true : (a b : ℕ) → a ≤ b → nat_le a b ≡ true
le_true a b h = grind (arith, nat_tests)

le_of : (a b : ℕ) → nat_le a b ≡ true → a ≤ b
le_of a b e = grind (arith, nat_tests)

and_parts : (a b : Bool) → (a && b) ≡ true → (a ≡ true) × (b ≡ true)
and_parts true true e = (refl, refl)
and_parts true false e = absurd (cc)
and_parts false b e = absurd (cc)

-- one digit more
next_decimal : (v c : ℕ) → 0 < v → v * 10 + (c - 48) < 2 ^ 64 → is_digit c ≡ true → decimal (v * 10 + (c - 48)) ≡ decimal v ++ c ∷ []
next_decimal v c positive small digit =
    let b = digit_bounds c digit in
    let d : c - 48 < 10 = omega arith in
    decimal_step (v * 10 + (c - 48)) (omega arith) small
    ∙ ap (λ k. decimal k ++ (48 + (v * 10 + (c - 48)) % 10) ∷ []) (quotient v (c - 48) d)
    ∙ ap (λ k. decimal v ++ k ∷ []) (ap (λ r. 48 + r) (remainder v (c - 48) d) ∙ back c b.0)
  where
    quotient : (v d : ℕ) → d < 10 → (v * 10 + d) / 10 ≡ v
    quotient v d h = omega arith

    remainder : (v d : ℕ) → d < 10 → (v * 10 + d) % 10 ≡ d
    remainder v d h = omega arith

    back : (c : ℕ) → 48 ≤ c → 48 + (c - 48) ≡ c
    back c h = omega arith

first_decimal_digit : (c : ℕ) → is_digit c ≡ true → decimal (c - 48) ≡ c ∷ []
first_decimal_digit c digit =
    let b = digit_bounds c digit in
    decimal_digit (c - 48) (omega arith) ∙ ap (λ k. k ∷ []) (back c b.0)
  where
    back : (c : ℕ) → 48 ≤ c → 48 + (c - 48) ≡ c
    back c h = omega arith

-- what was read after the digits of `value`
record More (bound value : ℕ) (before : List ℕ) (result : ℕ) (rest : List ℕ) : Type 0 where
  more : List ℕ
  cut : before ≡ more ++ rest
  is : decimal result ≡ decimal value ++ more
  below : result < bound
  above : value ≤ result
  stops : Stops not_digit rest

-- a digit that is wrong after those of a number
record Ended (bound value : ℕ) (before rest : List ℕ) : Type 0 where
  more : List ℕ
  cut : before ≡ more ++ rest
  result : ℕ
  is : decimal result ≡ decimal value ++ more
  below : result < bound
  above : value ≤ result
  again : (c : ℕ) (old new : List ℕ) → rest ≡ c ∷ old → read_digits bound result (c ∷ new) ≡ refused (c ∷ new)

module _ (bound : ℕ) (small : bound ≤ 2 ^ 64) where
  taken_digits : (value : ℕ) (before : List ℕ) (result : ℕ) (rest : List ℕ) → value < bound → read_digits bound value before ≡ given result rest → More bound value before result rest
  taken_digits value [] result rest h e =
      let p = given_parts e in
      subst (λ r. More bound value [] result r) p.1 (subst (λ v. More bound value [] v []) p.0 (record { more = []; cut = refl; is = sym (append-nil (decimal value)); below = h; above = omega arith; stops = tt }))
  taken_digits value (c ∷ before) result rest h e = by_digit (is_digit c) refl e (λ v b f. taken_digits v before result rest b f)
    where
      by_room : (b : Bool) → is_digit c ≡ true → (nat_lt 0 value && nat_lt (value * 10 + (c - 48)) bound) ≡ b
          → cond b (read_digits bound (value * 10 + (c - 48)) before) (refused (c ∷ before)) ≡ given result rest
          → ((v : ℕ) → v < bound → read_digits bound v before ≡ given result rest → More bound v before result rest) → More bound value (c ∷ before) result rest
      by_room false digit fits h' again = absurd (cc)
      by_room true digit fits h' again =
          let p = and_parts (nat_lt 0 value) (nat_lt (value * 10 + (c - 48)) bound) fits in
          let positive = lt_of 0 value p.0 in
          let below = lt_of (value * 10 + (c - 48)) bound p.1 in
          let m = again (value * 10 + (c - 48)) below h' in
          record {
            more = c ∷ m.more;
            cut = ap (λ t. c ∷ t) m.cut;
            is = m.is ∙ ap (λ t. t ++ m.more) (next_decimal value c positive (omega arith) digit) ∙ append_assoc (decimal value) (c ∷ []) m.more;
            below = m.below;
            above = omega arith;
            stops = m.stops;
          }

      by_digit : (b : Bool) → is_digit c ≡ b → cond b (cond (nat_lt 0 value && nat_lt (value * 10 + (c - 48)) bound) (read_digits bound (value * 10 + (c - 48)) before) (refused (c ∷ before))) (given value (c ∷ before)) ≡ given result rest
          → ((v : ℕ) → v < bound → read_digits bound v before ≡ given result rest → More bound v before result rest) → More bound value (c ∷ before) result rest
      by_digit true digit h' again = by_room (nat_lt 0 value && nat_lt (value * 10 + (c - 48)) bound) digit refl h' again
      by_digit false digit h' again =
          let p = given_parts h' in
          subst (λ r. More bound value (c ∷ before) result r) p.1 (subst (λ v. More bound value (c ∷ before) v (c ∷ before)) p.0
          (record { more = []; cut = refl; is = sym (append-nil (decimal value)); below = h; above = omega arith; stops = ap not digit }))

  wrong_digits : (value : ℕ) (before rest : List ℕ) → value < bound → read_digits bound value before ≡ refused rest → Ended bound value before rest
  wrong_digits value [] rest h e = absurd (cc)
  wrong_digits value (c ∷ before) rest h e = by_digit (is_digit c) refl e (λ v b f. wrong_digits v before rest b f)
    where
      by_room : (b : Bool) → is_digit c ≡ true → (nat_lt 0 value && nat_lt (value * 10 + (c - 48)) bound) ≡ b
          → cond b (read_digits bound (value * 10 + (c - 48)) before) (refused (c ∷ before)) ≡ refused rest
          → ((v : ℕ) → v < bound → read_digits bound v before ≡ refused rest → Ended bound v before rest) → Ended bound value (c ∷ before) rest
      by_room false digit fits h' again =
          subst (λ r. Ended bound value (c ∷ before) r) (refused_rest {X = ℕ} h') (record {
            more = [];
            cut = refl;
            result = value;
            is = sym (append-nil (decimal value));
            below = h;
            above = omega arith;
            again = λ d old new here. let same : c ≡ d = cc in subst (λ k. read_digits bound value (k ∷ new) ≡ refused (k ∷ new)) same (rw (digit, fits) refl);
          })
      by_room true digit fits h' again =
          let p = and_parts (nat_lt 0 value) (nat_lt (value * 10 + (c - 48)) bound) fits in
          let positive = lt_of 0 value p.0 in
          let below = lt_of (value * 10 + (c - 48)) bound p.1 in
          let m = again (value * 10 + (c - 48)) below h' in
          record {
            more = c ∷ m.more;
            cut = ap (λ t. c ∷ t) m.cut;
            result = m.result;
            is = m.is ∙ ap (λ t. t ++ m.more) (next_decimal value c positive (omega arith) digit) ∙ append_assoc (decimal value) (c ∷ []) m.more;
            below = m.below;
            above = omega arith;
            again = m.again;
          }

      by_digit : (b : Bool) → is_digit c ≡ b → cond b (cond (nat_lt 0 value && nat_lt (value * 10 + (c - 48)) bound) (read_digits bound (value * 10 + (c - 48)) before) (refused (c ∷ before))) (given value (c ∷ before)) ≡ refused rest
          → ((v : ℕ) → v < bound → read_digits bound v before ≡ refused rest → Ended bound v before rest) → Ended bound value (c ∷ before) rest
      by_digit true digit h' again = by_room (nat_lt 0 value && nat_lt (value * 10 + (c - 48)) bound) digit refl h' again
      by_digit false digit h' again = absurd (cc)

  never_digits : (value : ℕ) (before rest : List ℕ) → read_digits bound value before ≡ Err (LimitExceeded, rest) → ⊥
  never_digits value [] rest e = cc
  never_digits value (c ∷ before) rest e = by_test (is_digit c) (nat_lt 0 value && nat_lt (value * 10 + (c - 48)) bound) e (λ h. never_digits (value * 10 + (c - 48)) before rest h)
    where
      by_test : (a b : Bool) → cond a (cond b (read_digits bound (value * 10 + (c - 48)) before) (refused (c ∷ before))) (given value (c ∷ before)) ≡ Err (LimitExceeded, rest) → (read_digits bound (value * 10 + (c - 48)) before ≡ Err (LimitExceeded, rest) → ⊥) → ⊥
      by_test true true h again = again h
      by_test true false h again = refused_kind {X = ℕ} h
      by_test false b h again = cc

  -- the digits of a number are read
  module _ (low : ℕ) (one : low ≤ 1) where
    abbrev On : ℕ → List ℕ → Type 0
    On n digits = low ≤ n → n < bound → (rest : List ℕ) → read_decimal low bound (digits ++ rest) ≡ read_digits bound n rest

    on_one : (n : ℕ) → n < 10 → On n ((48 + n) ∷ [])
    on_one n h from below rest = rw (is_digit_true n h, minus n, le_true low n from) refl
      where
        minus : (n : ℕ) → 48 + n - 48 ≡ n
        minus n = omega arith

    on_more : (n : ℕ) (digits : List ℕ) → 10 ≤ n → On (n / 10) digits → On n (digits ++ ((48 + n % 10) ∷ []))
    on_more n digits h before from below rest =
        ap (read_decimal low bound) (append_assoc digits ((48 + n % 10) ∷ []) rest)
        ∙ before (omega arith) (omega arith) ((48 + n % 10) ∷ rest)
        ∙ rw (is_digit_true (n % 10) (omega arith), value n, lt_true 0 (n / 10) (omega arith), lt_true n bound below) refl
      where
        value : (n : ℕ) → n / 10 * 10 + (48 + n % 10 - 48) ≡ n
        value n = omega arith

    on : (n : ℕ) → On n (decimal n)
    on n from below rest = decimal_by_steps On on_one on_more n (omega arith) from below rest

    digits_end : (n : ℕ) (rest : List ℕ) → Stops not_digit rest → read_digits bound n rest ≡ given n rest
    digits_end n [] stops = refl
    digits_end n (c ∷ rest) stops = by_digit (is_digit c) refl stops
      where
        by_digit : (b : Bool) → is_digit c ≡ b → IsTrue (not b) → read_digits bound n (c ∷ rest) ≡ given n (c ∷ rest)
        by_digit true e h = absurd (cc)
        by_digit false e h = rw e refl

    pub simply-decimal : 9 < bound → Simply (Decimal low bound) not_digit (read_decimal low bound)
    simply-decimal wide =
        record {
          takes = taken;
          again = λ value text rest d stops. ap (λ t. read_decimal low bound (t ++ rest)) d.is ∙ on value d.from d.below rest ∙ digits_end value rest stops;
          wrongs = wrong;
          never = none;
        }
      where
        taken : (before : List ℕ) (value : ℕ) (rest : List ℕ) → read_decimal low bound before ≡ given value rest → Taken (Decimal low bound) not_digit before value rest
        taken [] value rest e = absurd (cc)
        taken (c ∷ before) value rest e = by_test (is_digit c && nat_le low (c - 48)) refl e
          where
            by_test : (b : Bool) → (is_digit c && nat_le low (c - 48)) ≡ b → cond b (read_digits bound (c - 48) before) (refused (c ∷ before)) ≡ given value rest → Taken (Decimal low bound) not_digit (c ∷ before) value rest
            by_test false t h = absurd (cc)
            by_test true t h =
                let p = and_parts (is_digit c) (nat_le low (c - 48)) t in
                let b = digit_bounds c p.0 in
                let from = le_of low (c - 48) p.1 in
                let m = taken_digits (c - 48) before value rest (omega arith) h in
                record {
                  text = c ∷ m.more;
                  cut = ap (λ t. c ∷ t) m.cut;
                  derives = record { from = omega arith; below = m.below; is = sym (m.is ∙ ap (λ t. t ++ m.more) (first_decimal_digit c p.0)) };
                  stops = m.stops;
                }

        begins : (before rest : List ℕ) → before ≡ rest → ((c : ℕ) (old new : List ℕ) → rest ≡ c ∷ old → read_decimal low bound (c ∷ new) ≡ refused (c ∷ new)) → Refused (Decimal low bound) (read_decimal low bound) before rest
        begins before rest same whatever = record { prefix = []; cut = same; value = 1; more = decimal 1; derives = record { from = one; below = omega arith; is = refl }; whatever = whatever }

        wrong : (before rest : List ℕ) → read_decimal low bound before ≡ refused rest → Refused (Decimal low bound) (read_decimal low bound) before rest
        wrong [] rest e = begins [] rest (refused_rest {X = ℕ} e) (λ c old new here. let same : [] ≡ c ∷ old = refused_rest {X = ℕ} e ∙ here in absurd (cc))
        wrong (c ∷ before) rest e = by_test (is_digit c && nat_le low (c - 48)) refl e
          where
            by_test : (b : Bool) → (is_digit c && nat_le low (c - 48)) ≡ b → cond b (read_digits bound (c - 48) before) (refused (c ∷ before)) ≡ refused rest → Refused (Decimal low bound) (read_decimal low bound) (c ∷ before) rest
            by_test false t h =
                let r = refused_rest {X = ℕ} h in
                begins (c ∷ before) rest r (λ d old new here. let same : c ∷ before ≡ d ∷ old = r ∙ here in let s : c ≡ d = cc in subst (λ k. read_decimal low bound (k ∷ new) ≡ refused (k ∷ new)) s (rw t refl))
            by_test true t h =
                let p = and_parts (is_digit c) (nat_le low (c - 48)) t in
                let b = digit_bounds c p.0 in
                let from = le_of low (c - 48) p.1 in
                let m = wrong_digits (c - 48) before rest (omega arith) h in
                let spelled : decimal m.result ≡ c ∷ m.more = m.is ∙ ap (λ t. t ++ m.more) (first_decimal_digit c p.0) in
                record {
                  prefix = c ∷ m.more;
                  cut = ap (λ t. c ∷ t) m.cut;
                  value = m.result;
                  more = [];
                  derives = record { from = omega arith; below = m.below; is = append-nil (c ∷ m.more) ∙ sym spelled };
                  whatever = λ d old new here. ap (λ t. read_decimal low bound (t ++ d ∷ new)) (sym spelled) ∙ on m.result (omega arith) m.below (d ∷ new) ∙ m.again d old new here;
                }

        none : (before rest : List ℕ) → read_decimal low bound before ≡ Err (LimitExceeded, rest) → ⊥
        none [] rest e = refused_kind {X = ℕ} e
        none (c ∷ before) rest e = by_test (is_digit c && nat_le low (c - 48)) e
          where
            by_test : (b : Bool) → cond b (read_digits bound (c - 48) before) (refused (c ∷ before)) ≡ Err (LimitExceeded, rest) → ⊥
            by_test true h = never_digits (c - 48) before rest h
            by_test false h = refused_kind {X = ℕ} h

pub reads-decimal : (low bound : ℕ) → low ≤ 1 → 9 < bound → bound ≤ 2 ^ 64 → Reads (Decimal low bound) not_digit (read_decimal low bound)
reads-decimal low bound one wide small =
    record { exact = exact-simply (simply-decimal bound small low one wide); sample = 1; sample_text = decimal 1; derives = record { from = one; below = omega arith; is = refl } }

-- a decimal begins with a digit
pub record FirstDigit (digits : List ℕ) : Type 0 where
  pub digit : ℕ
  pub more : List ℕ
  pub is : digits ≡ digit ∷ more
  pub digit_is : is_digit digit ≡ true

pub decimal_first : (n : ℕ) → n < 2 ^ 64 → FirstDigit (decimal n)
decimal_first n h =
    decimal_by_steps (λ m digits. FirstDigit digits)
    (λ m small. record { digit = 48 + m; more = []; is = refl; digit_is = is_digit_true m small })
    (λ m digits big f. record { digit = f.digit; more = f.more ++ (48 + m % 10) ∷ []; is = ap (λ t. t ++ (48 + m % 10) ∷ []) f.is; digit_is = f.digit_is })
    n h
