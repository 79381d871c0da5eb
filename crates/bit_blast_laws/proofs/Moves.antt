-- Words moved up, and moved down with one bit coming in.
use Rattle.std.proofs.Common.{◌≡◌, ◌<◌, ◌≤◌, ◌+◌, ◌-◌, ◌*◌, ◌/◌, ◌%◌, ◌^◌, ℕ, zero, suc, Bool, true, false, List, [], ◌∷◌, ◌++◌, length, take, drop, replicate, refl, ap, sym, ◌∙◌, subst, arith}
use Rattle.std.specs.Prelude.{not, nat_lt, nat_le, if◌then◌else◌}
use Rattle.std.proofs.Math.Nat.{mod-eq_of_lt, mod-lt, add-mul-div_left, mul-le-mul_left, pow-suc, one-le-pow, pow-le-pow_right, mul-sub, div-lt_iff_lt-mul}
use Rattle.std.proofs.lemmas.Nat.{pow-add, pow_pos, shr-shr, mul-mod_first, mul-lt}
use Rattle.std.proofs.lemmas.List.{length-replicate, length-append, length-take-le, length-drop}
use Rattle.clause_check_spec.specs.declared.Literal.{Literal}
use Rattle.clause_check_spec.specs.Clause.{Valuation, holds, negation}
use Rattle.term_core_spec.specs.declared.WordOperator.TheVariants as word
use Rattle.term_core_spec.specs.Value.{low_bits, ones_if, is_negative, shifted_with_sign, operation}
use Rattle.bit_blast_spec.specs.Gates.{Build, last_of}
use Rattle.bit_blast_spec.specs.Circuits.{Bits, none, zeros, and_gate, mux_gate, each, sign_of, moved_up, moved_down, shift_stages, shift_bits, shift_signed_bits}
use Rattle.bit_blast_laws.specs.Meaning.{digit, number_of, AllHold}
use Rattle.bit_blast_laws.proofs.Adders.{below_width, digit_small, doubled}
use Rattle.bit_blast_laws.proofs.Widths.{number-append, number-take, number-drop, number-zeros, number-replicate, holds-none}
use Rattle.bit_blast_laws.proofs.Gates.{hold_parts}
use Rattle.bit_blast_laws.proofs.Bitwise.{each_length}
use Rattle.bit_blast_laws.proofs.Rows.{row_of}
use Rattle.bit_blast_laws.proofs.Stages.{Moves, Law, stages_hold, shift_holds, signed_shift_holds}

-- ---- up

abbrev on_up : ℕ → ℕ → ℕ → ℕ
on_up width distance n = (n * 2 ^ distance) % 2 ^ width

moved_up_number : (values : Valuation) (width distance : ℕ) (xs : Bits) → values 1 ≡ true → length xs ≡ width → distance < width
    → number_of values (moved_up distance xs) ≡ on_up width distance (number_of values xs)
moved_up_number values width distance xs truth long below =
    let rest = width - distance in
    let split : distance + rest ≡ width = omega (arith, below) in
    let cut : length xs - distance ≡ rest = omega (arith, long) in
    let kept = 2 ^ distance * (number_of values xs % 2 ^ rest) in
    let small : kept < 2 ^ width =
    subst (λ p. kept < p) (sym (pow-add 2 distance rest) ∙ ap (λ n. 2 ^ n) split)
    (times (2 ^ distance) (number_of values xs % 2 ^ rest) (2 ^ rest) (pow_pos distance) (mod-lt (number_of values xs) (pow_pos rest)))
    in
    number-append values (zeros distance) (take (length xs - distance) xs)
    ∙ ap (λ n. n + 2 ^ length (zeros distance) * number_of values (take (length xs - distance) xs)) (number-zeros values distance truth)
    ∙ ap (λ n. 0 + 2 ^ n * number_of values (take (length xs - distance) xs)) (length-replicate distance none)
    ∙ ap (λ n. 0 + 2 ^ distance * n) (number-take values (length xs - distance) xs ∙ ap (λ n. number_of values xs % 2 ^ n) cut)
    ∙ plain kept
    ∙ sym (mod-eq_of_lt small)
    ∙ ap (λ n. n % 2 ^ width) (once (2 ^ distance) (number_of values xs % 2 ^ rest))
    ∙ ap (λ n. (0 + 2 ^ distance * (number_of values xs % 2 ^ rest * 1)) % 2 ^ n) (sym split)
    ∙ row_of distance rest (number_of values xs) 1 0
    ∙ ap (λ n. (0 + 2 ^ distance * (number_of values xs * 1)) % 2 ^ n) split
    ∙ ap (λ n. n % 2 ^ width) (turned (2 ^ distance) (number_of values xs))
  where
    times : (p a b : ℕ) → 0 < p → a < b → p * a < p * b
    times p a b positive h = let more : p * suc a ≤ p * b = mul-le-mul_left p h in omega (arith, more, positive)

    plain : (n : ℕ) → 0 + n ≡ n
    plain n = omega arith

    once : (p n : ℕ) → p * n ≡ 0 + p * (n * 1)
    once p n = omega arith

    turned : (p n : ℕ) → 0 + p * (n * 1) ≡ n * p
    turned p n = omega arith

pub moves_up : (values : Valuation) (width : ℕ) → values 1 ≡ true → Moves values moved_up (on_up width) width
moves_up values width truth = record {
  kept = λ distance xs long below.
      let e = length-append (zeros distance) (take (length xs - distance) xs) in
      let f = length-replicate distance none in
      let g = length-take-le (length xs - distance) xs (omega arith) in
      omega (arith, e, f, g, long, below);
  number = λ distance xs long below. moved_up_number values width distance xs truth long below;
  nowhere = λ n small. let e : n * 2 ^ 0 ≡ n = omega arith in ap (λ n. n % 2 ^ width) e ∙ mod-eq_of_lt small;
  twice = λ first second n below small.
      mul-mod_first (n * 2 ^ first) (2 ^ second) (2 ^ width)
      ∙ ap (λ m. m % 2 ^ width) (grouped n (2 ^ first) (2 ^ second) ∙ ap (λ p. n * p) (sym (pow-add 2 first second)));
}
  where
    grouped : (n p q : ℕ) → n * p * q ≡ n * (p * q)
    grouped n p q = omega arith

-- ---- down

abbrev on_down : Bool → ℕ → ℕ → ℕ → ℕ
on_down bit width distance n = n / 2 ^ distance + (if bit then 2 ^ width - 2 ^ (width - distance) else 0)

top_bits : (b : Bool) (p q w : ℕ) → p * q ≡ w → p * (if b then q - 1 else 0) ≡ (if b then w - p else 0)
top_bits true p q w e = times_less p q w e
  where
    times_less : (p q w : ℕ) → p * q ≡ w → p * (q - 1) ≡ w - p
    times_less p zero w e = let none : zero - 1 ≡ 0 = omega arith in let some : p * 0 ≡ w - p = omega (arith, e) in ap (λ n. p * n) none ∙ some
    times_less p (suc q) w e = let one : suc q - 1 ≡ q = omega arith in let more : p * q ≡ w - p = omega (arith, e) in ap (λ n. p * n) one ∙ more
top_bits false p q w e = omega arith

moved_down_number : (values : Valuation) (fill : Literal) (width distance : ℕ) (xs : Bits) → length xs ≡ width → distance < width
    → number_of values (moved_down fill distance xs) ≡ on_down (holds values fill) width distance (number_of values xs)
moved_down_number values fill width distance xs long below =
    let cut : length (drop distance xs) ≡ width - distance = (let e = length-drop distance xs in omega (arith, e, long)) in
    let split : 2 ^ (width - distance) * 2 ^ distance ≡ 2 ^ width =
    sym (pow-add 2 (width - distance) distance) ∙ ap (λ n. 2 ^ n) (let h : width - distance + distance ≡ width = omega (arith, below) in h)
    in
    number-append values (drop distance xs) (replicate distance fill)
    ∙ ap (λ n. n + 2 ^ length (drop distance xs) * number_of values (replicate distance fill)) (number-drop values distance xs)
    ∙ ap (λ n. number_of values xs / 2 ^ distance + 2 ^ n * number_of values (replicate distance fill)) cut
    ∙ ap (λ n. number_of values xs / 2 ^ distance + 2 ^ (width - distance) * n) (number-replicate values distance fill)
    ∙ ap (λ n. number_of values xs / 2 ^ distance + n) (top_bits (holds values fill) (2 ^ (width - distance)) (2 ^ distance) (2 ^ width) split)

down_twice : (bit : Bool) (width first second n : ℕ) → first + second < width
    → on_down bit width second (on_down bit width first n) ≡ on_down bit width (first + second) n
down_twice false width first second n below =
    let e : n / 2 ^ first + 0 ≡ n / 2 ^ first = omega arith in
    ap (λ m. m / 2 ^ second + 0) e ∙ ap (λ m. m + 0) (shr-shr n first second)
down_twice true width first second n below =
    let left = width - (first + second) in
    let whole : 2 ^ width ≡ 2 ^ second * 2 ^ (width - second) =
    ap (λ n. 2 ^ n) (let h : width ≡ second + (width - second) = omega (arith, below) in h) ∙ pow-add 2 second (width - second)
    in
    let part : 2 ^ (width - first) ≡ 2 ^ second * 2 ^ left =
    ap (λ n. 2 ^ n) (let h : width - first ≡ second + left = omega (arith, below) in h) ∙ pow-add 2 second left
    in
    let small : 2 ^ left ≤ 2 ^ (width - second) = powers left (width - second) (omega arith) in
    let smaller : 2 ^ (width - second) ≤ 2 ^ width = powers (width - second) width (omega arith) in
    let ones : 2 ^ width - 2 ^ (width - first) ≡ 2 ^ second * (2 ^ (width - second) - 2 ^ left) =
    ap (λ p. p - 2 ^ (width - first)) whole ∙ ap (λ p. 2 ^ second * 2 ^ (width - second) - p) part ∙ less_times (2 ^ second) (2 ^ (width - second)) (2 ^ left) small
    in
    ap (λ m. (n / 2 ^ first + m) / 2 ^ second + (2 ^ width - 2 ^ (width - second))) ones
    ∙ ap (λ m. m + (2 ^ width - 2 ^ (width - second))) (add-mul-div_left (n / 2 ^ first) (2 ^ (width - second) - 2 ^ left) (pow_pos second))
    ∙ ap (λ m. m + (2 ^ (width - second) - 2 ^ left) + (2 ^ width - 2 ^ (width - second))) (shr-shr n first second)
    ∙ together (n / 2 ^ (first + second)) (2 ^ left) (2 ^ (width - second)) (2 ^ width) small smaller
  where
    powers : (a b : ℕ) → a ≤ b → 2 ^ a ≤ 2 ^ b
    powers a b h = pow-le-pow_right {n = 2} (omega arith) h

    less_times : (p a b : ℕ) → b ≤ a → p * a - p * b ≡ p * (a - b)
    less_times p a b h = sym (mul-sub p a b)

    together : (n l s w : ℕ) → l ≤ s → s ≤ w → n + (s - l) + (w - s) ≡ n + (w - l)
    together n l s w h k = omega (arith, h, k)

pub moves_down : (values : Valuation) (fill : Literal) (width : ℕ) → Moves values (moved_down fill) (on_down (holds values fill) width) width
moves_down values fill width = record {
  kept = λ distance xs long below.
      let e = length-append (drop distance xs) (replicate distance fill) in
      let f = length-replicate distance fill in
      let g = length-drop distance xs in
      omega (arith, e, f, g, long, below);
  number = λ distance xs long below. moved_down_number values fill width distance xs long below;
  nowhere = λ n small. by_bit (holds values fill) n width;
  twice = λ first second n below small. down_twice (holds values fill) width first second n below;
}
  where
    by_bit : (b : Bool) (n w : ℕ) → n / 2 ^ 0 + (if b then 2 ^ w - 2 ^ (w - 0) else 0) ≡ n
    by_bit true n w =
        let same : w - 0 ≡ w = omega arith in
        let nothing : n / 1 + (2 ^ w - 2 ^ w) ≡ n = omega arith in ap (λ k. n / 1 + (2 ^ w - 2 ^ k)) same ∙ nothing
    by_bit false n w = omega arith

-- ---- the sign

pub sign_holds : (values : Valuation) (x : Literal) (xs : Bits) → holds values (sign_of (x ∷ xs)) ≡ is_negative (length (x ∷ xs)) (number_of values (x ∷ xs))
sign_holds values x [] = only (holds values x)
  where
    only : (b : Bool) → b ≡ nat_le (2 ^ (1 - 1)) (digit b + 2 * 0)
    only true = refl
    only false = refl
sign_holds values x (y ∷ xs) =
    let more = number_of values (y ∷ xs) in
    let all = number_of values (x ∷ y ∷ xs) in
    let one : suc (length xs) - 1 ≡ length xs = omega arith in
    let two : suc (length xs) ≡ suc (suc (length xs)) - 1 = omega arith in
    sign_holds values y xs
    ∙ ap (λ k. nat_le (2 ^ k) more) one
    ∙ doubled (2 ^ length xs) more (digit (holds values x)) all (digit_small (holds values x)) refl
    ∙ ap (λ p. nat_le p all) (sym (pow-suc 2 (length xs)))
    ∙ ap (λ k. nat_le (2 ^ k) all) two

-- ---- as the operators have them

pub shift_left_holds : (values : Valuation) (width k : ℕ) (xs counts : Bits) (last : ℕ) → values 1 ≡ true → width ≡ 2 ^ k → length xs ≡ width
    → AllHold values last (shift_bits moved_up xs counts last).gates
    → number_of values (shift_bits moved_up xs counts last).out ≡ operation word.ShiftLeft width (number_of values xs) (number_of values counts)
unfolding operation
shift_left_holds values width k xs counts last truth power long all =
    shift_holds values moved_up (on_up width) width k (moves_up values width truth) truth power xs counts last long all

pub shift_right_holds : (values : Valuation) (width k : ℕ) (xs counts : Bits) (last : ℕ) → values 1 ≡ true → width ≡ 2 ^ k → length xs ≡ width
    → AllHold values last (shift_bits (moved_down none) xs counts last).gates
    → number_of values (shift_bits (moved_down none) xs counts last).out ≡ operation word.ShiftRight width (number_of values xs) (number_of values counts)
unfolding operation
shift_right_holds values width k xs counts last truth power long all =
    shift_holds values (moved_down none) (on_down (holds values none) width) width k (moves_down values none width) truth power xs counts last long all
    ∙ ap (λ b. if nat_lt (number_of values counts) width then on_down b width (number_of values counts) (number_of values xs) else 0) (holds-none values truth)
    ∙ ap (λ n. if nat_lt (number_of values counts) width then n else 0) (plain (number_of values xs / 2 ^ number_of values counts))
  where
    plain : (n : ℕ) → n + 0 ≡ n
    plain n = omega arith

pub signed_width : (values : Valuation) (xs : Bits) (width : ℕ) → 0 < width → length xs ≡ width → holds values (sign_of xs) ≡ is_negative width (number_of values xs)
signed_width values [] width some long = absurd (omega (arith, some, long))
signed_width values (x ∷ xs) width some long = sign_holds values x xs ∙ ap (λ k. is_negative k (number_of values (x ∷ xs))) long

inside : (s : Bool) (width distance n : ℕ) → distance < width → n < 2 ^ width → on_down s width distance n < 2 ^ width
inside s width distance n below small =
    let split : 2 ^ width ≡ 2 ^ (width - distance) * 2 ^ distance =
    ap (λ k. 2 ^ k) (let h : width ≡ width - distance + distance = omega (arith, below) in h) ∙ pow-add 2 (width - distance) distance
    in
    let less : n / 2 ^ distance < 2 ^ (width - distance) = (div-lt_iff_lt-mul (pow_pos distance)).1 (subst (λ p. n < p) split small) in
    let part : 2 ^ (width - distance) ≤ 2 ^ width = pow-le-pow_right {n = 2} (omega arith) (let h : width - distance ≤ width = omega arith in h) in
    by_sign s (n / 2 ^ distance) (2 ^ (width - distance)) (2 ^ width) less part
  where
    by_sign : (s : Bool) (q p w : ℕ) → q < p → p ≤ w → q + (if s then w - p else 0) < w
    by_sign true q p w h k = omega (arith, h, k)
    by_sign false q p w h k = omega (arith, h, k)

where_signed : (width distance n : ℕ) (s b : Bool) (ones : ℕ) → n < 2 ^ width → s ≡ is_negative width n → nat_lt distance width ≡ b → ones ≡ (if s then 2 ^ width - 1 else 0)
    → (if b then on_down s width distance n else ones) ≡ (if b then shifted_with_sign width n distance else ones_if (is_negative width n) 0 width)
where_signed width distance n s true ones small e f g =
    sym (mod-eq_of_lt (inside s width distance n (lt_by distance width f) small))
    ∙ ap (λ t. low_bits width (n / 2 ^ distance + ones_if t (width - distance) width)) e
  where
    lt_by : (a b : ℕ) → nat_lt a b ≡ true → a < b
    lt_by a b e = grind arith
where_signed width distance n s false ones small e f g = g ∙ ap (λ t. if t then 2 ^ width - 1 else 0) e

pub shift_signed_holds : (values : Valuation) (width k : ℕ) (xs counts : Bits) (last : ℕ) → values 1 ≡ true → width ≡ 2 ^ k → length xs ≡ width
    → AllHold values last (shift_signed_bits xs counts last).gates
    → number_of values (shift_signed_bits xs counts last).out ≡ operation word.ShiftRightSigned width (number_of values xs) (number_of values counts)
unfolding operation
shift_signed_holds values width k xs counts last truth power long all =
    let some : 0 < width = (let h = pow_pos k in omega (arith, h, power)) in
    signed_shift_holds values (on_down (holds values (sign_of xs)) width) width k xs counts last (moves_down values (sign_of xs) width) truth power long all
    ∙ where_signed width (number_of values counts) (number_of values xs) (holds values (sign_of xs)) (nat_lt (number_of values counts) width)
    (number_of values (replicate width (sign_of xs))) (subst (λ n. number_of values xs < 2 ^ n) long (below_width values xs)) (signed_width values xs width some long)
    refl (number-replicate values width (sign_of xs))

-- ---- lengths

each_of_stages : (values : Valuation) (move : ℕ → Bits → Bits) (on : ℕ → ℕ → ℕ) (width k : ℕ) (gate : Literal → Literal → Build Literal) → Moves values move on width
    → values 1 ≡ true → width ≡ 2 ^ k → (xs counts : Bits) (last : ℕ) → length xs ≡ width
    → AllHold values last (shift_stages move 1 counts xs last).gates
    → length (each (gate (shift_stages move 1 counts xs last).out.1) (shift_stages move 1 counts xs last).out.0 (last_of last (shift_stages move 1 counts xs last).gates)).out ≡ width
unfolding Law
each_of_stages values move on width k gate moves truth power xs counts last long all =
    let stages = shift_stages move 1 counts xs last in
    let once : 1 * 2 ^ k ≡ 2 ^ k = omega arith in
    let law = stages_hold values move on width moves truth counts 1 k xs last (power ∙ sym once) (omega arith) long all in
    each_length (gate stages.out.1) stages.out.0 (last_of last stages.gates) ∙ law.long

pub shift_left_length : (values : Valuation) (width k : ℕ) (xs counts : Bits) (last : ℕ) → values 1 ≡ true → width ≡ 2 ^ k → length xs ≡ width
    → AllHold values last (shift_bits moved_up xs counts last).gates → length (shift_bits moved_up xs counts last).out ≡ width
shift_left_length values width k xs counts last truth power long all =
    let stages = shift_stages moved_up 1 counts xs last in
    let parts = hold_parts values last stages.gates (each (λ x. and_gate (negation stages.out.1) x) stages.out.0 (last_of last stages.gates)).gates all in
    each_of_stages values moved_up (on_up width) width k (λ past x. and_gate (negation past) x) (moves_up values width truth) truth power xs counts last long parts.0

pub shift_right_length : (values : Valuation) (width k : ℕ) (xs counts : Bits) (last : ℕ) → values 1 ≡ true → width ≡ 2 ^ k → length xs ≡ width
    → AllHold values last (shift_bits (moved_down none) xs counts last).gates → length (shift_bits (moved_down none) xs counts last).out ≡ width
shift_right_length values width k xs counts last truth power long all =
    let stages = shift_stages (moved_down none) 1 counts xs last in
    let parts = hold_parts values last stages.gates (each (λ x. and_gate (negation stages.out.1) x) stages.out.0 (last_of last stages.gates)).gates all in
    each_of_stages values (moved_down none) (on_down (holds values none) width) width k (λ past x. and_gate (negation past) x) (moves_down values none width) truth power xs counts last long parts.0

pub shift_signed_length : (values : Valuation) (width k : ℕ) (xs counts : Bits) (last : ℕ) → values 1 ≡ true → width ≡ 2 ^ k → length xs ≡ width
    → AllHold values last (shift_signed_bits xs counts last).gates → length (shift_signed_bits xs counts last).out ≡ width
shift_signed_length values width k xs counts last truth power long all =
    let stages = shift_stages (moved_down (sign_of xs)) 1 counts xs last in
    let parts = hold_parts values last stages.gates (each (λ x. mux_gate stages.out.1 (sign_of xs) x) stages.out.0 (last_of last stages.gates)).gates all in
    each_of_stages values (moved_down (sign_of xs)) (on_down (holds values (sign_of xs)) width) width k (λ past x. mux_gate past (sign_of xs) x)
    (moves_down values (sign_of xs) width) truth power xs counts last long parts.0
