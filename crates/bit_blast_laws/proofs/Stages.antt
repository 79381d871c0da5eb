-- The numbers that shifts give.
use Rattle.std.proofs.Common.{◌≡◌, ◌<◌, ◌≤◌, ◌+◌, ◌-◌, ◌*◌, ◌/◌, ◌%◌, ◌^◌, ℕ, zero, suc, Bool, true, false, List, [], ◌∷◌, ◌++◌, length, map, take, drop, replicate, refl, ap, sym, ◌∙◌, subst, arith, inl, inr, ◌⊎◌}
use Rattle.std.specs.Prelude.{◌==◌, ◌&&◌, not, nat_lt, nat_le, if◌then◌else◌}
use Rattle.std.specs.List.{list_any}
use Rattle.std.proofs.Math.Nat.{mul-le-mul_left, pow-suc}
use Rattle.std.proofs.lemmas.Nat.{pow-add, pow_pos}
use Rattle.clause_check_spec.specs.declared.Literal.{Literal}
use Rattle.clause_check_spec.specs.Clause.{Valuation, holds, negation}
use Rattle.bit_blast_spec.specs.Gates.{Gate, Build, last_of, give, ◌>>=◌}
use Rattle.bit_blast_spec.specs.Circuits.{Bits, none, each, each_two, mux_gate, and_gate, choose_bits, or_all, shift_stages, shift_bits, shift_signed_bits, sign_of, moved_down}
use Rattle.bit_blast_laws.specs.Meaning.{digit, number_of, AllHold}
use Rattle.bit_blast_laws.proofs.Gates.{hold_parts, holds-negation}
use Rattle.bit_blast_laws.proofs.Adders.{digit_small, below_width}
use Rattle.bit_blast_laws.proofs.Bitwise.{chosen_number, or_all_holds, some_digit, and_each_number, each_length, each_number}
use Rattle.bit_blast_laws.proofs.Widths.{holds-none}

-- a way to move a word of a width, and what it makes of the word's number
pub record Moves (values : Valuation) (move : ℕ → Bits → Bits) (on : ℕ → ℕ → ℕ) (width : ℕ) : Type 0 where
  pub kept : (distance : ℕ) (xs : Bits) → length xs ≡ width → distance ≤ width → length (move distance xs) ≡ width
  pub number : (distance : ℕ) (xs : Bits) → length xs ≡ width → distance < width → number_of values (move distance xs) ≡ on distance (number_of values xs)
  pub nowhere : (n : ℕ) → n < 2 ^ width → on 0 n ≡ n
  pub twice : (first second n : ℕ) → first + second < width → n < 2 ^ width → on second (on first n) ≡ on (first + second) n

-- what the stages give: whether the count is not below the width, and else the word moved by the count
pub record Shifts (values : Valuation) (on : ℕ → ℕ → ℕ) (width count number : ℕ) (out : Bits × Literal) : Type 0 where
  pub past : holds values out.1 ≡ nat_le width count
  pub moved : count < width → number_of values out.0 ≡ on count number
  pub long : length out.0 ≡ width

pub each_two_length : (gate : Literal → Literal → Build Literal) (xs ys : Bits) (last : ℕ) → length xs ≡ length ys → length (each_two gate xs ys last).out ≡ length xs
unfolding each_two
each_two_length gate [] [] last same = refl
each_two_length gate [] (y ∷ ys) last same = absurd (omega (arith, same))
each_two_length gate (x ∷ xs) [] last same = absurd (omega (arith, same))
each_two_length gate (x ∷ xs) (y ∷ ys) last same =
    ap (λ n. suc n) (each_two_length gate xs ys (last_of last (gate x y last).gates) (omega (arith, same)))

-- ---- numbers of bits

split_width : (p k w : ℕ) → w ≡ p * 2 ^ k → p < w → (j : ℕ) × (w ≡ 2 * p * 2 ^ j)
split_width p zero w e below = absurd (omega (arith, e, below))
split_width p (suc j) w e below = (j, e ∙ ap (λ m. p * m) (pow-suc 2 j) ∙ regrouped p (2 ^ j))
  where
    regrouped : (p m : ℕ) → p * (m * 2) ≡ 2 * p * m
    regrouped p m = omega arith

is_le : (a b : ℕ) → a ≤ b → nat_le a b ≡ true
is_le a b h = grind arith

is_gt : (a b : ℕ) → b < a → nat_le a b ≡ false
is_gt a b h = grind arith

-- a digit below a multiple of twice a number of bits
digit_below : (p m c d : ℕ) → 0 < p → d ≤ 1 → nat_le (2 * p * m) (2 * p * c) ≡ nat_le (2 * p * m) (p * (d + 2 * c))
digit_below p m c d positive small =
    elim (le_or_lt m c) [
      | inl above ↦
          let more = mul-le-mul_left (2 * p) above in
          let all : 2 * p * m ≤ p * (d + 2 * c) = omega (arith, more) in
          is_le (2 * p * m) (2 * p * c) more ∙ sym (is_le (2 * p * m) (p * (d + 2 * c)) all)
      | inr below ↦
          let less : 2 * p * suc c ≤ 2 * p * m = mul-le-mul_left (2 * p) below in
          let bit = mul-le-mul_left p small in
          let first : 2 * p * c < 2 * p * m = omega (arith, less, positive) in
          let all : p * (d + 2 * c) < 2 * p * m = omega (arith, less, bit, positive) in
          is_gt (2 * p * m) (2 * p * c) first ∙ sym (is_gt (2 * p * m) (p * (d + 2 * c)) all)
    ]
  where
    le_or_lt : (a b : ℕ) → (a ≤ b) ⊎ (b < a)
    le_or_lt a b = grind arith

some_width : (p k w : ℕ) → w ≡ p * 2 ^ k → 0 < p → 0 < w
some_width p k w e positive =
    let one : 1 ≤ 2 ^ k = let h = pow_pos k in omega (arith, h) in
    let more = mul-le-mul_left p one in omega (arith, e, more, positive)

last_stage : (p c w : ℕ) → 0 < w → w ≤ p → not (c == 0) ≡ nat_le w (p * c)
last_stage p zero w some above = sym (is_gt w (p * 0) (omega (arith, some)))
last_stage p (suc c) w some above = not_zero c ∙ sym (is_le w (p * suc c) (omega (arith, above)))
  where
    not_zero : (n : ℕ) → not (suc n == 0) ≡ true
    not_zero n = grind arith

nothing_left : (p c w : ℕ) → w ≤ p → p * c < w → p * c ≡ 0
nothing_left p zero w above below = omega arith
nothing_left p (suc c) w above below = absurd (omega (arith, above, below))

-- ---- the stages

next_number : (c : Bool) (p n count width moved stay more : ℕ) (on : ℕ → ℕ → ℕ) → more ≡ on (2 * p * count) (if c then moved else stay)
    → moved ≡ on p stay → (c ≡ true → on (2 * p * count) (on p stay) ≡ on (p + 2 * p * count) stay)
    → more ≡ on (p * (digit c + 2 * count)) stay
next_number true p n count width moved stay more on e f g =
    let total : p + 2 * p * count ≡ p * (1 + 2 * count) = omega arith in
    e ∙ ap (on (2 * p * count)) f ∙ g refl ∙ ap (λ k. on k stay) total
next_number false p n count width moved stay more on e f g =
    let total : 2 * p * count ≡ p * (0 + 2 * count) = omega arith in
    e ∙ ap (λ k. on k stay) total

unfoldable pub Law : Valuation → (ℕ → Bits → Bits) → (ℕ → ℕ → ℕ) → (width : ℕ) → Bits → Type 0
Law values move on width counts =
    (distance k : ℕ) (xs : Bits) (last : ℕ) → width ≡ distance * 2 ^ k → 0 < distance → length xs ≡ width
    → AllHold values last (shift_stages move distance counts xs last).gates
    → Shifts values on width (distance * number_of values counts) (number_of values xs) (shift_stages move distance counts xs last).out

no_counts : (values : Valuation) (move : ℕ → Bits → Bits) (on : ℕ → ℕ → ℕ) (width : ℕ) → Moves values move on width → values 1 ≡ true
    → Law values move on width []
unfolding shift_stages Law
no_counts values move on width moves truth distance k xs last power positive long all = record {
  past = holds-none values truth ∙ sym (is_gt width (distance * 0) (let some = some_width distance k width power positive in omega (arith, some)));
  moved = λ below.
      let nothing : 0 ≡ distance * 0 = omega arith in
      let small = subst (λ n. number_of values xs < 2 ^ n) long (below_width values xs) in
      sym (moves.nowhere (number_of values xs) small) ∙ ap (λ n. on n (number_of values xs)) nothing;
  long = long;
}

abbrev stage : (move : ℕ → Bits → Bits) → (distance : ℕ) → (c : Literal) → (counts xs : Bits) → Bool → Build (Bits × Literal)
stage move distance c counts xs b =
    if b then choose_bits c (move distance xs) xs >>= (λ moved. shift_stages move (2 * distance) counts moved)
    else or_all (c ∷ counts) >>= (λ past. give (xs, past))

one_stage : (values : Valuation) (move : ℕ → Bits → Bits) (on : ℕ → ℕ → ℕ) (width : ℕ) → Moves values move on width → values 1 ≡ true
    → (c : Literal) (counts : Bits) → Law values move on width counts
    → (distance k : ℕ) (xs : Bits) (last : ℕ) → width ≡ distance * 2 ^ k → 0 < distance → length xs ≡ width
    → (b : Bool) → nat_lt distance (length xs) ≡ b → AllHold values last (stage move distance c counts xs b last).gates
    → Shifts values on width (distance * (digit (holds values c) + 2 * number_of values counts)) (number_of values xs) (stage move distance c counts xs b last).out
unfolding Law
one_stage values move on width moves truth c counts more distance k xs last power positive long true e all =
    let below : distance < width = (let h : distance < length xs = lt_by distance (length xs) e in omega (arith, h, long)) in
    let first = choose_bits c (move distance xs) xs last in
    let second = last_of last first.gates in
    let parts = hold_parts values last first.gates (shift_stages move (2 * distance) counts first.out second).gates all in
    let kept = moves.kept distance xs long (omega (arith, below)) in
    let same = kept ∙ sym long in
    let half = split_width distance k width power below in
    let rest =
    more (2 * distance) half.0 first.out second half.1 (omega (arith, positive)) (each_two_length (mux_gate c) (move distance xs) xs last same ∙ kept) parts.1
    in
    let small = subst (λ n. number_of values xs < 2 ^ n) long (below_width values xs) in
    record {
      past =
          rest.past ∙ ap (λ w. nat_le w (2 * distance * number_of values counts)) half.1
          ∙ digit_below distance (2 ^ half.0) (number_of values counts) (digit (holds values c)) positive (digit_small (holds values c))
          ∙ ap (λ w. nat_le w (distance * (digit (holds values c) + 2 * number_of values counts))) (sym half.1);
      moved = λ inside.
          next_number (holds values c) distance 0 (number_of values counts) width (number_of values (move distance xs)) (number_of values xs)
          (number_of values (shift_stages move (2 * distance) counts first.out second).out.0) on
          (rest.moved (omega (arith, inside)) ∙ ap (on (2 * distance * number_of values counts)) (chosen_number values c (move distance xs) xs last same parts.0))
          (moves.number distance xs long below)
          (λ yes.
          let both = subst (λ b. distance * (digit b + 2 * number_of values counts) < width) yes inside in
          moves.twice distance (2 * distance * number_of values counts) (number_of values xs) (omega (arith, both)) small);
      long = rest.long;
    }
  where
    lt_by : (a b : ℕ) → nat_lt a b ≡ true → a < b
    lt_by a b e = grind arith
one_stage values move on width moves truth c counts more distance k xs last power positive long false e all =
    let above : width ≤ distance = (let h : length xs ≤ distance = ge_by distance (length xs) e in omega (arith, h, long)) in
    let parts = hold_parts values last (or_all (c ∷ counts) last).gates [] all in
    let some = some_width distance k width power positive in
    record {
      past =
          or_all_holds values (c ∷ counts) last truth parts.0 ∙ some_digit values (c ∷ counts)
          ∙ last_stage distance (digit (holds values c) + 2 * number_of values counts) width some above;
      moved = λ inside.
          let small = subst (λ n. number_of values xs < 2 ^ n) long (below_width values xs) in
          sym (moves.nowhere (number_of values xs) small)
          ∙ ap (λ n. on n (number_of values xs)) (sym (nothing_left distance (digit (holds values c) + 2 * number_of values counts) width above inside));
      long = long;
    }
  where
    ge_by : (a b : ℕ) → nat_lt a b ≡ false → b ≤ a
    ge_by a b e = grind arith

pub stages_hold : (values : Valuation) (move : ℕ → Bits → Bits) (on : ℕ → ℕ → ℕ) (width : ℕ) → Moves values move on width → values 1 ≡ true
    → (counts : Bits) → Law values move on width counts
unfolding shift_stages Law
stages_hold values move on width moves truth [] = no_counts values move on width moves truth
stages_hold values move on width moves truth (c ∷ counts) = λ distance k xs last power positive long all.
    one_stage values move on width moves truth c counts (stages_hold values move on width moves truth counts) distance k xs last power positive long
    (nat_lt distance (length xs)) refl all

-- ---- whole shifts

where_past : (past : Bool) (width count moved number : ℕ) (on : ℕ → ℕ → ℕ) → past ≡ nat_le width count → (count < width → moved ≡ on count number)
    → (if not past then moved else 0) ≡ (if nat_lt count width then on count number else 0)
where_past true width count moved number on e f = ap (λ b. if b then on count number else 0) (sym (not_less width count (sym e)))
  where
    not_less : (w c : ℕ) → nat_le w c ≡ true → nat_lt c w ≡ false
    not_less w c e = grind arith
where_past false width count moved number on e f =
    f (is_less width count (sym e)) ∙ ap (λ b. if b then on count number else 0) (sym (less width count (sym e)))
  where
    is_less : (w c : ℕ) → nat_le w c ≡ false → c < w
    is_less w c e = grind arith

    less : (w c : ℕ) → nat_le w c ≡ false → nat_lt c w ≡ true
    less w c e = grind arith

once_only : (n : ℕ) → 1 * n ≡ n
once_only n = omega arith

masked : (b a : Bool) (x : ℕ) → (if b then digit a + 2 * x else 0) ≡ digit (b && a) + 2 * (if b then x else 0)
masked true a x = refl
masked false a x = refl

nothing_masked : (b : Bool) (n : ℕ) → (if b then n else n) ≡ n
nothing_masked true n = refl
nothing_masked false n = refl

-- in both directions, where nothing comes in
pub shift_holds : (values : Valuation) (move : ℕ → Bits → Bits) (on : ℕ → ℕ → ℕ) (width k : ℕ) → Moves values move on width → values 1 ≡ true
    → width ≡ 2 ^ k → (xs counts : Bits) (last : ℕ) → length xs ≡ width → AllHold values last (shift_bits move xs counts last).gates
    → number_of values (shift_bits move xs counts last).out
    ≡ (if nat_lt (number_of values counts) width then on (number_of values counts) (number_of values xs) else 0)
unfolding Law
shift_holds values move on width k moves truth power xs counts last long all =
    let stages = shift_stages move 1 counts xs last in
    let second = last_of last stages.gates in
    let gate = λ (x : Literal). and_gate (negation stages.out.1) x in
    let parts = hold_parts values last stages.gates (each gate stages.out.0 second).gates all in
    let law =
    stages_hold values move on width moves truth counts 1 k xs last (power ∙ sym (once_only (2 ^ k))) (omega arith) long parts.0
    in
    let past = holds values stages.out.1 in
    each_number values gate (λ a. holds values (negation stages.out.1) && a) (λ n. if holds values (negation stages.out.1) then n else 0)
    (nothing_masked (holds values (negation stages.out.1)) 0) (masked (holds values (negation stages.out.1))) (λ a last all. all.0) stages.out.0 second parts.1
    ∙ ap (λ b. if b then number_of values stages.out.0 else 0) (holds-negation values stages.out.1)
    ∙ where_past (holds values stages.out.1) width (number_of values counts) (number_of values stages.out.0) (number_of values xs) on
    (law.past ∙ ap (nat_le width) (once_only (number_of values counts)))
    (λ inside. law.moved (omega (arith, inside)) ∙ ap (λ n. on n (number_of values xs)) (once_only (number_of values counts)))

-- bits that are the sign where the first literal holds
each_sign : (values : Valuation) (past sign : Literal) (xs : Bits) (last : ℕ) → AllHold values last (each (λ x. mux_gate past sign x) xs last).gates
    → number_of values (each (λ x. mux_gate past sign x) xs last).out ≡ (if holds values past then number_of values (replicate (length xs) sign) else number_of values xs)
unfolding each
each_sign values past sign [] last all = sym (nothing_masked (holds values past) 0)
each_sign values past sign (x ∷ xs) last all =
    let rest = hold_parts values (last + 1) (each (λ x. mux_gate past sign x) xs (last + 1)).gates [] all.1 in
    ap (λ b. digit b + 2 * number_of values (each (λ x. mux_gate past sign x) xs (last + 1)).out) all.0
    ∙ ap (λ n. digit (if holds values past then holds values sign else holds values x) + 2 * n) (each_sign values past sign xs (last + 1) rest.0)
    ∙ by_past (holds values past) (holds values sign) (holds values x) (number_of values (replicate (length xs) sign)) (number_of values xs)
  where
    by_past : (p s x : Bool) (m n : ℕ) → digit (if p then s else x) + 2 * (if p then m else n) ≡ (if p then digit s + 2 * m else digit x + 2 * n)
    by_past true s x m n = refl
    by_past false s x m n = refl

where_past_signed : (past : Bool) (width count moved number signs : ℕ) (on : ℕ → ℕ → ℕ) → past ≡ nat_le width count → (count < width → moved ≡ on count number)
    → (if past then signs else moved) ≡ (if nat_lt count width then on count number else signs)
where_past_signed true width count moved number signs on e f = ap (λ b. if b then on count number else signs) (sym (not_less width count (sym e)))
  where
    not_less : (w c : ℕ) → nat_le w c ≡ true → nat_lt c w ≡ false
    not_less w c e = grind arith
where_past_signed false width count moved number signs on e f =
    f (is_less width count (sym e)) ∙ ap (λ b. if b then on count number else signs) (sym (less width count (sym e)))
  where
    is_less : (w c : ℕ) → nat_le w c ≡ false → c < w
    is_less w c e = grind arith

    less : (w c : ℕ) → nat_le w c ≡ false → nat_lt c w ≡ true
    less w c e = grind arith

pub signed_shift_holds : (values : Valuation) (on : ℕ → ℕ → ℕ) (width k : ℕ) (xs counts : Bits) (last : ℕ) → Moves values (moved_down (sign_of xs)) on width
    → values 1 ≡ true → width ≡ 2 ^ k → length xs ≡ width → AllHold values last (shift_signed_bits xs counts last).gates
    → number_of values (shift_signed_bits xs counts last).out
    ≡ (if nat_lt (number_of values counts) width then on (number_of values counts) (number_of values xs) else number_of values (replicate width (sign_of xs)))
unfolding Law
signed_shift_holds values on width k xs counts last moves truth power long all =
    let stages = shift_stages (moved_down (sign_of xs)) 1 counts xs last in
    let second = last_of last stages.gates in
    let gate = λ (x : Literal). mux_gate stages.out.1 (sign_of xs) x in
    let parts = hold_parts values last stages.gates (each gate stages.out.0 second).gates all in
    let law =
    stages_hold values (moved_down (sign_of xs)) on width moves truth counts 1 k xs last (power ∙ sym (once_only (2 ^ k))) (omega arith) long parts.0
    in
    each_sign values stages.out.1 (sign_of xs) stages.out.0 second parts.1
    ∙ ap (λ n. if holds values stages.out.1 then number_of values (replicate n (sign_of xs)) else number_of values stages.out.0) law.long
    ∙ where_past_signed (holds values stages.out.1) width (number_of values counts) (number_of values stages.out.0) (number_of values xs)
    (number_of values (replicate width (sign_of xs))) on
    (law.past ∙ ap (nat_le width) (once_only (number_of values counts)))
    (λ inside. law.moved (omega (arith, inside)) ∙ ap (λ n. on n (number_of values xs)) (once_only (number_of values counts)))
