-- The numbers that products give.
use Rattle.std.proofs.Common.{◌≡◌, ◌<◌, ◌≤◌, ◌+◌, ◌-◌, ◌*◌, ◌/◌, ◌%◌, ◌^◌, ℕ, zero, suc, Bool, true, false, List, [], ◌∷◌, ◌++◌, length, map, take, drop, replicate, refl, ap, sym, ◌∙◌, subst, arith}
use Rattle.std.specs.Prelude.{not, min, if◌then◌else◌}
use Rattle.std.proofs.Math.Nat.{add-mul-mod_self_left, mod-eq_of_lt, div-add-mod, pow-suc, zero-mod}
use Rattle.std.proofs.lemmas.Nat.{pow-add}
use Rattle.std.proofs.lemmas.List.{length-replicate, length-append, length-take-le}
use Rattle.clause_check_spec.specs.declared.Literal.{Literal}
use Rattle.clause_check_spec.specs.Clause.{Valuation, holds}
use Rattle.term_core_spec.specs.Value.{low_bits}
use Rattle.bit_blast_spec.specs.Gates.{Gate, last_of}
use Rattle.bit_blast_spec.specs.Circuits.{Bits, none, zeros, and_gate, each, and_each, sum_bits, add_rows, product_bits}
use Rattle.bit_blast_laws.specs.Meaning.{digit, number_of, AllHold}
use Rattle.bit_blast_laws.proofs.Gates.{hold_parts}
use Rattle.bit_blast_laws.proofs.Adders.{below_width, sum_holds, sum_length}
use Rattle.bit_blast_laws.proofs.Bitwise.{and_each_number, each_length}
use Rattle.bit_blast_laws.proofs.Widths.{number-append, number-take, number-zeros, holds-none, sum_mod_first}

times_digit : (b : Bool) (n : ℕ) → (if b then n else 0) ≡ n * digit b
times_digit true n = omega arith
times_digit false n = omega arith

spread : (p m q r d s : ℕ) → (s + p * (r * d)) + p * m * (q * d) ≡ s + p * ((m * q + r) * d)
spread p m q r d s = omega arith

by_parts : (p m w q r x d s : ℕ) → w ≡ p * m → m * q + r ≡ x → (s + p * (r * d)) % w ≡ (s + p * (x * d)) % w
by_parts p m w q r x d s e f =
    let whole : (s + p * (r * d)) + w * (q * d) ≡ s + p * (x * d) =
    ap (λ w. (s + p * (r * d)) + w * (q * d)) e ∙ spread p m q r d s ∙ ap (λ x. s + p * (x * d)) f
    in
    sym (ap (λ n. n % w) (sym whole) ∙ add-mul-mod_self_left (s + p * (r * d)) w (q * d))

-- a row keeps the low bits of its number
pub row_of : (index rest x d s : ℕ) → (s + 2 ^ index * (x % 2 ^ rest * d)) % 2 ^ (index + rest) ≡ (s + 2 ^ index * (x * d)) % 2 ^ (index + rest)
row_of index rest x d s =
    by_parts (2 ^ index) (2 ^ rest) (2 ^ (index + rest)) (x / 2 ^ rest) (x % 2 ^ rest) x d s (pow-add 2 index rest) (div-add-mod x (2 ^ rest))

row_length : (xs : Bits) (index : ℕ) (y : Literal) (last : ℕ) → index ≤ length xs
    → length (zeros index ++ (and_each (take (length xs - index) xs) y last).out) ≡ length xs
row_length xs index y last below =
    let row = (and_each (take (length xs - index) xs) y last).out in
    let short : length row ≡ length xs - index =
    each_length (λ x. and_gate x y) (take (length xs - index) xs) last ∙ length-take-le (length xs - index) xs (omega arith)
    in
    let e = length-append (zeros index) row in let f = length-replicate index none in omega (arith, e, f, short, below)

-- the sum with one row
with_row : (values : Valuation) (xs so_far : Bits) (y : Literal) (index rest : ℕ) (last : ℕ) → values 1 ≡ true → length xs ≡ index + rest → length so_far ≡ length xs
    → AllHold values last (and_each (take (length xs - index) xs) y last).gates
    → AllHold values (last_of last (and_each (take (length xs - index) xs) y last).gates)
    (sum_bits so_far (zeros index ++ (and_each (take (length xs - index) xs) y last).out) none (last_of last (and_each (take (length xs - index) xs) y last).gates)).gates
    → number_of values (sum_bits so_far (zeros index ++ (and_each (take (length xs - index) xs) y last).out) none (last_of last (and_each (take (length xs - index) xs) y last).gates)).out
    ≡ (number_of values so_far + 2 ^ index * (number_of values xs * digit (holds values y))) % 2 ^ length xs
with_row values xs so_far y index rest last truth long same row_holds sum =
    let row = (and_each (take (length xs - index) xs) y last).out in
    let cut : length xs - index ≡ rest = omega (arith, long) in
    let whole : length (zeros index ++ row) ≡ length xs = row_length xs index y last (omega (arith, long)) in
    let number : number_of values row ≡ number_of values xs % 2 ^ rest * digit (holds values y) =
    and_each_number values (take (length xs - index) xs) y last row_holds
    ∙ times_digit (holds values y) (number_of values (take (length xs - index) xs))
    ∙ ap (λ n. n * digit (holds values y)) (number-take values (length xs - index) xs ∙ ap (λ k. number_of values xs % 2 ^ k) cut)
    in
    let moved : number_of values (zeros index ++ row) ≡ 2 ^ index * (number_of values xs % 2 ^ rest * digit (holds values y)) =
    number-append values (zeros index) row
    ∙ ap (λ n. n + 2 ^ length (zeros index) * number_of values row) (number-zeros values index truth)
    ∙ ap (λ k. 0 + 2 ^ k * number_of values row) (length-replicate index none)
    ∙ ap (λ n. 0 + 2 ^ index * n) number ∙ no_more (2 ^ index * (number_of values xs % 2 ^ rest * digit (holds values y)))
    in
    sum_holds values so_far (zeros index ++ row) none (last_of last (and_each (take (length xs - index) xs) y last).gates) (same ∙ sym whole) sum
    ∙ ap (λ b. (number_of values so_far + number_of values (zeros index ++ row) + digit b) % 2 ^ length so_far) (holds-none values truth)
    ∙ ap (λ n. (number_of values so_far + n + 0) % 2 ^ length so_far) moved
    ∙ ap (λ n. n % 2 ^ length so_far) (more_none (number_of values so_far + 2 ^ index * (number_of values xs % 2 ^ rest * digit (holds values y))))
    ∙ ap (λ k. (number_of values so_far + 2 ^ index * (number_of values xs % 2 ^ rest * digit (holds values y))) % 2 ^ k) (same ∙ long)
    ∙ row_of index rest (number_of values xs) (digit (holds values y)) (number_of values so_far)
    ∙ ap (λ k. (number_of values so_far + 2 ^ index * (number_of values xs * digit (holds values y))) % 2 ^ k) (sym long)
  where
    no_more : (n : ℕ) → 0 + n ≡ n
    no_more n = omega arith

    more_none : (n : ℕ) → n + 0 ≡ n
    more_none n = omega arith

pub rows_hold : (values : Valuation) (xs : Bits) (index : ℕ) (ys so_far : Bits) (last : ℕ) → values 1 ≡ true → index + length ys ≤ length xs → length so_far ≡ length xs
    → AllHold values last (add_rows xs index ys so_far last).gates
    → number_of values (add_rows xs index ys so_far last).out ≡ (number_of values so_far + 2 ^ index * (number_of values xs * number_of values ys)) % 2 ^ length xs
unfolding add_rows
rows_hold values xs index [] so_far last truth long same all =
    let small = subst (λ k. number_of values so_far < 2 ^ k) same (below_width values so_far) in
    let whole : number_of values so_far ≡ number_of values so_far + 2 ^ index * (number_of values xs * 0) = omega arith in
    sym (mod-eq_of_lt small) ∙ ap (λ n. n % 2 ^ length xs) whole
rows_hold values xs index (y ∷ ys) so_far last truth long same all =
    let row = and_each (take (length xs - index) xs) y last in
    let first = last_of last row.gates in
    let sum = sum_bits so_far (zeros index ++ row.out) none first in
    let second = last_of first sum.gates in
    let parts = hold_parts values last row.gates (sum.gates ++ (add_rows xs (suc index) ys sum.out second).gates) all in
    let rest = hold_parts values first sum.gates (add_rows xs (suc index) ys sum.out second).gates parts.1 in
    let split : length xs ≡ index + (length xs - index) = omega (arith, long) in
    let lengths = row_length xs index y last (omega (arith, long)) in
    let more = sum_length so_far (zeros index ++ row.out) none first (same ∙ sym lengths) ∙ same in
    rows_hold values xs (suc index) ys sum.out second truth (omega (arith, long)) more rest.1
    ∙ ap (λ n. (n + 2 ^ suc index * (number_of values xs * number_of values ys)) % 2 ^ length xs)
    (with_row values xs so_far y index (length xs - index) last truth split same parts.0 rest.0)
    ∙ sum_mod_first (number_of values so_far + 2 ^ index * (number_of values xs * digit (holds values y))) (2 ^ suc index * (number_of values xs * number_of values ys)) (2 ^ length xs)
    ∙ ap (λ n. n % 2 ^ length xs)
    (ap (λ p. number_of values so_far + 2 ^ index * (number_of values xs * digit (holds values y)) + p * (number_of values xs * number_of values ys)) (pow-suc 2 index)
    ∙ joined (2 ^ index) (number_of values so_far) (number_of values xs) (digit (holds values y)) (number_of values ys))
  where
    joined : (p s x d y : ℕ) → s + p * (x * d) + p * 2 * (x * y) ≡ s + p * (x * (d + 2 * y))
    joined p s x d y = omega arith

pub rows_length : (xs : Bits) (index : ℕ) (ys so_far : Bits) (last : ℕ) → index + length ys ≤ length xs → length so_far ≡ length xs
    → length (add_rows xs index ys so_far last).out ≡ length xs
unfolding add_rows
rows_length xs index [] so_far last long same = same
rows_length xs index (y ∷ ys) so_far last long same =
    let row = and_each (take (length xs - index) xs) y last in
    let first = last_of last row.gates in
    let sum = sum_bits so_far (zeros index ++ row.out) none first in
    let lengths = row_length xs index y last (omega (arith, long)) in
    let more = sum_length so_far (zeros index ++ row.out) none first (same ∙ sym lengths) ∙ same in
    rows_length xs (suc index) ys sum.out (last_of first sum.gates) (omega (arith, long)) more

pub product_holds : (values : Valuation) (xs ys : Bits) (last : ℕ) → values 1 ≡ true → length ys ≡ length xs
    → AllHold values last (product_bits xs ys last).gates
    → number_of values (product_bits xs ys last).out ≡ low_bits (length xs) (number_of values xs * number_of values ys)
unfolding product_bits
product_holds values xs [] last truth same all =
    let nothing : 0 ≡ number_of values xs * 0 = omega arith in sym (zero-mod (2 ^ length xs)) ∙ ap (λ n. n % 2 ^ length xs) nothing
product_holds values xs (y ∷ ys) last truth same all =
    let row = and_each xs y last in
    let parts = hold_parts values last row.gates (add_rows xs 1 ys row.out (last_of last row.gates)).gates all in
    rows_hold values xs 1 ys row.out (last_of last row.gates) truth (omega (arith, same)) (each_length (λ x. and_gate x y) xs last) parts.1
    ∙ ap (λ n. (n + 2 ^ 1 * (number_of values xs * number_of values ys)) % 2 ^ length xs)
    (and_each_number values xs y last parts.0 ∙ times_digit (holds values y) (number_of values xs))
    ∙ ap (λ n. n % 2 ^ length xs) (joined (number_of values xs) (digit (holds values y)) (number_of values ys))
  where
    joined : (x d y : ℕ) → x * d + 2 ^ 1 * (x * y) ≡ x * (d + 2 * y)
    joined x d y = omega arith

pub product_length : (xs ys : Bits) (last : ℕ) → length ys ≡ length xs → length (product_bits xs ys last).out ≡ length xs
unfolding product_bits
product_length xs [] last same = same
product_length xs (y ∷ ys) last same =
    rows_length xs 1 ys (and_each xs y last).out (last_of last (and_each xs y last).gates) (omega (arith, same)) (each_length (λ x. and_gate x y) xs last)
