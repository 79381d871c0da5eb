-- Circuits for words; a word is the list of the literals of its bits, the lowest first.
use Rattle.std.specs.Prelude.{ℕ, zero, suc, ◌+◌, ◌-◌, ◌*◌, nat_lt, if◌then◌else◌, Bool, true, false, List, [], ◌∷◌, ◌++◌, length, map, take, drop, replicate}
use Rattle.clause_check_spec.specs.declared.Literal.{Literal}
use Rattle.clause_check_spec.specs.Clause.{Clause, negation}
use Rattle.term_core_spec.specs.Term.{Term}
use Rattle.bit_blast_spec.specs.Gates.{Gate, Bit, And, Xor, Mux, Majority, Build, give, ◌>>=◌, make, claim, literal_of}

abbrev pub Bits : Type 0
Bits = List Literal

-- truth is variable 1
abbrev pub one : Literal
one = literal_of 1

abbrev pub none : Literal
none = negation one

abbrev pub zeros : ℕ → Bits
zeros count = replicate count none

-- ---- single bits

abbrev pub and_gate : Literal → Literal → Build Literal
and_gate a b = make (And a b)

abbrev pub or_gate : Literal → Literal → Build Literal
or_gate a b = and_gate (negation a) (negation b) >>= λ o. give (negation o)

abbrev pub xor_gate : Literal → Literal → Build Literal
xor_gate a b = make (Xor a b)

abbrev pub mux_gate : (c a b : Literal) → Build Literal
mux_gate c a b = make (Mux c a b)

abbrev pub majority_gate : (a b c : Literal) → Build Literal
majority_gate a b c = make (Majority a b c)

-- ---- bit by bit

unfoldable pub each : (Literal → Build Literal) → Bits → Build Bits
each gate [] = give []
each gate (x ∷ xs) = gate x >>= λ o. each gate xs >>= λ rest. give (o ∷ rest)

unfoldable pub each_two : (Literal → Literal → Build Literal) → Bits → Bits → Build Bits
each_two gate (x ∷ xs) (y ∷ ys) = gate x y >>= λ o. each_two gate xs ys >>= λ rest. give (o ∷ rest)
each_two gate xs ys = give []

-- from bit 0 upwards
unfoldable pub fold_gates : (Literal → Literal → Build Literal) → Literal → Bits → Build Literal
fold_gates gate so_far [] = give so_far
fold_gates gate so_far (bit ∷ bits) = gate so_far bit >>= λ o. fold_gates gate o bits

unfoldable pub and_all : Bits → Build Literal
and_all [] = give one
and_all (bit ∷ bits) = fold_gates and_gate bit bits

unfoldable pub or_all : Bits → Build Literal
or_all [] = give none
or_all (bit ∷ bits) = fold_gates or_gate bit bits

-- bits of the first where c holds, else of the second
abbrev pub choose_bits : Literal → Bits → Bits → Build Bits
choose_bits c xs ys = each_two (mux_gate c) xs ys

unfoldable pub equal_bits : Bits → Bits → Build Literal
equal_bits xs ys = each_two xor_gate xs ys >>= λ unlike. and_all (map negation unlike)

-- ---- sums and comparison

-- the ripple-carry adder: the sum of x, y and a carry
unfoldable pub sum_bits : Bits → Bits → (carry : Literal) → Build Bits
sum_bits (x ∷ xs) (y ∷ ys) carry =
    xor_gate x y >>= λ half. xor_gate half carry >>= λ bit. majority_gate x y carry >>= λ next.
    sum_bits xs ys next >>= λ rest. give (bit ∷ rest)
sum_bits xs ys carry = give []

abbrev pub difference_bits : Bits → Bits → Build Bits
difference_bits xs ys = sum_bits xs (map negation ys) one

-- the last carry of a sum
unfoldable pub carry_bit : Bits → Bits → (carry : Literal) → Build Literal
carry_bit (x ∷ xs) (y ∷ ys) carry = majority_gate x y carry >>= λ next. carry_bit xs ys next
carry_bit xs ys carry = give carry

-- x is less exactly if x - y has no carry
abbrev pub less_bit : Bits → Bits → Build Literal
less_bit xs ys = carry_bit xs (map negation ys) one >>= λ carry. give (negation carry)

-- ---- products

-- the word where the bit holds, else 0
abbrev pub and_each : Bits → Literal → Build Bits
and_each xs bit = each (λ x. and_gate x bit) xs

-- one row for each bit of y, moved up by its index, is added to the sum so far
unfoldable pub add_rows : (xs : Bits) → (index : ℕ) → (ys : Bits) → (so_far : Bits) → Build Bits
add_rows xs index [] so_far = give so_far
add_rows xs index (y ∷ ys) so_far =
    and_each (take (length xs - index) xs) y >>= λ row. sum_bits so_far (zeros index ++ row) none >>= λ sum.
    add_rows xs (suc index) ys sum

unfoldable pub product_bits : Bits → Bits → Build Bits
product_bits xs [] = give []
product_bits xs (y ∷ ys) = and_each xs y >>= λ row. add_rows xs 1 ys row

-- ---- shifts

abbrev pub moved_up : (distance : ℕ) → Bits → Bits
moved_up distance xs = zeros distance ++ take (length xs - distance) xs

abbrev pub moved_down : Literal → (distance : ℕ) → Bits → Bits
moved_down fill distance xs = drop distance xs ++ replicate distance fill

-- the barrel shifter: a stage for each bit of the count whose power of two is below the width; and whether one of the
-- higher bits is set
unfoldable pub shift_stages : (move : ℕ → Bits → Bits) → (distance : ℕ) → (counts : Bits) → Bits → Build (Bits × Literal)
shift_stages move distance [] xs = give (xs, none)
shift_stages move distance (c ∷ counts) xs =
    if nat_lt distance (length xs) then choose_bits c (move distance xs) xs >>= (λ moved. shift_stages move (2 * distance) counts moved)
    else or_all (c ∷ counts) >>= (λ past. give (xs, past))

-- nothing is left where a higher bit of the count is set
abbrev pub shift_bits : (move : ℕ → Bits → Bits) → Bits → (counts : Bits) → Build Bits
shift_bits move xs counts = shift_stages move 1 counts xs >>= λ (moved, past). each (λ x. and_gate (negation past) x) moved

-- the top bit
abbrev pub sign_of : Bits → Literal
sign_of [] = none
sign_of (x ∷ []) = x
sign_of (x ∷ y ∷ xs) = sign_of (y ∷ xs)

-- only signs are left where a higher bit of the count is set
abbrev pub shift_signed_bits : Bits → (counts : Bits) → Build Bits
shift_signed_bits xs counts =
    shift_stages (moved_down (sign_of xs)) 1 counts xs >>= λ (moved, past). each (λ x. mux_gate past (sign_of xs) x) moved

-- ---- quotient and remainder

-- so many new bits of a term, from an index on
unfoldable pub new_bits : Term → (index count : ℕ) → Build Bits
new_bits term index zero = give []
new_bits term index (suc count) = make (Bit term index) >>= λ bit. new_bits term (suc index) count >>= λ rest. give (bit ∷ rest)

abbrev pub twice_as_wide : Bits → Bits
twice_as_wide xs = xs ++ zeros (length xs)

-- where the divisor is 0 the quotient has all bits set, and the remainder those of the dividend
abbrev pub without_divisor : Literal → (q r x : Bits) → List Clause
without_divisor n (q ∷ qs) (r ∷ rs) (x ∷ xs) =
    (n ∷ q ∷ []) ∷ (n ∷ negation r ∷ x ∷ []) ∷ (n ∷ r ∷ negation x ∷ []) ∷ without_divisor n qs rs xs
without_divisor n qs rs xs = []

-- q y + r = x, in whole numbers, and r is less than y, where y is not 0
unfoldable pub division : (q r x y : Bits) → Build (Unit {0})
division q r x y =
    or_all y >>= λ n. product_bits (twice_as_wide q) (twice_as_wide y) >>= λ product.
    sum_bits product (twice_as_wide r) none >>= λ sum. equal_bits sum (twice_as_wide x) >>= λ same. less_bit r y >>= λ less.
    claim ((negation n ∷ same ∷ []) ∷ (negation n ∷ less ∷ []) ∷ without_divisor n q r x)
