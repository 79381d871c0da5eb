-- Circuits name only variables made before them.
use Rattle.std.proofs.Common.{◌≡◌, ◌≤◌, ◌+◌, ◌-◌, ◌*◌, ℕ, zero, suc, Bool, true, false, List, [], ◌∷◌, ◌++◌, length, map, take, drop, replicate, refl, arith}
use Rattle.std.specs.Prelude.{nat_lt, if◌then◌else◌}
use Rattle.clause_check_spec.specs.declared.Literal.{Literal}
use Rattle.clause_check_spec.specs.Clause.{Clause, negation}
use Rattle.term_core_spec.specs.Term.{Term}
use Rattle.bit_blast_spec.specs.Gates.{Bit, last_of, literal_of, give, ◌>>=◌, make, claims, claim}
use Rattle.bit_blast_spec.specs.Circuits.{Bits, one, none, zeros, and_gate, xor_gate, mux_gate, majority_gate, each, each_two, and_all, or_all, choose_bits, equal_bits, sum_bits, difference_bits, carry_bit, less_bit, and_each, add_rows, product_bits, moved_up, moved_down, shift_stages, shift_bits, sign_of, shift_signed_bits, new_bits, twice_as_wide, without_divisor, division}
use Rattle.bit_blast_laws.specs.Named.{IsNamed, AreNamed, AllNamed, GatesName, WellMade}
use Rattle.bit_blast_laws.proofs.Made.{still_named, still_all, names_negation, names_negations, names-append, names-take, names-drop, names-replicate, names_one, names_none, names_sign, then_made, give_made, TwoMade, and_made, xor_made, mux_made, majority_made, each_made, each_two_made, and_all_made, or_all_made}

-- ---- equality, sums and comparison

pub equal_made : (xs ys : Bits) (last : ℕ) → 1 ≤ last → AreNamed last xs → AreNamed last ys → WellMade Literal IsNamed last (equal_bits xs ys last)
unfolding equal_bits TwoMade
equal_made xs ys last some nx ny =
    let unlike = each_two_made xor_gate 1 xor_made xs ys last some nx ny in
    let rises = unlike.rises in
    let middle = last_of last (each_two xor_gate xs ys last).gates in
    then_made AreNamed IsNamed (each_two xor_gate xs ys) (λ unlike. and_all (map negation unlike)) last unlike
    (and_all_made (map negation (each_two xor_gate xs ys last).out) middle (omega (arith, some, rises)) (names_negations middle (each_two xor_gate xs ys last).out unlike.out))

pub sum_made : (xs ys : Bits) (carry : Literal) (last : ℕ) → 1 ≤ last → AreNamed last xs → AreNamed last ys → IsNamed last carry
    → WellMade Bits AreNamed last (sum_bits xs ys carry last)
unfolding sum_bits
sum_made [] ys carry last some nx ny nc = give_made AreNamed [] last tt
sum_made (x ∷ xs) [] carry last some nx ny nc = give_made AreNamed [] last tt
sum_made (x ∷ xs) (y ∷ ys) carry last some nx ny nc =
    let half = literal_of (last + 1) in
    let bit = literal_of (last + 1 + 1) in
    let carry_on = literal_of (last + 1 + 1 + 1) in
    let third = last + 1 + 1 + 1 in
    let up = λ (l : Literal) (n : IsNamed last l). still_named last (last + 1 + 1) l (omega arith) n in
    let new_half : IsNamed (last + 1) half = record { some = omega arith; made = omega arith } in
    let new_carry : IsNamed third carry_on = record { some = omega arith; made = omega arith } in
    let new_bit : IsNamed third bit = record { some = omega arith; made = omega arith } in
    let rest = sum_made xs ys carry_on third (omega (arith, some)) (still_all last third xs (omega arith) nx.1) (still_all last third ys (omega arith) ny.1) new_carry in
    let whole = last_of third (sum_bits xs ys carry_on third).gates in
    let inner =
    then_made AreNamed AreNamed (sum_bits xs ys carry_on) (λ rest. give (bit ∷ rest)) third rest
    (give_made AreNamed (bit ∷ (sum_bits xs ys carry_on third).out) whole (still_named third whole bit rest.rises new_bit, rest.out))
    in
    then_made IsNamed AreNamed (xor_gate x y)
    (λ half. xor_gate half carry >>= λ bit. majority_gate x y carry >>= λ next. sum_bits xs ys next >>= λ rest. give (bit ∷ rest)) last
    (record { gates = ((nx.0, ny.0), tt); out = new_half; rises = omega arith })
    (then_made IsNamed AreNamed (xor_gate half carry)
    (λ bit. majority_gate x y carry >>= λ next. sum_bits xs ys next >>= λ rest. give (bit ∷ rest)) (last + 1)
    (record { gates = ((new_half, still_named last (last + 1) carry (omega arith) nc), tt); out = record { some = omega arith; made = omega arith }; rises = omega arith })
    (then_made IsNamed AreNamed (majority_gate x y carry) (λ next. sum_bits xs ys next >>= λ rest. give (bit ∷ rest)) (last + 1 + 1)
    (record { gates = ((up x nx.0, up y ny.0, up carry nc), tt); out = new_carry; rises = omega arith })
    inner))

pub carry_made : (xs ys : Bits) (carry : Literal) (last : ℕ) → 1 ≤ last → AreNamed last xs → AreNamed last ys → IsNamed last carry
    → WellMade Literal IsNamed last (carry_bit xs ys carry last)
unfolding carry_bit
carry_made [] ys carry last some nx ny nc = give_made IsNamed carry last nc
carry_made (x ∷ xs) [] carry last some nx ny nc = give_made IsNamed carry last nc
carry_made (x ∷ xs) (y ∷ ys) carry last some nx ny nc =
    then_made IsNamed IsNamed (majority_gate x y carry) (λ next. carry_bit xs ys next) last (majority_made x y carry last nx.0 ny.0 nc)
    (carry_made xs ys (literal_of (last + 1)) (last + 1) (omega (arith, some)) (still_all last (last + 1) xs (omega arith) nx.1)
    (still_all last (last + 1) ys (omega arith) ny.1) (record { some = omega arith; made = omega arith }))

pub less_made : (xs ys : Bits) (last : ℕ) → 1 ≤ last → AreNamed last xs → AreNamed last ys → WellMade Literal IsNamed last (less_bit xs ys last)
less_made xs ys last some nx ny =
    let carry = carry_made xs (map negation ys) one last some nx (names_negations last ys ny) (names_one last some) in
    let made = carry_bit xs (map negation ys) one last in
    then_made IsNamed IsNamed (carry_bit xs (map negation ys) one) (λ carry. give (negation carry)) last carry
    (give_made IsNamed (negation made.out) (last_of last made.gates) (names_negation (last_of last made.gates) made.out carry.out))

pub difference_made : (xs ys : Bits) (last : ℕ) → 1 ≤ last → AreNamed last xs → AreNamed last ys → WellMade Bits AreNamed last (difference_bits xs ys last)
difference_made xs ys last some nx ny = sum_made xs (map negation ys) one last some nx (names_negations last ys ny) (names_one last some)

-- ---- choices and rows

pub choose_made : (c : Literal) (xs ys : Bits) (last : ℕ) → IsNamed last c → AreNamed last xs → AreNamed last ys → WellMade Bits AreNamed last (choose_bits c xs ys last)
choose_made c xs ys last nc nx ny =
    each_two_made (mux_gate c) last (λ a b more h na nb. mux_made c a b more (still_named last more c h nc) na nb) xs ys last (omega arith) nx ny

pub and_each_made : (xs : Bits) (bit : Literal) (last : ℕ) → 1 ≤ last → AreNamed last xs → IsNamed last bit → WellMade Bits AreNamed last (and_each xs bit last)
unfolding TwoMade
and_each_made xs bit last some nx nb =
    each_made (λ x. and_gate x bit) last (λ a more h na. and_made a bit more (omega (arith, some, h)) na (still_named last more bit h nb)) xs last (omega arith) nx

pub rows_made : (xs : Bits) (index : ℕ) (ys so_far : Bits) (last : ℕ) → 1 ≤ last → AreNamed last xs → AreNamed last ys → AreNamed last so_far
    → WellMade Bits AreNamed last (add_rows xs index ys so_far last)
unfolding add_rows
rows_made xs index [] so_far last some nx ny ns = give_made AreNamed so_far last ns
rows_made xs index (y ∷ ys) so_far last some nx ny ns =
    let cut = take (length xs - index) xs in
    let row = and_each cut y last in
    let first = last_of last row.gates in
    let of_row = and_each_made cut y last some (names-take last (length xs - index) xs nx) ny.0 in
    let h = of_row.rises in
    let some_first : 1 ≤ first = omega (arith, some, h) in
    let sum = sum_bits so_far (zeros index ++ row.out) none first in
    let second = last_of first sum.gates in
    let of_sum =
    sum_made so_far (zeros index ++ row.out) none first some_first (still_all last first so_far h ns)
    (names-append first (zeros index) row.out (names-replicate first index none (names_none first some_first)) of_row.out) (names_none first some_first)
    in
    let k = of_sum.rises in
    let up : last ≤ second = omega (arith, h, k) in
    then_made AreNamed AreNamed (and_each cut y)
    (λ row. sum_bits so_far (zeros index ++ row) none >>= λ sum. add_rows xs (suc index) ys sum) last of_row
    (then_made AreNamed AreNamed (sum_bits so_far (zeros index ++ row.out) none) (λ sum. add_rows xs (suc index) ys sum) first of_sum
    (rows_made xs (suc index) ys sum.out second (omega (arith, some, up)) (still_all last second xs up nx) (still_all last second ys up ny.1) of_sum.out))

pub product_made : (xs ys : Bits) (last : ℕ) → 1 ≤ last → AreNamed last xs → AreNamed last ys → WellMade Bits AreNamed last (product_bits xs ys last)
unfolding product_bits
product_made xs [] last some nx ny = give_made AreNamed [] last tt
product_made xs (y ∷ ys) last some nx ny =
    let row = and_each xs y last in
    let of_row = and_each_made xs y last some nx ny.0 in
    let first = last_of last row.gates in
    let h = of_row.rises in
    then_made AreNamed AreNamed (and_each xs y) (λ row. add_rows xs 1 ys row) last of_row
    (rows_made xs 1 ys row.out first (omega (arith, some, h)) (still_all last first xs h nx) (still_all last first ys h ny.1) of_row.out)

-- ---- shifts

-- words that are moved are named as they were
pub Keeps : (ℕ → Bits → Bits) → ℕ → Type 0
Keeps move low = (distance last : ℕ) (xs : Bits) → low ≤ last → AreNamed last xs → AreNamed last (move distance xs)

PairNamed : ℕ → Bits × Literal → Type 0
PairNamed last out = AreNamed last out.0 × IsNamed last out.1

stage_made : (move : ℕ → Bits → Bits) (low : ℕ) → Keeps move low → (distance : ℕ) (c : Literal) (counts xs : Bits) (last : ℕ) → 1 ≤ last → low ≤ last
    → AreNamed last (c ∷ counts) → AreNamed last xs
    → ((distance : ℕ) (xs : Bits) (last : ℕ) → 1 ≤ last → low ≤ last → AreNamed last counts → AreNamed last xs
    → WellMade (Bits × Literal) PairNamed last (shift_stages move distance counts xs last))
    → (b : Bool) → WellMade (Bits × Literal) PairNamed last
    ((if b then choose_bits c (move distance xs) xs >>= (λ moved. shift_stages move (2 * distance) counts moved) else or_all (c ∷ counts) >>= (λ past. give (xs, past))) last)
unfolding Keeps PairNamed
stage_made move low keeps distance c counts xs last some h nc nx more true =
    let of_choice = choose_made c (move distance xs) xs last nc.0 (keeps distance last xs h nx) nx in
    let made = choose_bits c (move distance xs) xs last in
    let middle = last_of last made.gates in
    let k = of_choice.rises in
    then_made AreNamed PairNamed (choose_bits c (move distance xs) xs) (λ moved. shift_stages move (2 * distance) counts moved) last of_choice
    (more (2 * distance) made.out middle (omega (arith, some, k)) (omega (arith, h, k)) (still_all last middle counts k nc.1) of_choice.out)
stage_made move low keeps distance c counts xs last some h nc nx more false =
    let of_fold = or_all_made (c ∷ counts) last some nc in
    let made = or_all (c ∷ counts) last in
    let middle = last_of last made.gates in
    then_made IsNamed PairNamed (or_all (c ∷ counts)) (λ past. give (xs, past)) last of_fold
    (give_made PairNamed (xs, made.out) middle (still_all last middle xs of_fold.rises nx, of_fold.out))

stages_made : (move : ℕ → Bits → Bits) (low : ℕ) → Keeps move low → (counts : Bits) (distance : ℕ) (xs : Bits) (last : ℕ) → 1 ≤ last → low ≤ last
    → AreNamed last counts → AreNamed last xs → WellMade (Bits × Literal) PairNamed last (shift_stages move distance counts xs last)
unfolding shift_stages PairNamed
stages_made move low keeps [] distance xs last some h nc nx = give_made PairNamed (xs, none) last (nx, names_none last some)
stages_made move low keeps (c ∷ counts) distance xs last some h nc nx =
    stage_made move low keeps distance c counts xs last some h nc nx
    (λ distance xs last some h nc nx. stages_made move low keeps counts distance xs last some h nc nx) (nat_lt distance (length xs))

pub shift_made : (move : ℕ → Bits → Bits) → Keeps move 1 → (xs counts : Bits) (last : ℕ) → 1 ≤ last → AreNamed last xs → AreNamed last counts
    → WellMade Bits AreNamed last (shift_bits move xs counts last)
unfolding PairNamed TwoMade
shift_made move keeps xs counts last some nx nc =
    let stages = shift_stages move 1 counts xs last in
    let of_stages = stages_made move 1 keeps counts 1 xs last some some nc nx in
    let middle = last_of last stages.gates in
    let h = of_stages.rises in
    then_made PairNamed AreNamed (shift_stages move 1 counts xs) (λ (moved, past). each (λ x. and_gate (negation past) x) moved) last of_stages
    (each_made (λ x. and_gate (negation stages.out.1) x) middle
    (λ a more k na. and_made (negation stages.out.1) a more (omega (arith, some, h, k)) (names_negation more stages.out.1 (still_named middle more stages.out.1 k of_stages.out.1)) na)
    stages.out.0 middle (omega arith) of_stages.out.0)

pub keeps_up : Keeps moved_up 1
unfolding Keeps
keeps_up distance last xs h nx =
    names-append last (zeros distance) (take (length xs - distance) xs) (names-replicate last distance none (names_none last h)) (names-take last (length xs - distance) xs nx)

pub keeps_down : (fill : Literal) (low : ℕ) → IsNamed low fill → Keeps (moved_down fill) low
unfolding Keeps
keeps_down fill low named distance last xs h nx =
    names-append last (drop distance xs) (replicate distance fill) (names-drop last distance xs nx) (names-replicate last distance fill (still_named low last fill h named))

pub shift_signed_made : (xs counts : Bits) (last : ℕ) → 1 ≤ last → AreNamed last xs → AreNamed last counts → WellMade Bits AreNamed last (shift_signed_bits xs counts last)
unfolding PairNamed
shift_signed_made xs counts last some nx nc =
    let move = moved_down (sign_of xs) in
    let sign = names_sign last xs some nx in
    let stages = shift_stages move 1 counts xs last in
    let of_stages = stages_made move last (keeps_down (sign_of xs) last sign) counts 1 xs last some (omega arith) nc nx in
    let middle = last_of last stages.gates in
    let h = of_stages.rises in
    then_made PairNamed AreNamed (shift_stages move 1 counts xs) (λ (moved, past). each (λ x. mux_gate past (sign_of xs) x) moved) last of_stages
    (each_made (λ x. mux_gate stages.out.1 (sign_of xs) x) middle
    (λ a more k na. mux_made stages.out.1 (sign_of xs) a more (still_named middle more stages.out.1 k of_stages.out.1)
    (still_named last more (sign_of xs) (omega (arith, h, k)) sign) na)
    stages.out.0 middle (omega arith) of_stages.out.0)

-- ---- new bits and division

pub new_made : (term : Term) (index count last : ℕ) → WellMade Bits AreNamed last (new_bits term index count last)
unfolding new_bits
new_made term index zero last = give_made AreNamed [] last tt
new_made term index (suc count) last =
    let bit = literal_of (last + 1) in
    let new : IsNamed (last + 1) bit = record { some = omega arith; made = omega arith } in
    let rest = new_made term (suc index) count (last + 1) in
    let made = new_bits term (suc index) count (last + 1) in
    let whole = last_of (last + 1) made.gates in
    then_made IsNamed AreNamed (make (Bit term index)) (λ bit. new_bits term (suc index) count >>= λ rest. give (bit ∷ rest)) last
    (record { gates = (tt, tt); out = new; rises = omega arith })
    (then_made AreNamed AreNamed (new_bits term (suc index) count) (λ rest. give (bit ∷ rest)) (last + 1) rest
    (give_made AreNamed (bit ∷ made.out) whole (still_named (last + 1) whole bit rest.rises new, rest.out)))

pub claims_named : (last : ℕ) (clauses : List Clause) → AllNamed last clauses → GatesName last (claims clauses)
claims_named last [] named = tt
claims_named last (clause ∷ clauses) named = (named.0, claims_named last clauses named.1)

pub claims_last : (last : ℕ) (clauses : List Clause) → last_of last (claims clauses) ≡ last
claims_last last [] = refl
claims_last last (clause ∷ clauses) = claims_last last clauses

pub claim_made : (clauses : List Clause) (last : ℕ) → AllNamed last clauses → WellMade (Unit {0}) (λ last unit. Unit {0}) last (claim clauses last)
claim_made clauses last named = record {
  gates = claims_named last clauses named;
  out = tt;
  rises = (let e = claims_last last clauses in omega (arith, e));
}

without_named : (last : ℕ) (n : Literal) (qs rs xs : Bits) → IsNamed last n → AreNamed last qs → AreNamed last rs → AreNamed last xs → AllNamed last (without_divisor n qs rs xs)
without_named last n [] rs xs nn nq nr nx = tt
without_named last n (q ∷ qs) [] xs nn nq nr nx = tt
without_named last n (q ∷ qs) (r ∷ rs) [] nn nq nr nx = tt
without_named last n (q ∷ qs) (r ∷ rs) (x ∷ xs) nn nq nr nx =
    ((nn, (nq.0, tt)), ((nn, (names_negation last r nr.0, (nx.0, tt))), ((nn, (nr.0, (names_negation last x nx.0, tt))), without_named last n qs rs xs nn nq.1 nr.1 nx.1)))

wide_named : (last : ℕ) (xs : Bits) → 1 ≤ last → AreNamed last xs → AreNamed last (twice_as_wide xs)
wide_named last xs some nx = names-append last xs (zeros (length xs)) nx (names-replicate last (length xs) none (names_none last some))

pub division_made : (qs rs xs ys : Bits) (last : ℕ) → 1 ≤ last → AreNamed last qs → AreNamed last rs → AreNamed last xs → AreNamed last ys
    → WellMade (Unit {0}) (λ last unit. Unit {0}) last (division qs rs xs ys last)
unfolding division
division_made qs rs xs ys last some nq nr nx ny =
    let Free = λ (last : ℕ) (unit : Unit {0}). Unit {0} in
    let some_bit = or_all ys last in
    let l1 = last_of last some_bit.gates in
    let of1 = or_all_made ys last some ny in
    let h1 = of1.rises in
    let s1 : 1 ≤ l1 = omega (arith, some, h1) in
    let product = product_bits (twice_as_wide qs) (twice_as_wide ys) l1 in
    let l2 = last_of l1 product.gates in
    let of2 =
    product_made (twice_as_wide qs) (twice_as_wide ys) l1 s1 (wide_named l1 qs s1 (still_all last l1 qs h1 nq)) (wide_named l1 ys s1 (still_all last l1 ys h1 ny))
    in
    let h2 = of2.rises in
    let s2 : 1 ≤ l2 = omega (arith, s1, h2) in
    let u2 : last ≤ l2 = omega (arith, h1, h2) in
    let sum = sum_bits product.out (twice_as_wide rs) none l2 in
    let l3 = last_of l2 sum.gates in
    let of3 = sum_made product.out (twice_as_wide rs) none l2 s2 of2.out (wide_named l2 rs s2 (still_all last l2 rs u2 nr)) (names_none l2 s2) in
    let h3 = of3.rises in
    let s3 : 1 ≤ l3 = omega (arith, s2, h3) in
    let u3 : last ≤ l3 = omega (arith, u2, h3) in
    let same = equal_bits sum.out (twice_as_wide xs) l3 in
    let l4 = last_of l3 same.gates in
    let of4 = equal_made sum.out (twice_as_wide xs) l3 s3 of3.out (wide_named l3 xs s3 (still_all last l3 xs u3 nx)) in
    let h4 = of4.rises in
    let s4 : 1 ≤ l4 = omega (arith, s3, h4) in
    let u4 : last ≤ l4 = omega (arith, u3, h4) in
    let less = less_bit rs ys l4 in
    let l5 = last_of l4 less.gates in
    let of5 = less_made rs ys l4 s4 (still_all last l4 rs u4 nr) (still_all last l4 ys u4 ny) in
    let h5 = of5.rises in
    let u5 : last ≤ l5 = omega (arith, u4, h5) in
    let n5 = still_named l1 l5 some_bit.out (omega (arith, h2, h3, h4, h5)) of1.out in
    let rules = (negation some_bit.out ∷ same.out ∷ []) ∷ (negation some_bit.out ∷ less.out ∷ []) ∷ without_divisor some_bit.out qs rs xs in
    let of6 =
    claim_made rules l5 (
      (names_negation l5 some_bit.out n5, (still_named l4 l5 same.out h5 of4.out, tt)),
      (
        (names_negation l5 some_bit.out n5, (of5.out, tt)),
        without_named l5 some_bit.out qs rs xs n5 (still_all last l5 qs u5 nq) (still_all last l5 rs u5 nr) (still_all last l5 xs u5 nx),
      ),
    )
    in
    then_made IsNamed Free (or_all ys)
    (λ n. product_bits (twice_as_wide qs) (twice_as_wide ys) >>= λ product. sum_bits product (twice_as_wide rs) none >>= λ sum.
    equal_bits sum (twice_as_wide xs) >>= λ same. less_bit rs ys >>= λ less.
    claim ((negation n ∷ same ∷ []) ∷ (negation n ∷ less ∷ []) ∷ without_divisor n qs rs xs)) last of1
    (then_made AreNamed Free (product_bits (twice_as_wide qs) (twice_as_wide ys))
    (λ product. sum_bits product (twice_as_wide rs) none >>= λ sum. equal_bits sum (twice_as_wide xs) >>= λ same. less_bit rs ys >>= λ less.
    claim ((negation some_bit.out ∷ same ∷ []) ∷ (negation some_bit.out ∷ less ∷ []) ∷ without_divisor some_bit.out qs rs xs)) l1 of2
    (then_made AreNamed Free (sum_bits product.out (twice_as_wide rs) none)
    (λ sum. equal_bits sum (twice_as_wide xs) >>= λ same. less_bit rs ys >>= λ less.
    claim ((negation some_bit.out ∷ same ∷ []) ∷ (negation some_bit.out ∷ less ∷ []) ∷ without_divisor some_bit.out qs rs xs)) l2 of3
    (then_made IsNamed Free (equal_bits sum.out (twice_as_wide xs))
    (λ same. less_bit rs ys >>= λ less. claim ((negation some_bit.out ∷ same ∷ []) ∷ (negation some_bit.out ∷ less ∷ []) ∷ without_divisor some_bit.out qs rs xs)) l3 of4
    (then_made IsNamed Free (less_bit rs ys)
    (λ less. claim ((negation some_bit.out ∷ same.out ∷ []) ∷ (negation some_bit.out ∷ less ∷ []) ∷ without_divisor some_bit.out qs rs xs)) l4 of5 of6))))
