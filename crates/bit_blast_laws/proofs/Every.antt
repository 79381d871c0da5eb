-- What holds of every gate of a circuit.
use Rattle.std.proofs.Common.{◌+◌, ◌-◌, ◌*◌, ℕ, zero, suc, Bool, true, false, List, [], ◌∷◌, ◌++◌, length, map, take}
use Rattle.std.specs.Prelude.{nat_lt, if◌then◌else◌}
use Rattle.clause_check_spec.specs.declared.Literal.{Literal}
use Rattle.clause_check_spec.specs.Clause.{Clause, negation}
use Rattle.term_core_spec.specs.declared.Atom.{Atom}
use Rattle.term_core_spec.specs.declared.Atom.TheVariants as atom
use Rattle.term_core_spec.specs.declared.UnaryOperator.{UnaryOperator}
use Rattle.term_core_spec.specs.declared.UnaryOperator.TheVariants as unary
use Rattle.term_core_spec.specs.declared.WordOperator.{WordOperator}
use Rattle.term_core_spec.specs.declared.WordOperator.TheVariants as word
use Rattle.term_core_spec.specs.declared.BinaryOperator.{BinaryOperator}
use Rattle.term_core_spec.specs.declared.BinaryOperator.TheVariants as binary
use Rattle.term_core_spec.specs.declared.TernaryOperator.{TernaryOperator}
use Rattle.term_core_spec.specs.declared.TernaryOperator.TheVariants as ternary
use Rattle.term_core_spec.specs.declared.QuaternaryOperator.{QuaternaryOperator}
use Rattle.term_core_spec.specs.declared.QuaternaryOperator.TheVariants as quaternary
use Rattle.term_core_spec.specs.Term.{Term, Leaf}
use Rattle.bit_blast_spec.specs.Gates.{Gate, Bit, And, Xor, Mux, Majority, Claim, last_of, literal_of, Build, give, ◌>>=◌, claims}
use Rattle.bit_blast_spec.specs.Circuits.{Bits, one, none, zeros, and_gate, or_gate, xor_gate, mux_gate, each, each_two, fold_gates, and_all, or_all, choose_bits, equal_bits, sum_bits, carry_bit, less_bit, and_each, add_rows, product_bits, moved_up, moved_down, shift_stages, shift_bits, sign_of, shift_signed_bits, new_bits, twice_as_wide, without_divisor, division}
use Rattle.bit_blast_spec.specs.Goal.{atom_bits, unary_bits, word_bits, binary_bits, ternary_bits, quaternary_bits}

-- each gate is so
abbrev pub Every : (Ok : Gate → Type 0) → List Gate → Type 0
Every Ok [] = Unit {0}
Every Ok (gate ∷ gates) = Ok gate × Every Ok gates

-- so is each gate of the four kinds of which circuits are made
pub record OfGates (Ok : Gate → Type 0) : Type 0 where
  pub and : (a b : Literal) → Ok (And a b)
  pub xor : (a b : Literal) → Ok (Xor a b)
  pub mux : (c a b : Literal) → Ok (Mux c a b)
  pub majority : (a b c : Literal) → Ok (Majority a b c)

pub every-append : (Ok : Gate → Type 0) (gates more : List Gate) → Every Ok gates → Every Ok more → Every Ok (gates ++ more)
every-append Ok [] more h k = k
every-append Ok (gate ∷ gates) more h k = (h.0, every-append Ok gates more h.1 k)

module _ (Ok : Gate → Type 0) (ok : OfGates Ok) where
  and_of : (a b : Literal) (last : ℕ) → Every Ok (and_gate a b last).gates
  and_of a b last = (ok.and a b, tt)

  or_of : (a b : Literal) (last : ℕ) → Every Ok (or_gate a b last).gates
  or_of a b last = (ok.and _ _, tt)

  xor_of : (a b : Literal) (last : ℕ) → Every Ok (xor_gate a b last).gates
  xor_of a b last = (ok.xor a b, tt)

  mux_of : (c a b : Literal) (last : ℕ) → Every Ok (mux_gate c a b last).gates
  mux_of c a b last = (ok.mux c a b, tt)

  -- ---- circuits

  every_each : (gate : Literal → Build Literal) → ((a : Literal) (last : ℕ) → Every Ok (gate a last).gates) → (xs : Bits) (last : ℕ) → Every Ok (each gate xs last).gates
  unfolding each
  every_each gate good [] last = tt
  every_each gate good (x ∷ xs) last =
      let after = last_of last (gate x last).gates in
      every-append Ok (gate x last).gates ((each gate xs after).gates ++ []) (good x last) (every-append Ok (each gate xs after).gates [] (every_each gate good xs after) tt)

  every_each_two : (gate : Literal → Literal → Build Literal) → ((a b : Literal) (last : ℕ) → Every Ok (gate a b last).gates) → (xs ys : Bits) (last : ℕ)
      → Every Ok (each_two gate xs ys last).gates
  unfolding each_two
  every_each_two gate good [] ys last = tt
  every_each_two gate good (x ∷ xs) [] last = tt
  every_each_two gate good (x ∷ xs) (y ∷ ys) last =
      let after = last_of last (gate x y last).gates in
      every-append Ok (gate x y last).gates ((each_two gate xs ys after).gates ++ []) (good x y last)
      (every-append Ok (each_two gate xs ys after).gates [] (every_each_two gate good xs ys after) tt)

  every_fold : (gate : Literal → Literal → Build Literal) → ((a b : Literal) (last : ℕ) → Every Ok (gate a b last).gates) → (so_far : Literal) (found : Bits) (last : ℕ)
      → Every Ok (fold_gates gate so_far found last).gates
  unfolding fold_gates
  every_fold gate good so_far [] last = tt
  every_fold gate good so_far (bit ∷ found) last =
      let after = last_of last (gate so_far bit last).gates in
      every-append Ok (gate so_far bit last).gates (fold_gates gate (gate so_far bit last).out found after).gates (good so_far bit last)
      (every_fold gate good (gate so_far bit last).out found after)

  pub every_and_all : (found : Bits) (last : ℕ) → Every Ok (and_all found last).gates
  unfolding and_all
  every_and_all [] last = tt
  every_and_all (bit ∷ found) last = every_fold and_gate and_of bit found last

  pub every_or_all : (found : Bits) (last : ℕ) → Every Ok (or_all found last).gates
  unfolding or_all
  every_or_all [] last = tt
  every_or_all (bit ∷ found) last = every_fold or_gate or_of bit found last

  pub every_equal : (xs ys : Bits) (last : ℕ) → Every Ok (equal_bits xs ys last).gates
  unfolding equal_bits
  every_equal xs ys last =
      let unlike = each_two xor_gate xs ys last in
      every-append Ok unlike.gates (and_all (map negation unlike.out) (last_of last unlike.gates)).gates (every_each_two xor_gate xor_of xs ys last)
      (every_and_all (map negation unlike.out) (last_of last unlike.gates))

  pub every_sum : (xs ys : Bits) (carry : Literal) (last : ℕ) → Every Ok (sum_bits xs ys carry last).gates
  unfolding sum_bits
  every_sum [] ys carry last = tt
  every_sum (x ∷ xs) [] carry last = tt
  every_sum (x ∷ xs) (y ∷ ys) carry last = (
    ok.xor _ _,
    (
      ok.xor _ _,
      (
        ok.majority _ _ _,
        every-append Ok (sum_bits xs ys (literal_of (last + 1 + 1 + 1)) (last + 1 + 1 + 1)).gates []
            (every_sum xs ys (literal_of (last + 1 + 1 + 1)) (last + 1 + 1 + 1)) tt,
      ),
    ),
  )

  every_carry : (xs ys : Bits) (carry : Literal) (last : ℕ) → Every Ok (carry_bit xs ys carry last).gates
  unfolding carry_bit
  every_carry [] ys carry last = tt
  every_carry (x ∷ xs) [] carry last = tt
  every_carry (x ∷ xs) (y ∷ ys) carry last = (ok.majority _ _ _, every_carry xs ys (literal_of (last + 1)) (last + 1))

  pub every_less : (xs ys : Bits) (last : ℕ) → Every Ok (less_bit xs ys last).gates
  every_less xs ys last = every-append Ok (carry_bit xs (map negation ys) one last).gates [] (every_carry xs (map negation ys) one last) tt

  every_rows : (xs : Bits) (index : ℕ) (ys so_far : Bits) (last : ℕ) → Every Ok (add_rows xs index ys so_far last).gates
  unfolding add_rows
  every_rows xs index [] so_far last = tt
  every_rows xs index (y ∷ ys) so_far last =
      let row = and_each (take (length xs - index) xs) y last in
      let first = last_of last row.gates in
      let sum = sum_bits so_far (zeros index ++ row.out) none first in
      let second = last_of first sum.gates in
      every-append Ok row.gates (sum.gates ++ (add_rows xs (suc index) ys sum.out second).gates) (every_each (λ x. and_gate x y) (λ a last. and_of a y last) (take (length xs - index) xs) last)
      (every-append Ok sum.gates (add_rows xs (suc index) ys sum.out second).gates (every_sum so_far (zeros index ++ row.out) none first)
      (every_rows xs (suc index) ys sum.out second))

  pub every_product : (xs ys : Bits) (last : ℕ) → Every Ok (product_bits xs ys last).gates
  unfolding product_bits
  every_product xs [] last = tt
  every_product xs (y ∷ ys) last =
      let row = and_each xs y last in
      every-append Ok row.gates (add_rows xs 1 ys row.out (last_of last row.gates)).gates (every_each (λ x. and_gate x y) (λ a last. and_of a y last) xs last)
      (every_rows xs 1 ys row.out (last_of last row.gates))

  every_stage : (move : ℕ → Bits → Bits) (distance : ℕ) (c : Literal) (counts xs : Bits) (last : ℕ)
      → ((distance : ℕ) (xs : Bits) (last : ℕ) → Every Ok (shift_stages move distance counts xs last).gates) → (b : Bool)
      → Every Ok ((if b then choose_bits c (move distance xs) xs >>= (λ moved. shift_stages move (2 * distance) counts moved) else or_all (c ∷ counts) >>= (λ past. give (xs, past))) last).gates
  every_stage move distance c counts xs last more true =
      let made = choose_bits c (move distance xs) xs last in
      every-append Ok made.gates (shift_stages move (2 * distance) counts made.out (last_of last made.gates)).gates
      (every_each_two (mux_gate c) (mux_of c) (move distance xs) xs last) (more (2 * distance) made.out (last_of last made.gates))
  every_stage move distance c counts xs last more false = every-append Ok (or_all (c ∷ counts) last).gates [] (every_or_all (c ∷ counts) last) tt

  every_stages : (move : ℕ → Bits → Bits) (counts : Bits) (distance : ℕ) (xs : Bits) (last : ℕ) → Every Ok (shift_stages move distance counts xs last).gates
  unfolding shift_stages
  every_stages move [] distance xs last = tt
  every_stages move (c ∷ counts) distance xs last =
      every_stage move distance c counts xs last (λ distance xs last. every_stages move counts distance xs last) (nat_lt distance (length xs))

  every_shift : (move : ℕ → Bits → Bits) (xs counts : Bits) (last : ℕ) → Every Ok (shift_bits move xs counts last).gates
  every_shift move xs counts last =
      let stages = shift_stages move 1 counts xs last in
      let middle = last_of last stages.gates in
      every-append Ok stages.gates (each (λ x. and_gate (negation stages.out.1) x) stages.out.0 middle).gates (every_stages move counts 1 xs last)
      (every_each (λ x. and_gate (negation stages.out.1) x) (λ a last. and_of (negation stages.out.1) a last) stages.out.0 middle)

  every_shift_signed : (xs counts : Bits) (last : ℕ) → Every Ok (shift_signed_bits xs counts last).gates
  every_shift_signed xs counts last =
      let stages = shift_stages (moved_down (sign_of xs)) 1 counts xs last in
      let middle = last_of last stages.gates in
      every-append Ok stages.gates (each (λ x. mux_gate stages.out.1 (sign_of xs) x) stages.out.0 middle).gates (every_stages (moved_down (sign_of xs)) counts 1 xs last)
      (every_each (λ x. mux_gate stages.out.1 (sign_of xs) x) (λ a last. mux_of stages.out.1 (sign_of xs) a last) stages.out.0 middle)

  pub every_new : (term : Term) (index count last : ℕ) → ((at : ℕ) → Ok (Bit term at)) → Every Ok (new_bits term index count last).gates
  unfolding new_bits
  every_new term index zero last bit = tt
  every_new term index (suc count) last bit =
      (bit index, every-append Ok (new_bits term (suc index) count (last + 1)).gates [] (every_new term (suc index) count (last + 1) bit) tt)

  pub every_claim : (clauses : List Clause) → ((clause : Clause) → Ok (Claim clause)) → Every Ok (claims clauses)
  every_claim [] claim = tt
  every_claim (clause ∷ clauses) claim = (claim clause, every_claim clauses claim)

  pub every_division : (qs rs xs ys : Bits) (last : ℕ) → ((clause : Clause) → Ok (Claim clause)) → Every Ok (division qs rs xs ys last).gates
  unfolding division
  every_division qs rs xs ys last claim =
      let some = or_all ys last in
      let first = last_of last some.gates in
      let product = product_bits (twice_as_wide qs) (twice_as_wide ys) first in
      let second = last_of first product.gates in
      let sum = sum_bits product.out (twice_as_wide rs) none second in
      let third = last_of second sum.gates in
      let same = equal_bits sum.out (twice_as_wide xs) third in
      let fourth = last_of third same.gates in
      let less = less_bit rs ys fourth in
      let rules = (negation some.out ∷ same.out ∷ []) ∷ (negation some.out ∷ less.out ∷ []) ∷ without_divisor some.out qs rs xs in
      every-append Ok some.gates (product.gates ++ (sum.gates ++ (same.gates ++ (less.gates ++ claims rules)))) (every_or_all ys last)
      (every-append Ok product.gates (sum.gates ++ (same.gates ++ (less.gates ++ claims rules))) (every_product (twice_as_wide qs) (twice_as_wide ys) first)
      (every-append Ok sum.gates (same.gates ++ (less.gates ++ claims rules)) (every_sum product.out (twice_as_wide rs) none second)
      (every-append Ok same.gates (less.gates ++ claims rules) (every_equal sum.out (twice_as_wide xs) third)
      (every-append Ok less.gates (claims rules) (every_less rs ys fourth) (every_claim rules claim)))))

  -- ---- operators

  pub every_atom : (leaf : Atom) (last : ℕ) → ((at : ℕ) → Ok (Bit (Leaf leaf) at)) → Every Ok (atom_bits leaf last).gates
  unfolding atom_bits
  every_atom (atom.Truth b) last bit = tt
  every_atom (atom.Constant width n) last bit = tt
  every_atom (atom.Open v) last bit = every_new _ 0 _ last bit

  pub every_unary : (operator : UnaryOperator) (xs : Bits) (last : ℕ) → Every Ok (unary_bits operator xs last).gates
  unfolding unary_bits
  every_unary unary.Not xs last = tt
  every_unary unary.Complement xs last = tt
  every_unary (unary.ZeroExtend width) xs last = tt
  every_unary (unary.SignExtend width) xs last = tt
  every_unary (unary.Low width) xs last = tt
  every_unary (unary.Byte index) xs last = tt

  every_word : (operator : WordOperator) (xs ys : Bits) (last : ℕ) → Every Ok (word_bits operator xs ys last).gates
  unfolding word_bits
  every_word word.Add xs ys last = every_sum xs ys none last
  every_word word.Subtract xs ys last = every_sum xs (map negation ys) one last
  every_word word.Multiply xs ys last = every_product xs ys last
  every_word word.And xs ys last = every_each_two and_gate and_of xs ys last
  every_word word.Or xs ys last = every_each_two or_gate or_of xs ys last
  every_word word.Xor xs ys last = every_each_two xor_gate xor_of xs ys last
  every_word word.ShiftLeft xs ys last = every_shift moved_up xs ys last
  every_word word.ShiftRight xs ys last = every_shift (moved_down none) xs ys last
  every_word word.ShiftRightSigned xs ys last = every_shift_signed xs ys last
  every_word word.Divide xs ys last = tt
  every_word word.Remainder xs ys last = tt

  pub every_binary : (term : Term) (operator : BinaryOperator) (xs ys : Bits) (last : ℕ) → ((at : ℕ) → Ok (Bit term at)) → Every Ok (binary_bits term operator xs ys last).gates
  unfolding binary_bits
  every_binary term binary.And xs ys last bit = every_each_two and_gate and_of xs ys last
  every_binary term binary.Or xs ys last bit = every_each_two or_gate or_of xs ys last
  every_binary term binary.Equal xs ys last bit = every-append Ok (equal_bits xs ys last).gates [] (every_equal xs ys last) tt
  every_binary term binary.Less xs ys last bit = every-append Ok (less_bit xs ys last).gates [] (every_less xs ys last) tt
  every_binary term (binary.Word operator) xs ys last bit = every_word operator xs ys last
  every_binary term binary.Load xs ys last bit = every_new term 0 8 last bit
  every_binary term binary.Join xs ys last bit = tt

  pub every_ternary : (operator : TernaryOperator) (xs ys zs : Bits) (last : ℕ) → Every Ok (ternary_bits operator xs ys zs last).gates
  unfolding ternary_bits
  every_ternary ternary.Choose xs ys zs last = every_each_two (mux_gate _) (mux_of _) ys zs last
  every_ternary ternary.Store xs ys zs last = tt

  pub every_quaternary : (operator : QuaternaryOperator) (a b c d : Bits) (last : ℕ) → Every Ok (quaternary_bits operator a b c d last).gates
  unfolding quaternary_bits
  every_quaternary quaternary.Over a b c d last = tt
  every_quaternary quaternary.Join a b c d last = tt
