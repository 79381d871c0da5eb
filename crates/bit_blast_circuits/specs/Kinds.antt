-- The gates and moves that the enums of the program name, and parts of circuits that have a call of their own.
use Rattle.std.specs.Prelude.{ℕ, ◌-◌, ◌++◌, length, take}
use Rattle.clause_check_spec.specs.declared.Literal.{Literal}
use Rattle.bit_blast_spec.specs.Gates.{Build, ◌>>=◌}
use Rattle.bit_blast_spec.specs.Circuits.{Bits, none, zeros, and_gate, or_gate, xor_gate, mux_gate, and_each, sum_bits, product_bits, equal_bits, moved_up, moved_down, twice_as_wide}
use Rattle.bit_blast_circuits.specs.declared.bitwise.Connective.{Connective}
use Rattle.bit_blast_circuits.specs.declared.bitwise.Connective.TheVariants as connective
use Rattle.bit_blast_circuits.specs.declared.bitwise.With.{With}
use Rattle.bit_blast_circuits.specs.declared.bitwise.With.TheVariants as with
use Rattle.bit_blast_circuits.specs.declared.shifts.Shift.{Shift}
use Rattle.bit_blast_circuits.specs.declared.shifts.Shift.TheVariants as shift

abbrev pub gate_of : Connective → Literal → Literal → Build Literal
gate_of connective.And a b = and_gate a b
gate_of connective.Or a b = or_gate a b
gate_of connective.Xor a b = xor_gate a b
gate_of (connective.Choose c) a b = mux_gate c a b

abbrev pub gate_with : With → Literal → Build Literal
gate_with (with.AndAfter bit) x = and_gate x bit
gate_with (with.AndBefore bit) x = and_gate bit x
gate_with (with.Choose c a) x = mux_gate c a x

abbrev pub move_of : Shift → ℕ → Bits → Bits
move_of shift.Up distance xs = moved_up distance xs
move_of (shift.Down fill) distance xs = moved_down fill distance xs

-- one row of a product, added to the sum so far
abbrev pub add_row : (xs : Bits) → (index : ℕ) → (bit : Literal) → (so_far : Bits) → Build Bits
add_row xs index bit so_far = and_each (take (length xs - index) xs) bit >>= λ row. sum_bits so_far (zeros index ++ row) none

-- whether q y + r = x, in whole numbers
abbrev pub makes_up : (q r x y : Bits) → Build Literal
makes_up q r x y =
    product_bits (twice_as_wide q) (twice_as_wide y) >>= λ product. sum_bits product (twice_as_wide r) none >>= λ sum.
    equal_bits sum (twice_as_wide x)
