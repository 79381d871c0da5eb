-- The value of a store at a word of 32 bits and a byte.
use Rattle.std.proofs.Common.{◌≡◌, ℕ, refl, sym, ap, ◌∙◌}
use Rattle.term_core_spec.specs.declared.Width.TheVariants.{W8, W32}
use Rattle.term_core_spec.specs.Value.{Value, Number, Bytes, low_bits, with_byte, stored}

pub stored_is : (m new : ℕ → ℕ) (x y : Value) (address byte : ℕ) → x ≡ Number W32 address → y ≡ Number W8 byte
    → new ≡ with_byte m (low_bits 32 address) (low_bits 8 byte) → Bytes new ≡ stored (Bytes m) x y
stored_is m new x y address byte ex ey e = ap Bytes e ∙ sym (rw (ex, ey) refl)
