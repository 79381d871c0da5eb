-- The addresses that values are.
use Rattle.std.proofs.Common.{◌≡◌, ℕ, zero, suc, refl, true≢false, arith}
use Rattle.std.proofs.lemmas.Bool.{ltb-true}
use Rattle.std.specs.Prelude.{ℤ, pos, negsuc, int_lt, unsigned_abs, false, true}
use Rattle.c_run_spec.specs.Accesses.{address_of}

pub address-below : (v : ℤ) → int_lt v (pos 0) ≡ true → address_of v ≡ 0
address-below (pos zero) h = refl
address-below (pos (suc n)) h = let below = ltb-true (suc n) 0 h in absurd (omega (arith, below))
address-below (negsuc n) h = refl

pub address-above : (v : ℤ) → int_lt v (pos 0) ≡ false → address_of v ≡ unsigned_abs v
address-above (pos n) h = refl
address-above (negsuc n) h = absurd (true≢false h)

pub ruleset addresses = (address-below, address-above)
