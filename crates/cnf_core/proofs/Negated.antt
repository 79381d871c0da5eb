-- The code of a negation.
use Rattle.std.proofs.Common.{◌≡◌, ◌<◌, ◌/◌, ◌%◌, ℕ, zero, suc, refl, ap, ◌∙◌, arith}
use Rattle.std.specs.Prelude.{◌==◌, not}
use Rattle.std.proofs.lemmas.Nat.{xor_shr, xor_mod}
use lib.Bits.{bit_xor, xor_zero_r}
use Rattle.clause_check_spec.specs.Clause.{negation}
use Rattle.cnf_core.specs.Codes.{literal_at}

other_digit : (rest : ℕ) → rest < 2 → (bit_xor rest 1 == 1) ≡ not (rest == 1)
other_digit zero below = refl
other_digit (suc zero) below = refl
other_digit (suc (suc rest)) below = absurd (omega (arith, below))

pub negated : (code : ℕ) → literal_at (bit_xor code 1) ≡ negation (literal_at code)
negated code = λ i. record { variable = same i; is_negated = other i }
  where
    same : bit_xor code 1 / 2 ≡ code / 2
    same = xor_shr code 1 1 ∙ xor_zero_r (code / 2)

    other : (bit_xor code 1 % 2 == 1) ≡ not (code % 2 == 1)
    other = ap (λ n. n == 1) (xor_mod code 1 1) ∙ other_digit (code % 2) (omega arith)
