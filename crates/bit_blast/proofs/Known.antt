-- The bits of a number, one after the other.
use Rattle.std.proofs.Common.{◌≡◌, ◌<◌, ◌≤◌, ◌+◌, ◌-◌, ◌/◌, ◌%◌, ℕ, suc, [], ◌∷◌, ◌++◌, ap, sym, ◌∙◌, arith}
use Rattle.std.specs.Prelude.{◌==◌}
use Rattle.std.proofs.lemmas.List.{append_assoc, append-nil}
use Rattle.clause_check_spec.specs.declared.Literal.{Literal}
use Rattle.bit_blast_spec.specs.Circuits.{Bits}
use Rattle.bit_blast_spec.specs.Goal.{known, known_bits}

pub known_step : (out more : Bits) (count index rest : ℕ) (bit : Literal) → index < count → bit ≡ known (rest % 2 == 1) → more ≡ out ++ bit ∷ []
    → more ++ known_bits (count - (index + 1)) (rest / 2) ≡ out ++ known_bits (count - index) rest
known_step out more count index rest bit below is grown =
    let left : count - index ≡ suc (count - (index + 1)) = omega arith in
    ap (λ (list : Bits). list ++ known_bits (count - (index + 1)) (rest / 2)) grown
    ∙ append_assoc out (bit ∷ []) (known_bits (count - (index + 1)) (rest / 2))
    ∙ ap (λ (b : Literal). out ++ b ∷ known_bits (count - (index + 1)) (rest / 2)) is
    ∙ ap (λ (n : ℕ). out ++ known_bits n rest) (sym left)

pub known_end : (out : Bits) (count index rest : ℕ) → count ≤ index → out ≡ out ++ known_bits (count - index) rest
known_end out count index rest done =
    let none : count - index ≡ 0 = omega arith in
    sym (append-nil out) ∙ ap (λ (n : ℕ). out ++ known_bits n rest) (sym none)
