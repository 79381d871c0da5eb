use Rattle.std.proofs.Common.{◌∙◌, ◌+◌, ◌%◌, ◌^◌, ◌≡◌, ℕ, length, ap, arith}
use Rattle.term_core_spec.specs.Value.{operation}
use Rattle.bit_blast_spec.specs.Circuits.{none, sum_bits}
use Rattle.bit_blast_laws.specs.Meaning.{number_of, digit}
use Rattle.bit_blast_laws.proofs.Gates.{all_hold}
use Rattle.bit_blast_laws.proofs.Adders.{sum_holds}
use Rattle.bit_blast_laws.proofs.Widths.{holds-none}
use Rattle.bit_blast_laws.proofs.circuits.sums.Goals as goal

plain : (n : ℕ) → n + 0 ≡ n
plain n = omega arith

pub returns : goal.returns
unfolding operation
returns c = λ values xs ys last same truth satisfied.
    sum_holds values xs ys none last same (all_hold values last (sum_bits xs ys none last).gates satisfied)
    ∙ ap (λ b. (number_of values xs + number_of values ys + digit b) % 2 ^ length xs) (holds-none values truth)
    ∙ ap (λ n. n % 2 ^ length xs) (plain (number_of values xs + number_of values ys))
