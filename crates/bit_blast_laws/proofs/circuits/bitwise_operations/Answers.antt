use Rattle.std.proofs.Common.{refl}
use Rattle.std.specs.Prelude.{◌&&◌, ◌||◌, bit_and, bit_or, bit_xor}
use Rattle.bit_blast_spec.specs.Circuits.{and_gate, or_gate, xor_gate, each_two, choose_bits}
use Rattle.bit_blast_laws.specs.Meaning.{differ}
use Rattle.bit_blast_laws.proofs.Gates.{all_hold}
use Rattle.bit_blast_laws.proofs.Bitwise.{zips_number, each_two_zips, and_gate_holds, or_gate_holds, xor_gate_holds, and_bits, or_bits, xor_bits, chosen_number}
use Rattle.bit_blast_laws.proofs.circuits.bitwise_operations.Goals as goal

pub returns : goal.returns
returns c = record {
  both = λ values xs ys last same satisfied.
      zips_number values ◌&&◌ bit_and refl and_bits xs ys (each_two and_gate xs ys last).out
      (each_two_zips values and_gate ◌&&◌ (and_gate_holds values) xs ys last same (all_hold values last (each_two and_gate xs ys last).gates satisfied));
  either = λ values xs ys last same satisfied.
      zips_number values ◌||◌ bit_or refl or_bits xs ys (each_two or_gate xs ys last).out
      (each_two_zips values or_gate ◌||◌ (or_gate_holds values) xs ys last same (all_hold values last (each_two or_gate xs ys last).gates satisfied));
  differ = λ values xs ys last same satisfied.
      zips_number values differ bit_xor refl xor_bits xs ys (each_two xor_gate xs ys last).out
      (each_two_zips values xor_gate differ (xor_gate_holds values) xs ys last same (all_hold values last (each_two xor_gate xs ys last).gates satisfied));
  choice = λ values literal xs ys last same satisfied.
      chosen_number values literal xs ys last same (all_hold values last (choose_bits literal xs ys last).gates satisfied);
}
