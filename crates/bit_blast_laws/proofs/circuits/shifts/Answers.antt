use Rattle.bit_blast_spec.specs.Circuits.{none, moved_up, moved_down, shift_bits, shift_signed_bits}
use Rattle.bit_blast_laws.proofs.Gates.{all_hold}
use Rattle.bit_blast_laws.proofs.Moves.{shift_left_holds, shift_right_holds, shift_signed_holds}
use Rattle.bit_blast_laws.proofs.circuits.shifts.Goals as goal

pub returns : goal.returns
returns c = record {
  up = λ values width k xs counts last truth power long satisfied.
      shift_left_holds values width k xs counts last truth power long (all_hold values last (shift_bits moved_up xs counts last).gates satisfied);
  down = λ values width k xs counts last truth power long satisfied.
      shift_right_holds values width k xs counts last truth power long (all_hold values last (shift_bits (moved_down none) xs counts last).gates satisfied);
  signed = λ values width k xs counts last truth power long satisfied.
      shift_signed_holds values width k xs counts last truth power long (all_hold values last (shift_signed_bits xs counts last).gates satisfied);
}
