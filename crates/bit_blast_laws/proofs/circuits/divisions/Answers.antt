use Rattle.bit_blast_spec.specs.Circuits.{division}
use Rattle.bit_blast_laws.proofs.Gates.{all_hold}
use Rattle.bit_blast_laws.proofs.Division.{division_holds}
use Rattle.bit_blast_laws.proofs.circuits.divisions.Goals as goal

pub returns : goal.returns
returns c = record {
  quotient = λ values qs rs xs ys last truth long_q long_r long_y satisfied.
      (division_holds values qs rs xs ys last truth long_q long_r long_y (all_hold values last (division qs rs xs ys last).gates satisfied)).quotient;
  remainder = λ values qs rs xs ys last truth long_q long_r long_y satisfied.
      (division_holds values qs rs xs ys last truth long_q long_r long_y (all_hold values last (division qs rs xs ys last).gates satisfied)).remainder;
}
