use Rattle.bit_blast_laws.proofs.AssignmentsWhole.{read_both}
use Rattle.bit_blast_laws.proofs.assignments.models_are_reconstructed.Goals as goal

pub returns : goal.returns
returns c = read_both
