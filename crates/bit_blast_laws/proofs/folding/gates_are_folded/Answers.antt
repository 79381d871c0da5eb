use Rattle.std.proofs.Common.{refl}
use Rattle.bit_blast_spec.specs.FoldedGoal.{signal_at, place_of, clause_of, after_gate, after_gates}
use Rattle.bit_blast_laws.proofs.folding.gates_are_folded.Goals as goal

pub returns-clause-again : goal.returns-clause-again
unfolding signal_at place_of clause_of after_gate after_gates
returns-clause-again c = refl

pub returns-clause-apart : goal.returns-clause-apart
unfolding signal_at place_of clause_of after_gate after_gates
returns-clause-apart c = refl

pub returns-clause-signs : goal.returns-clause-signs
unfolding signal_at place_of clause_of after_gate after_gates
returns-clause-signs c = refl

pub returns-clause-constants : goal.returns-clause-constants
unfolding signal_at place_of clause_of after_gate after_gates
returns-clause-constants c = refl
